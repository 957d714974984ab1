-- The definitions of this crate, those first that others stand on.
pub mod TreeText
pub mod ReportText
pub mod Report
pub mod LawfulReport
pub mod PrintableTree
pub mod ReadReport
