-- The definitions of this crate, those first that others stand on.
pub mod Keys
pub mod Values
pub mod Columns
pub mod Tests
pub mod Outputs
pub mod Plans
