-- The definitions of this crate, those first that others stand on.
pub mod Names
pub mod Chunks
pub mod TakeOver
pub mod Rows
pub mod Placed
pub mod Walk
pub mod Counting
pub mod Fields
pub mod SoloView
pub mod SoloMeaning
pub mod SoloCalls
pub mod SoloPlanned
