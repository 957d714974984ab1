-- The definitions of this crate, those first that others stand on.
pub mod Marks
pub mod Numbers
pub mod Offsets
pub mod Columns
pub mod Batches
pub mod Moving
