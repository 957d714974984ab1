-- The definitions of this crate, those first that others stand on.
pub mod Fields
pub mod Stored
pub mod Left
pub mod Lines
pub mod Table
pub mod Rows
pub mod Slices
pub mod Answer
pub mod Written
