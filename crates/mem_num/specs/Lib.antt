-- The definitions of this crate, those first that others stand on.
pub mod Least
pub mod Rounded
pub mod Name
pub mod Text
