-- The definitions of this crate, those first that others stand on.
pub mod Places
pub mod Instead
pub mod Groups
pub mod Adding
pub mod Moving
pub mod Summable
