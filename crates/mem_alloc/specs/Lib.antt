-- The definitions of this crate, those first that others stand on.
pub mod RunningToken
pub mod Counts
pub mod Tokens
pub mod Pins
pub mod Locked
