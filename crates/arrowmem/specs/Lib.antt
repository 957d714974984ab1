-- The definitions of this crate, those first that others stand on.
pub mod Status
pub mod Words
pub mod Command
pub mod Lines
pub mod Files
pub mod Answers
pub mod RunsTo
pub mod Steps
