-- The definitions of this crate, those first that others stand on.
pub mod TokenView
pub mod MemoryCall
pub mod Answers
pub mod Changes
pub mod Chain
pub mod View
pub mod Callers
pub mod Storing
pub mod Moving
pub mod Listed
