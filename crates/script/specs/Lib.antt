-- The definitions of this crate, those first that others stand on.
pub mod Words
pub mod Grammar
pub mod Reading
pub mod Count
pub mod Answers
pub mod Bound
pub mod Buffers
pub mod Trace
pub mod References
pub mod Shown
pub mod Running
