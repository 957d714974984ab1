-- The definitions of this crate, those first that others stand on.
pub mod Cells
pub mod Buffers
pub mod Bytes
pub mod Filter
pub mod Answer
pub mod Fit
pub mod Requests
pub mod SequentialCalls
