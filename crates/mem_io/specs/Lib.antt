-- What shelves and sinks answer.
pub mod Faults
pub mod Fill
pub mod Shelf
pub mod Open
pub mod Sink
pub mod MemShelf
pub mod MemSink
