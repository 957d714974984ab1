-- The definitions of this crate, those first that others stand on.
pub mod Words
pub mod Parts
pub mod Command
pub mod App
