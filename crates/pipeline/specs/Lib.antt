-- The definitions of this crate, those first that others stand on.
pub mod Query
pub mod Holding
pub mod Closing
pub mod BatchRun
pub mod Opening
pub mod Stages
