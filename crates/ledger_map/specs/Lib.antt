-- The definitions of this crate, those first that others stand on.
pub mod LedgerState
pub mod Release
pub mod Fields
