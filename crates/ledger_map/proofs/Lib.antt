-- The lemmas of this crate.
pub mod ReleaseLemmas
pub mod RetainLemmas
