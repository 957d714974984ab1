-- The lemmas of this crate.
pub mod CallLemmas
pub mod TreeStoringLemmas
