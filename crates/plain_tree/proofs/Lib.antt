-- The lemmas of this crate.
pub mod SoundLemmas
pub mod ReferenceLemmas
