-- Lemmas of this crate, and those for who calls a memory.
pub mod PartLemmas
pub mod ChainLemmas
pub mod CauseLemmas
pub mod PayLemmas
pub mod GiveBackLemmas
pub mod StoreLemmas
pub mod StoringLemmas
pub mod MovingLemmas
