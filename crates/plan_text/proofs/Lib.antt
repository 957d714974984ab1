-- The lemmas of this crate.
mod OptionLemmas
mod ReadLemmas
mod EachLemmas
mod DifferentLemmas
mod KeyLemmas
mod FitLemmas
