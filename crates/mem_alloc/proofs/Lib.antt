-- The lemmas of this crate, and those for who counts what calls gave.
mod PinLemmas
mod OpenLemmas
mod ChildLemmas
pub mod CountLemmas
pub mod PayLemmas
