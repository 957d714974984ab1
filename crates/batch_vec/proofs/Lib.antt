-- The lemmas of this crate, those first that others stand on.
pub mod ListLemmas
pub mod BitLemmas
pub mod NumberLemmas
pub mod OffsetLemmas
pub mod EncodingLemmas
pub mod RowLemmas
pub mod StoredLemmas
pub mod DecodingLemmas
pub mod BackLemmas
pub mod FittingLemmas
pub mod RefusalLemmas
pub mod StoreLemmas
pub mod MovingLemmas
pub mod UnpickedLemmas
pub mod PickingLemmas
pub mod PickedLemmas
