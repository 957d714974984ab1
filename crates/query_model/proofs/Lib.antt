-- The lemmas of this crate. A crate above reads columns back by `offset_at`, `read_back` and `lengths_of`, and knows by
-- `parts-shorter`, `groups-short` and `sizes-summed` how long buffers are and what they are charged.
pub mod BytesLemmas
pub mod WorkedExamples
pub mod KeyLemmas
pub mod RisingLemmas
pub mod SumLemmas
pub mod GroupLemmas
pub mod BatchLemmas
pub mod CutLemmas
pub mod RoundingLemmas
pub mod WithinLemmas
pub mod PartLemmas
pub mod CeilingLemmas
pub mod GroupLengthLemmas
pub mod GrownTreeLemmas
pub mod RoomLemmas
pub mod AdequateLemmas
pub mod AskedLemmas
pub mod RefusalLemmas
pub mod ProgramLemmas
