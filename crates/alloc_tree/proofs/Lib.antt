-- The lemmas of this crate.
pub mod NamesLemmas
mod ChunkLemmas
mod ReferenceLemmas
mod ChangeLemmas
mod RowLemmas
mod WalkLemmas
mod RisingLemmas
mod RaiseLemmas
mod LowerLemmas
mod ForceLemmas
mod OpenLemmas
mod LookLemmas
mod OpeningLemmas
mod StateLemmas
mod UseLemmas
mod GrantLemmas
mod CallLemmas
mod DoneLemmas
mod CountLemmas
mod RetainLemmas
mod TakeOverLemmas
mod TransferLemmas
mod LeftLemmas
mod ReleaseLemmas
mod ChildLemmas
mod CloseLemmas
mod HeadroomLemmas
mod SoloNodeLemmas
mod SoloRefusalLemmas
mod SoloGrantLemmas
mod SoloShareLemmas
mod SoloCallLemmas
mod SoloRunLemmas
pub mod SoloPayLemmas
pub mod SoloStepLemmas
pub mod SoloPlannedLemmas
