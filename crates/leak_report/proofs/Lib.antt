-- The lemmas of this crate.
pub mod FrontLemmas
pub mod NodesLemmas
pub mod TextLemmas
pub mod PrintLemmas
pub mod PrintableLemmas
pub mod LawfulReportLemmas
pub mod WordLemmas
pub mod LineLemmas
pub mod TextLinesLemmas
pub mod ParentLemmas
pub mod MemberLemmas
pub mod OrderLemmas
pub mod SameListLemmas
pub mod ReadReportLemmas
pub mod WriteLemmas
