-- The lemmas of this crate.
mod TextLemmas
mod WordLemmas
mod LineLemmas
mod SaysLemmas
mod ReadingLemmas
mod BufferLemmas
mod NumberLemmas
mod BoundLemmas
mod TraceLemmas
mod RunLemmas
mod GivenLemmas
mod SoundTraceLemmas
mod ReportLemmas
