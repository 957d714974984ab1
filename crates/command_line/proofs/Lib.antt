-- The lemmas of this crate.
mod NumberLemmas
mod AppLemmas
mod RowLemmas
mod WordLemmas
mod KnowsLemmas
mod StepLemmas
mod OutcomeLemmas
mod LeafLemmas
mod RuleLemmas
mod TopLemmas
mod ReadingLemmas
mod RowsOnLiterals
