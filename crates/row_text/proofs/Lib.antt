-- The lemmas of tables. Crates above stand on these: of how columns lie, StoredLemmas (a number or a text more) and SliceLemmas
-- (parts, lengths, a column of the rows); of rows_from, TableLemmas (a row more), PrintLemmas (the row of a place), BuiltLemmas (rows
-- that callers build), and TypedLemmas (cells of their kind); of texts, WrittenLemmas (a table in parts).
mod NumberLemmas
mod RecordLemmas
mod LineLemmas
pub mod StoredLemmas
pub mod TableLemmas
pub mod TypedLemmas
pub mod SliceLemmas
pub mod PrintLemmas
pub mod WrittenLemmas
pub mod BuiltLemmas
pub mod IntLemmas
pub mod OneReadingLemmas
pub mod AgainLemmas
