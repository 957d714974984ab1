-- The cells are those of the columns so far.
use Rattle.std.proofs.Common.{◌≡◌, take}
use Rattle.row_text.proofs.PrintLemmas.{cells_at}
use Rattle.row_text.proofs.rows_slice.RowsSlice.cells_of.Given as goal

abbrev pub invariant-columns : goal.invariant-columns
invariant-columns l = l.cells.items ≡ cells_at l.place (take l.column-index l.columns)
