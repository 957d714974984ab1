-- The cells of the rows so far.
use Rattle.std.proofs.Common.{◌≡◌, take}
use Rattle.query_model.specs.Cells.{column_of}
use Rattle.query_model.proofs.buffers.column_cells.Given as goal

abbrev pub invariant-loop-row : goal.invariant-loop-row
invariant-loop-row l = l.cells.items ≡ column_of l.column (take l.row-index l.rows)
