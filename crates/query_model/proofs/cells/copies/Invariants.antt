-- The cells so far are copied.
use Rattle.std.proofs.Common.{◌≡◌, take}
use Rattle.query_model.proofs.cells.copies.Given as goal

abbrev pub invariant-loop-cell : goal.invariant-loop-cell
invariant-loop-cell l = l.copies.items ≡ take l.cell-index l.cells
