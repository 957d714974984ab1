-- The text of the cells so far, which is within the bound.
use Rattle.std.proofs.Common.{◌≡◌, ◌≤◌, take}
use Rattle.query_model.specs.Buffers.{texts_length}
use Rattle.query_model.specs.declared.bounds.TheConstants.{MOST_TEXT_BYTES}
use Rattle.query_model.proofs.buffers.texts_fit.Given as goal

abbrev pub invariant-loop-cell : goal.invariant-loop-cell
invariant-loop-cell l = record {
  total : l.total ≡ texts_length (take l.cell-index l.cells);
  fits : l.total ≤ MOST_TEXT_BYTES;
}
