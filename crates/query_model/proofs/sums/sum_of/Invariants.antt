-- The sum of the rows so far.
use Rattle.std.proofs.Common.{◌≡◌, take}
use Rattle.query_model.specs.Answer.{rows_with_key, sum_of}
use Rattle.query_model.proofs.sums.sum_of.Given as goal

abbrev pub invariant-loop-row : goal.invariant-loop-row
invariant-loop-row l = l.total ≡ sum_of (rows_with_key l.key_column l.key (take l.row-index l.rows)) l.column
