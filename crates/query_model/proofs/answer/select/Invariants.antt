-- The picked cells of the rows so far.
use Rattle.std.proofs.Common.{◌≡◌, map, take}
use Rattle.query_model.specs.Answer.{picked}
use Rattle.query_model.proofs.answer.select.Given as goal

abbrev pub invariant-loop-row : goal.invariant-loop-row
invariant-loop-row l = l.answer.items ≡ map (picked l.picks) (take l.row-index l.rows)
