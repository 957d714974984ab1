-- The picked cells so far.
use Rattle.std.proofs.Common.{◌≡◌, take}
use Rattle.query_model.specs.Answer.{picked}
use Rattle.query_model.proofs.answer.picked.Given as goal

abbrev pub invariant-loop-pick : goal.invariant-loop-pick
invariant-loop-pick l = l.cells.items ≡ picked (take l.pick-index l.picks) l.row
