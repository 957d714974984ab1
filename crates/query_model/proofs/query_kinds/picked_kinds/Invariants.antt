-- The kinds of the picked columns so far.
use Rattle.std.proofs.Common.{◌≡◌, take}
use Rattle.query_model.specs.Requests.{picked_kinds}
use Rattle.query_model.proofs.query_kinds.picked_kinds.Given as goal

abbrev pub invariant-loop-pick : goal.invariant-loop-pick
invariant-loop-pick l = l.picked.items ≡ picked_kinds l.kinds (take l.pick-index l.picks)
