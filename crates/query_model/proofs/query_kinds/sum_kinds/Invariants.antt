-- The kinds of the key and of the sums so far.
use Rattle.std.proofs.Common.{◌≡◌}
use Rattle.query_model.specs.Requests.{sum_kinds}
use Rattle.query_model.proofs.query_kinds.sum_kinds.Given as goal

abbrev pub invariant-loop-place : goal.invariant-loop-place
invariant-loop-place l = l.kinds.items ≡ sum_kinds l.place
