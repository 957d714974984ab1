-- All are different where the rest are.
use Rattle.std.proofs.Common.{◌≡◌, length, nat_eq}
use Rattle.query_model.specs.Fit.{are_different}
use Rattle.plan_text.proofs.picks.are_different.Given as goal

abbrev pub invariant-rest : goal.invariant-rest
invariant-rest l = are_different nat_eq l.fn.picks ≡ are_different nat_eq l.rest

abbrev pub decreases-rest : goal.decreases-rest
decreases-rest l = length l.rest
