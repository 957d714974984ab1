-- All are different where the rest are.
use Rattle.std.proofs.Common.{◌≡◌, length}
use Rattle.query_model.specs.Fit.{are_different, have_one_name}
use Rattle.plan_text.proofs.columns.have_different_names.Given as goal

abbrev pub invariant-rest : goal.invariant-rest
invariant-rest l = are_different have_one_name l.fn.columns ≡ are_different have_one_name l.rest

abbrev pub decreases-rest : goal.decreases-rest
decreases-rest l = length l.rest
