use Rattle.std.proofs.Common.{◌≡◌, ◌+◌, drop}
use Rattle.mem_model.specs.Charge.{charged_at}
use Rattle.mem_model.proofs.charge.charged_at.Given as goal

abbrev pub invariant-loop-charge : goal.invariant-loop-charge
invariant-loop-charge l = l.total + charged_at (drop l.charge-index l.charges) l.at.0 ≡ charged_at l.charges l.at.0
