use Rattle.std.proofs.Common.{◌≡◌, ◌-◌, ◌^◌, min, take}
use Rattle.mem_model.specs.Charge.{charged_at}
use Rattle.leak_report.proofs.judge.check.charged_at.Given as goal

-- the charges so far
abbrev pub invariant-loop-charge : goal.invariant-loop-charge
invariant-loop-charge l = l.total ≡ min (charged_at (take l.charge-index l.charges) l.at.0) (2 ^ 128 - 1)
