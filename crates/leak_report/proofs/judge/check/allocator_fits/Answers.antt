-- The numbers are of their types.
use Rattle.std.proofs.Common.{arith, refl, subst}
use Rattle.leak_report.specs.LawfulReport.{AllocatorFits}
use Rattle.leak_report.proofs.judge.check.allocator_fits.Goals as goal

pub returns : goal.returns
returns c =
    (λ _. subst AllocatorFits c.printed.view_is (record { number = omega arith; reservation = omega arith; held = omega arith; peak = omega arith; limit = omega arith }), λ _. refl)
