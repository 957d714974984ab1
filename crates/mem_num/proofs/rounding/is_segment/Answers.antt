use Rattle.std.proofs.Common.{arith, subst, eq-eqb}
use Rattle.std.proofs.lemmas.Bool.{eqb-true}
use Rattle.std.specs.Int.{IsPowerOfTwo}
use Rattle.mem_num.proofs.RoundedLemmas.{next_power-same}
use Rattle.mem_num.proofs.rounding.is_segment.Goals as goal

pub returns : goal.returns
returns c =
    let next = c.next_power_of_two.ensures in (
      λ same. (subst IsPowerOfTwo (eqb-true _ _ same) next.power, omega arith, omega arith),
      λ policy. eq-eqb _ _ (next_power-same c.args.size c.next_power_of_two.result (omega arith) next.power next.lower_bound next.upper_bound policy.0),
    )
