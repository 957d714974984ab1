use Rattle.std.proofs.Common.{arith}
use Rattle.mem_num.specs.declared.rounding.Rounding.TheVariants.{Power}
use Rattle.mem_num.proofs.RoundedLemmas.{power-is, large-is, rounded_size-zero}
use Rattle.mem_num.proofs.rounding.power.Goals as goal

pub returns-then-request-eq0 : goal.returns-then-request-eq0
returns-then-request-eq0 c = rounded_size-zero Power _ c.if-request-eq0.true

pub returns-then-request-ge-CHUNK : goal.returns-then-request-ge-CHUNK
returns-then-request-ge-CHUNK c = large-is _ (omega arith)

pub returns : goal.returns
returns c =
    let e = c.next_power_of_two.ensures in
    power-is _ _ c.if-request-eq0.false (omega arith) e.power (omega arith) (omega arith)
