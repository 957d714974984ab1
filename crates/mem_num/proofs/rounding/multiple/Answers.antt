use Rattle.std.proofs.Common.{arith}
use Rattle.mem_num.proofs.RoundedLemmas.{multiple-is}
use Rattle.mem_num.proofs.rounding.multiple.Goals as goal

pub returns : goal.returns
returns c =
    let e = c.next_multiple_of.ensures in
    multiple-is _ _ _ (omega arith) e.multiple e.lower_bound e.upper_bound
