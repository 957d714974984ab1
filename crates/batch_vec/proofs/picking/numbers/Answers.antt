-- One more number is there.
use Rattle.std.proofs.Common.{rules}
use Rattle.batch_vec.proofs.UnpickedLemmas.{numbers_pushed}
use Rattle.batch_vec.proofs.picking.numbers.Goals as goal

pub numbers-preserved : goal.numbers-preserved
numbers-preserved c = numbers_pushed c.numbers.number c.numbers.made.items _ (search rules) c.numbers.invariant
