use Rattle.mem_model.proofs.BalanceLemmas.{balanced_is_held}
use Rattle.mem_model.proofs.balance.numbers_that_balance_are_held.Goals as goal

pub returns : goal.returns
returns c = balanced_is_held
