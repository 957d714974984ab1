use Rattle.mem_model.proofs.HeldLemmas.{held_of_equation}
use Rattle.mem_model.proofs.balance.what_is_held_balances.Goals as goal

pub returns : goal.returns
returns c nodes charges tree n = held_of_equation nodes charges n tree
