use Rattle.mem_model.proofs.BalanceLemmas.{lower_passes_on}
use Rattle.mem_model.proofs.balance.a_fall_passes_on_what_was_beyond_the_reservation.Goals as goal

pub returns : goal.returns
returns c = λ nodes charges held node amount tree. lower_passes_on nodes charges held amount node tree.ordered
