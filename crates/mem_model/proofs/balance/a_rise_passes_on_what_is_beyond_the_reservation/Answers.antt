use Rattle.mem_model.proofs.BalanceLemmas.{raise_passes_on}
use Rattle.mem_model.proofs.balance.a_rise_passes_on_what_is_beyond_the_reservation.Goals as goal

pub returns : goal.returns
returns c = λ nodes charges held node amount tree. raise_passes_on nodes charges held amount node tree.ordered
