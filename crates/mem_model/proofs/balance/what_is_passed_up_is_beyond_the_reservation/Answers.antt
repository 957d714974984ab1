use Rattle.std.proofs.Common.{arith}
use Rattle.mem_model.proofs.balance.what_is_passed_up_is_beyond_the_reservation.Goals as goal

pub returns-clause-beyond : goal.returns-clause-beyond
returns-clause-beyond c reservation low high rises some = omega (arith, rises, some)

pub returns-clause-within : goal.returns-clause-within
returns-clause-within c reservation low high within = omega (arith, within)
