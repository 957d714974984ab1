use Rattle.mem_model.proofs.DrawnLemmas.{call_draws, calls_draw}
use Rattle.mem_model.proofs.calls.a_call_draws_at_most_one_number.Goals as goal

pub returns-clause-call : goal.returns-clause-call
returns-clause-call c = call_draws

pub returns-clause-calls : goal.returns-clause-calls
returns-clause-calls c = calls_draw
