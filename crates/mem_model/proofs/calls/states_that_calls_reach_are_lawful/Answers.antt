use Rattle.mem_model.proofs.CallsLemmas.{lawful-reached}
use Rattle.mem_model.proofs.calls.states_that_calls_reach_are_lawful.Goals as goal

pub returns : goal.returns
returns c = lawful-reached
