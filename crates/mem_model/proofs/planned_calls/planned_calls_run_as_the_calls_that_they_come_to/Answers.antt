use Rattle.mem_model.proofs.PlannedLemmas.{run-planned}
use Rattle.mem_model.proofs.planned_calls.planned_calls_run_as_the_calls_that_they_come_to.Goals as goal

pub returns : goal.returns
returns c = run-planned
