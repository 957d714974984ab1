use Rattle.mem_model.proofs.CallBalanceLemmas.{references-call}
use Rattle.mem_model.proofs.CallsLemmas.{references-calls}
use Rattle.mem_model.proofs.calls.references_balance.Goals as goal

pub returns-clause-call : goal.returns-clause-call
returns-clause-call c = references-call

pub returns-clause-calls : goal.returns-clause-calls
returns-clause-calls c = references-calls
