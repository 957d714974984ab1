use Rattle.mem_model.proofs.LawfulCallLemmas.{lawful-grant, lawful-child, lawful-close_call}
use Rattle.mem_model.proofs.LawfulReferenceLemmas.{lawful-retain_call, lawful-transfer_call, lawful-release_call}
use Rattle.mem_model.proofs.laws.each_call_keeps_the_law.Goals as goal

pub returns-clause-grant : goal.returns-clause-grant
returns-clause-grant c = lawful-grant

pub returns-clause-child : goal.returns-clause-child
returns-clause-child c = lawful-child

pub returns-clause-close : goal.returns-clause-close
returns-clause-close c = lawful-close_call

pub returns-clause-retain : goal.returns-clause-retain
returns-clause-retain c = lawful-retain_call

pub returns-clause-transfer : goal.returns-clause-transfer
returns-clause-transfer c = lawful-transfer_call

pub returns-clause-release : goal.returns-clause-release
returns-clause-release c = lawful-release_call
