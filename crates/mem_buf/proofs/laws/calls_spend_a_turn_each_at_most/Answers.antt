use Rattle.mem_buf.proofs.ChainLemmas.{MakesCalls-names, MakesCalls-turns}
use Rattle.mem_buf.proofs.laws.calls_spend_a_turn_each_at_most.Goals as goal

pub returns-clause-turns : goal.returns-clause-turns
returns-clause-turns g c = MakesCalls-turns g.M.Memory.model

pub returns-clause-names : goal.returns-clause-names
returns-clause-names g c = MakesCalls-names g.M.Memory.model
