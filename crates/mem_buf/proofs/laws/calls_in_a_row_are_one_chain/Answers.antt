use Rattle.mem_buf.proofs.ChainLemmas.{MakesCalls-append}
use Rattle.mem_buf.proofs.laws.calls_in_a_row_are_one_chain.Goals as goal

pub returns : goal.returns
returns g c = MakesCalls-append g.M.Memory.model
