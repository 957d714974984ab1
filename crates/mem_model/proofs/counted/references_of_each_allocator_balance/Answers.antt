use Rattle.mem_model.proofs.CountedLemmas.{counted-call}
use Rattle.mem_model.proofs.counted.references_of_each_allocator_balance.Goals as goal

pub returns : goal.returns
returns c = counted-call
