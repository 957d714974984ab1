use Rattle.mem_model.proofs.CallsLemmas.{owned-reached, numbers-reached}
use Rattle.mem_model.proofs.calls.each_live_chunk_is_charged_to_one_allocator.Goals as goal

pub returns-clause-owned : goal.returns-clause-owned
returns-clause-owned c = owned-reached

pub returns-clause-numbered : goal.returns-clause-numbered
returns-clause-numbered c = numbers-reached
