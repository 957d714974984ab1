use Rattle.mem_alloc.proofs.CountLemmas.{calls-counted}
use Rattle.mem_alloc.proofs.laws.calls_count_their_references.Goals as goal

pub returns : goal.returns
returns c = record { counted = calls-counted }
