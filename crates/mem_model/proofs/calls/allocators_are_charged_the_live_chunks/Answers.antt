use Rattle.mem_model.proofs.ChargeSumLemmas.{charged_sum-lawful}
use Rattle.mem_model.proofs.calls.allocators_are_charged_the_live_chunks.Goals as goal

pub returns : goal.returns
returns c = charged_sum-lawful
