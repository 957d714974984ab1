use Rattle.std.proofs.Common.{ap, is_some}
use Rattle.mem_model.proofs.CountedLemmas.{referred-counted}
use Rattle.mem_model.proofs.counted.counted_reference_is_to_a_live_chunk.Goals as goal

pub returns : goal.returns
returns c = λ state of some. ap is_some (referred-counted state of some).1
