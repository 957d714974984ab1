use Rattle.mem_model.proofs.HeadroomLemmas.{refusing_level-within}
use Rattle.mem_model.proofs.headroom.a_request_within_the_headroom_is_not_refused.Goals as goal

pub returns : goal.returns
returns c = refusing_level-within
