use Rattle.mem_model.proofs.CoverLemmas.{covers-reached}
use Rattle.mem_model.proofs.calls.what_is_held_is_within_the_peak.Goals as goal

pub returns : goal.returns
returns c = covers-reached
