use Rattle.mem_model.proofs.RunLemmas.{opened-state, opened-peaks}
use Rattle.mem_model.proofs.calls.peaks_are_the_greatest_of_the_samples.Goals as goal

pub returns-clause-state : goal.returns-clause-state
returns-clause-state c = opened-state

pub returns-clause-peaks : goal.returns-clause-peaks
returns-clause-peaks c = opened-peaks
