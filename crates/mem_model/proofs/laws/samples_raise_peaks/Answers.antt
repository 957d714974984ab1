use Rattle.mem_model.proofs.PeakLemmas.{peak_of-append}
use Rattle.mem_model.proofs.laws.samples_raise_peaks.Goals as goal

pub returns : goal.returns
returns c = peak_of-append
