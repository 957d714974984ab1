use Rattle.std.proofs.Common.{◌≡◌, take}
use Rattle.mem_model.specs.PeakSample.{peak_of}
use Rattle.mem_model.proofs.peak_sample.peak_of.Given as goal

abbrev pub invariant-loop-sample : goal.invariant-loop-sample
invariant-loop-sample l = l.peak ≡ peak_of (take l.sample-index l.samples) l.at.0
