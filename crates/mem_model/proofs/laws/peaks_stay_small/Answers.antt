use Rattle.std.proofs.Common.{arith}
use Rattle.mem_model.specs.TreeState.{opened}
use Rattle.mem_model.proofs.LawfulLemmas.{opened_lawful}
use Rattle.mem_model.proofs.SampleLemmas.{peak_of-small, samples_small}
use Rattle.mem_model.proofs.laws.peaks_stay_small.Goals as goal

pub returns : goal.returns
returns c = λ limit calls n small bounds few. peak_of-small _ n (samples_small (opened limit) calls (opened_lawful limit small) (omega (arith, few)) bounds)
