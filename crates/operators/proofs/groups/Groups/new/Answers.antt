-- No groups.
use Rattle.operators.proofs.AddedLemmas.{groups-none}
use Rattle.operators.proofs.groups.Groups.new.Goals as goal

pub returns : goal.returns
returns c = record {
  groups = λ key columns many. groups-none key columns _ c.args.count many c.new.ensures.value c.in_ok-no_sums.ensures.value;
}
