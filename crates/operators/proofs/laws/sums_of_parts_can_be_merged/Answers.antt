-- The sums of parts are summable.
use Rattle.operators.proofs.PartLemmas.{parts-summable}
use Rattle.operators.proofs.laws.sums_of_parts_can_be_merged.Goals as goal

pub returns : goal.returns
returns c = parts-summable
