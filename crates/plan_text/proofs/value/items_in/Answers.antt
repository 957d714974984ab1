use Rattle.plan_text.proofs.EachLemmas.{array-items}
use Rattle.plan_text.proofs.value.items_in.Goals as goal

pub returns-in-Some : goal.returns-in-Some
returns-in-Some c = array-items c.as_slice.result.now c.in-Some.items.now.items _ c.as_slice.ensures.value c.in-Some.ensures
