-- The calls run as the plan does.
use Rattle.alloc_tree.proofs.SoloPlannedLemmas.{planned-after, planned-told}
use Rattle.alloc_tree.proofs.solo.laws.calls_that_were_planned_leave_what_the_plan_leaves.Goals as goal

pub returns-clause-after : goal.returns-clause-after
returns-clause-after c = planned-after

pub returns-clause-told : goal.returns-clause-told
returns-clause-told c = planned-told
