-- The batches so far gave back all that they had, and the others can be run.
use Rattle.std.proofs.Common.{◌-◌}
use Rattle.pipeline.proofs.SoloRunLemmas.{AreReturnedRuns}
use Rattle.pipeline.proofs.batches.give_up.Given as goal

abbrev pub invariant-others : goal.invariant-others
invariant-others g l = AreReturnedRuns l.plan (l.number-end - l.number) l.fn.tree l.tree
