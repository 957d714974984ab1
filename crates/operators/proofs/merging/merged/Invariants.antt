-- The rows of the first batches were added.
use Rattle.std.proofs.Common.{take}
use Rattle.operators.specs.Groups.{AreGroups, rows_in_all}
use Rattle.operators.proofs.merging.merged.Given as goal

abbrev pub invariant-input : goal.invariant-input
invariant-input g l = AreGroups 0 l.columns.items (rows_in_all (take l.batch-index l.input)) l.groups
