-- The keys, and the first sums.
use Rattle.std.proofs.Common.{◌≡◌, take}
use Rattle.operators.specs.Groups.{group_columns}
use Rattle.operators.proofs.groups.columns_of.Given as goal

abbrev pub invariant-sums : goal.invariant-sums
invariant-sums l = l.columns.items ≡ group_columns l.keys (take l.sum-index l.sums) l.order
