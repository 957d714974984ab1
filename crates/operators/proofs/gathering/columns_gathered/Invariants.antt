-- The first columns.
use Rattle.std.proofs.Common.{◌≡◌, ◌-◌, [], length, map, take, get_or}
use Rattle.batch_vec.specs.Columns.{cells_from}
use Rattle.operators.proofs.gathering.columns_gathered.Given as goal

abbrev pub invariant-columns : goal.invariant-columns
invariant-columns l = l.columns.items ≡ take (length l.columns.items) (cells_from 0 l.rows.kinds (map
    (λ place. get_or l.rows.rows place []) l.places))

abbrev pub decreases-columns : goal.decreases-columns
decreases-columns l = length l.rows.kinds - length l.columns.items
