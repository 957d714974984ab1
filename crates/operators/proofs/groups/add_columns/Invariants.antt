-- The sums of the first columns have their cells, and the others are as they were.
use Rattle.std.proofs.Common.{◌≡◌, ◌++◌, take, drop}
use Rattle.operators.specs.Adding.{all_added}
use Rattle.operators.proofs.groups.add_columns.Given as goal

abbrev pub invariant-columns : goal.invariant-columns
invariant-columns l =
    l.sums ≡ take l.place (all_added l.count l.places l.rows.rows l.columns l.fn.sums) ++ drop l.place l.fn.sums
