-- The values so far are these columns.
use Rattle.std.proofs.Common.{◌≡◌, Some, map, take}
use Rattle.toml.specs.View.{view}
use Rattle.plan_text.specs.Columns.{column_of}
use Rattle.plan_text.specs.Values.{each_of}
use Rattle.plan_text.proofs.columns.each_column.Given as goal

abbrev pub invariant-values : goal.invariant-values
invariant-values l = each_of column_of (map view (take l.value-index l.values)) ≡ Some l.columns.items
