-- The values so far are these picks.
use Rattle.std.proofs.Common.{◌≡◌, Some, map, take}
use Rattle.toml.specs.View.{view}
use Rattle.plan_text.specs.Columns.{pick_of}
use Rattle.plan_text.specs.Values.{each_of}
use Rattle.plan_text.proofs.picks.each_pick.Given as goal

abbrev pub invariant-values : goal.invariant-values
invariant-values l = each_of (pick_of l.which l.columns) (map view (take l.value-index l.values)) ≡ Some l.picks.items
