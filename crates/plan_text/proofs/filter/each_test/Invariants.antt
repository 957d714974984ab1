-- The values so far are these tests.
use Rattle.std.proofs.Common.{◌≡◌, Some, map, take}
use Rattle.toml.specs.View.{view}
use Rattle.plan_text.specs.Tests.{test_of}
use Rattle.plan_text.specs.Values.{each_of}
use Rattle.plan_text.proofs.filter.each_test.Given as goal

abbrev pub invariant-values : goal.invariant-values
invariant-values l = each_of (test_of l.columns) (map view (take l.value-index l.values)) ≡ Some l.tests.items
