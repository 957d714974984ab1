use Rattle.std.proofs.Common.{◌∙◌, sym, ap, Some, map}
use Rattle.toml.specs.View.{view}
use Rattle.plan_text.specs.Tests.{test_of}
use Rattle.plan_text.specs.Values.{each_of}
use Rattle.plan_text.proofs.EachLemmas.{each_of-more, each_of-none, each_of-begun}
use Rattle.plan_text.proofs.ReadLemmas.{whole-refused}
use Rattle.plan_text.proofs.filter.each_test.Goals as goal

pub values-init : goal.values-init
values-init c = each_of-begun (test_of c.args.columns.now) c.args.values.now ∙ ap Some (sym c.new-tests.ensures.items)

pub values-preserved : goal.values-preserved
values-preserved c =
    each_of-more (test_of c.args.columns.now) c.args.values.now c.values.value-index c.value-item.result
    c.values.tests.items c.in_ok-read_test.field-0
    c.values-test.true c.value-item.is c.values.invariant c.in_ok-read_test.ensures
    ∙ ap Some (sym c.in_ok-push.ensures.items)

pub returns-in_err-read_test : goal.returns-in_err-read_test
returns-in_err-read_test c =
    whole-refused (test_of c.args.columns.now (view c.value-item.result))
    (each_of (test_of c.args.columns.now) (map view c.args.values.now))
    c.in_err-read_test.field-0.0 c.from_residual.result c.in_err-read_test.ensures
    (each_of-none (test_of c.args.columns.now) c.args.values.now c.values.value-index c.value-item.result
    c.values-test.true c.value-item.is)
    c.from_residual.ensures
