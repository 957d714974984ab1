use Rattle.std.proofs.Common.{◌∙◌, sym, ap, Some, map}
use Rattle.toml.specs.View.{view}
use Rattle.plan_text.specs.Columns.{column_of}
use Rattle.plan_text.specs.Values.{each_of}
use Rattle.plan_text.proofs.EachLemmas.{each_of-more, each_of-none, each_of-begun}
use Rattle.plan_text.proofs.ReadLemmas.{whole-refused}
use Rattle.plan_text.proofs.columns.each_column.Goals as goal

pub values-init : goal.values-init
values-init c = each_of-begun column_of c.args.values.now ∙ ap Some (sym c.new-columns.ensures.items)

pub values-preserved : goal.values-preserved
values-preserved c =
    each_of-more column_of c.args.values.now c.values.value-index c.value-item.result
    c.values.columns.items c.in_ok-read_column.field-0
    c.values-test.true c.value-item.is c.values.invariant c.in_ok-read_column.ensures
    ∙ ap Some (sym c.in_ok-push.ensures.items)

pub returns-in_err-read_column : goal.returns-in_err-read_column
returns-in_err-read_column c =
    whole-refused (column_of (view c.value-item.result)) (each_of column_of (map view c.args.values.now))
    c.in_err-read_column.field-0.0 c.from_residual.result c.in_err-read_column.ensures
    (each_of-none column_of c.args.values.now c.values.value-index c.value-item.result c.values-test.true c.value-item.is)
    c.from_residual.ensures
