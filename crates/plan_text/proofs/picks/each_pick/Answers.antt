use Rattle.std.proofs.Common.{◌∙◌, sym, ap, Some}
use Rattle.plan_text.specs.Columns.{pick_of}
use Rattle.plan_text.proofs.EachLemmas.{each_of-more, each_of-none, each_of-begun}
use Rattle.plan_text.proofs.picks.each_pick.Goals as goal

pub values-init : goal.values-init
values-init c =
    each_of-begun (pick_of c.args.which c.args.columns.now) c.args.values.now ∙ ap Some (sym c.new-picks.ensures.items)

pub values-preserved : goal.values-preserved
values-preserved c =
    each_of-more (pick_of c.args.which c.args.columns.now) c.args.values.now c.values.value-index c.value-item.result
    c.values.picks.items c.in-Some.pick c.values-test.true c.value-item.is c.values.invariant (sym c.in-Some.ensures)
    ∙ ap Some (sym c.in_ok-push.ensures.items)

pub returns-in_default : goal.returns-in_default
returns-in_default c =
    each_of-none (pick_of c.args.which c.args.columns.now) c.args.values.now c.values.value-index c.value-item.result
    c.values-test.true c.value-item.is (sym c.in_default.ensures)
