use Rattle.std.proofs.Common.{arith, true, false, ◌∙◌, sym}
use Rattle.mem_model.proofs.ChargeLemmas.{charged_at-drop_all, charged_at-drop}
use Rattle.mem_model.proofs.charge.charged_at.Goals as goal
use Rattle.mem_model.proofs.charge.charged_at.Goals.{then-eq, else-eq}

pub returns : goal.returns
returns c = omega (arith, charged_at-drop_all c.args.charges.now c.loop-charge.charge-index c.args.at.0 c.loop-charge-test.false)

pub overflow_add-total : goal.overflow_add-total
overflow_add-total c =
    omega (arith, c.requires, charged_at-drop c.args.charges.now c.loop-charge.charge-index c.args.at.0 _ true c.loop-charge-test.true (sym c.if-eq.true ∙ c.eq.ensures))

pub loop-charge-preserved : goal.loop-charge-preserved
loop-charge-preserved c =
    elim c.if-eq.branch [
      | then-eq w ↦ omega (arith, charged_at-drop c.args.charges.now c.loop-charge.charge-index c.args.at.0 _ true c.loop-charge-test.true (sym w.if-eq.true ∙ c.eq.ensures))
      | else-eq w ↦ omega (arith, charged_at-drop c.args.charges.now c.loop-charge.charge-index c.args.at.0 _ false c.loop-charge-test.true (sym w.if-eq.false ∙ c.eq.ensures))
    ]
