use Rattle.std.proofs.Common.{◌∷◌, sym, ◌∙◌}
use Rattle.mem_model.specs.Request.{is_past_limit}
use Rattle.mem_model.proofs.RequestLemmas.{lowest_takes, lowest_keeps}
use Rattle.mem_model.proofs.request.refusing_level.Goals as goal
use Rattle.mem_model.proofs.request.refusing_level.Goals.{then-is_past_limit, else-is_past_limit}

pub loop-level-preserved : goal.loop-level-preserved
loop-level-preserved c =
    let past = is_past_limit c.args.nodes.now (c.args.request ∷ c.args.charges.now) in
    let tested = rw (c.deref.ensures.value, c.in_ok-trial.ensures) at c.is_past_limit.ensures in
    let levels = c.deref-level-items.result.now in
    let i = c.loop-level.level-index in (
      c.loop-level.invariant.0,
      elim c.if-is_past_limit.branch [
        | then-is_past_limit w ↦ w.refusing-is ∙ lowest_takes past levels i _ c.loop-level-test.true (sym tested ∙ w.if-is_past_limit.true)
        | else-is_past_limit w ↦ w.refusing-is ∙ c.loop-level.invariant.1 ∙ lowest_keeps past levels i _ c.loop-level-test.true (sym tested ∙ w.if-is_past_limit.false)
      ],
    )
