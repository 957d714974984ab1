-- A number more.
use Rattle.std.proofs.Common.{◌++◌, ◌∷◌, [], ◌∙◌}
use Rattle.query_model.proofs.ProgramLemmas.{range-more}
use Rattle.query_model.proofs.answer.columns_from_one.Goals as goal

pub loop-place-preserved : goal.loop-place-preserved
loop-place-preserved c =
    c.in_ok-push-in-Ok.ensures.items
    ∙ (λ k. c.loop-place.invariant k ++ c.in-Ok.ensures.1 k ∷ [])
    ∙ range-more c.loop-place.place
