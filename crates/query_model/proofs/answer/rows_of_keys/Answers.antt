-- A key more.
use Rattle.std.proofs.Common.{◌++◌, ◌∷◌, [], ◌∙◌}
use Rattle.query_model.specs.Answer.{group_of}
use Rattle.query_model.proofs.ProgramLemmas.{map-pushed}
use Rattle.query_model.proofs.answer.rows_of_keys.Goals as goal

pub loop-key-preserved : goal.loop-key-preserved
loop-key-preserved c =
    c.in_ok-push.ensures.items
    ∙ (λ k. c.loop-key.invariant k ++ c.in_ok-group_of.ensures k ∷ [])
    ∙ map-pushed (group_of c.args.column c.args.sums.now c.args.rows.now) c.args.keys.now c.loop-key.key-index c.key-item.result
    c.loop-key-test.true c.key-item.is
