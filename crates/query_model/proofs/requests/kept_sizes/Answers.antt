-- A batch more.
use Rattle.std.proofs.Common.{◌++◌, ◌∙◌, ap, List, ℕ}
use Rattle.query_model.specs.declared.cell.Cell.{Cell}
use Rattle.query_model.specs.Answer.{answer_of}
use Rattle.query_model.specs.Buffers.{buffer_sizes}
use Rattle.query_model.specs.Requests.{answer_kinds, batch_rows}
use Rattle.query_model.proofs.ProgramLemmas.{kept-more}
use Rattle.query_model.proofs.requests.kept_sizes.Goals as goal

pub loop-batch-preserved : goal.loop-batch-preserved
loop-batch-preserved c =
    let plan = c.args.plan.now in
    let sizes : List (List Cell) → List ℕ = λ part. buffer_sizes (answer_kinds plan) (answer_of plan part) in
    c.in_ok-extend_from_slice.ensures.items
    ∙ (λ k. c.loop-batch.invariant k ++ (c.deref.ensures.value ∙ c.in_ok-sizes.ensures ∙ ap sizes c.batch_rows.ensures.value) k)
    ∙ kept-more sizes (batch_rows plan c.args.rows.now) c.loop-batch.batch
