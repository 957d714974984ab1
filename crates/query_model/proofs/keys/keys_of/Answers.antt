-- The key of a row goes among those of the rows before it.
use Rattle.std.proofs.Common.{ap, ◌∙◌}
use Rattle.query_model.specs.Answer.{with_key}
use Rattle.query_model.specs.Cells.{printed}
use Rattle.query_model.proofs.ProgramLemmas.{keys-more}
use Rattle.query_model.proofs.keys.keys_of.Goals as goal

pub loop-row-preserved : goal.loop-row-preserved
loop-row-preserved c =
    c.in_ok-put_key.ensures
    ∙ (λ k. with_key ((c.in_ok-printed.ensures.value ∙ ap printed c.in_ok-cell_at.ensures.value) k) (c.loop-row.invariant k))
    ∙ keys-more c.args.column c.args.rows.now c.loop-row.row-index c.row-item.result c.loop-row-test.true c.row-item.is
