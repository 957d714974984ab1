-- The header, and one batch more.
use Rattle.std.proofs.Common.{◌++◌, [], take, ap, ◌∙◌}
use Rattle.operators.specs.Groups.{rows_in_all}
use Rattle.operators.proofs.MergeLemmas.{rows-all, rows-taken}
use Rattle.row_text.specs.Answer.{table_text}
use Rattle.pipeline.specs.Query.{header_of}
use Rattle.pipeline.proofs.PrintLemmas.{answer-more}
use Rattle.pipeline.proofs.printing.write_answer.Goals as goal

pub batches-init : goal.batches-init
batches-init c =
    c.in_ok-header_text.ensures.text
    ∙ ap (λ header. c.args.out.now.items ++ table_text header []) (c.deref.ensures.value ∙ c.in-Ok.ensures.names)

pub batches-preserved : goal.batches-preserved
batches-preserved c =
    let taken = rows-taken c.args.batches.now c.batches.batch-index c.batch-item.result c.batches-test.true in
    answer-more c.args.out.now.items (header_of c.args.plan.now) c.args.batches.now c.batches.batch-index c.batch-item.result
    c.as_slice.result.rows c.batches.out.items c.rows_text.new.out.items c.batches-test.true
    (ap (λ batch. rows_in_all (take c.batches.batch-index c.args.batches.now) ++ batch.rows) c.batch-item.is ∙ taken)
    (ap (λ table. table.rows) c.as_slice.ensures ∙ c.in_ok-rows.ensures.rows)
    c.batches.invariant c.in_ok-rows_text.ensures.text

pub returns : goal.returns
returns c = record {
  text = c.batches.invariant
      ∙ ap (λ rows. c.args.out.now.items ++ table_text (header_of c.args.plan.now) rows)
      (rows-all c.args.batches.now c.batches.batch-index c.batches-test.false);
}
