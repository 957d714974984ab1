-- The held text, and all that was closed.
use Rattle.std.proofs.Common.{◌++◌, [], ◌∷◌, drop, slice_index_or, ap, ◌∙◌, append_assoc}
use Rattle.mem_model.specs.MeasuredTree.{peak_at}
use Rattle.leak_report.specs.ReportText.{report_text}
use Rattle.operators.specs.Groups.{rows_in_all}
use Rattle.operators.specs.Instead.{references_of}
use Rattle.row_text.specs.Answer.{table_text}
use Rattle.pipeline.specs.Query.{closed_text, header_of, query_names}
use Rattle.pipeline.proofs.ResultLemmas.{all-closed}
use Rattle.pipeline.proofs.run.write_result.Goals as goal

pub returns-clause-text : goal.returns-clause-text
returns-clause-text c =
    let six = all-closed (slice_index_or c.args.plan.now.limits 0 0) (drop 1 c.args.plan.now.limits) c.args.plan.now.reserves
    (references_of (λ hold. hold) c.args.batches.items) c.args.tree.now c.release_batches.new.token
    c.every_plan_has_five_children.ensures.limits c.every_plan_has_five_children.ensures.reserves c.requires.nodes
    c.every_tree_is_lawful.ensures c.every_tree_is_lawful-2.ensures c.requires.counted c.release_batches.ensures.calls in
    let answer = table_text (header_of c.args.plan.now) (rows_in_all c.args.batches.items) in
    let report = report_text (query_names ∷ []) (peak_at c.args.tree.now) c.args.tree.now.state in
    c.in_ok-write_closed.ensures.text
    ∙ (λ i. c.in_ok-written.ensures.text i ++ closed_text ((c.close_all-closed.ensures.done ∙ six) i))
    ∙ ap (λ list. (table_text (header_of c.args.plan.now) (rows_in_all list) ++ report) ++ closed_text 6) c.deref.ensures.value
    ∙ append_assoc answer report (closed_text 6)
