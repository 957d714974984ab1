-- The text of the result, by the calls of one worker.
use Rattle.std.proofs.Common.{◌++◌, ◌∙◌, subst}
use Rattle.leak_report.specs.LawfulReport.{IsLawfulReport}
use Rattle.row_text.specs.Answer.{table_text}
use Rattle.pipeline.specs.Query.{closed_text, header_of}
use Rattle.pipeline.proofs.ResultLemmas.{report-is}
use Rattle.pipeline.proofs.run.write_query.Goals as goal

pub returns-in-Ok-write_result-clause-text : goal.returns-in-Ok-write_result-clause-text
returns-in-Ok-write_result-clause-text g c =
    let report = report-is c.args.plan.now c.args.rows.now.rows c.query_result.new.tree c.in_ok-batches.ensures.state
    c.in_ok-batches.ensures.peaks in
    c.in-Ok-write_result.ensures.text
    ∙ (λ i. table_text (header_of c.args.plan.now) (c.in_ok-batches.ensures.rows i) ++ (report i ++ closed_text 6))

pub returns-in-Ok-write_result-clause-lawful : goal.returns-in-Ok-write_result-clause-lawful
returns-in-Ok-write_result-clause-lawful g c =
    subst IsLawfulReport
    (report-is c.args.plan.now c.args.rows.now.rows c.query_result.new.tree c.in_ok-batches.ensures.state c.in_ok-batches.ensures.peaks)
    c.in-Ok-write_result.ensures.lawful
