use Rattle.std.proofs.Common.{Err, ap, ◌∙◌}
use Rattle.arrowmem.proofs.StepLemmas.{rows_done, rows_refused}
use Rattle.arrowmem.proofs.query.query_rows.Goals as goal

pub returns-in-Ok-clause-answers : goal.returns-in-Ok-clause-answers
returns-in-Ok-clause-answers g c = rows_done _ _ _ _ c.requires.empty c.in-Ok.ensures.granted c.in-Ok.ensures.text

pub returns-in_ok-say_refusal-in-Err-Full-clause-answers : goal.returns-in_ok-say_refusal-in-Err-Full-clause-answers
returns-in_ok-say_refusal-in-Err-Full-clause-answers g c =
    rows_refused _ _ c.in-Err-Full.full c.in-Err-Full.batch _ _ (c.in-Err-Full.ensures.err ∙ c.requires.empty)
    (c.in-Err-Full.ensures.full c.in-Err-Full.full c.in-Err-Full.batch
    (ap Err c.in-Err-Full.field-0-is)) c.in_ok-say_refusal-in-Err-Full.ensures
