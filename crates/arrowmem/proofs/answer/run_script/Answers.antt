use Rattle.std.proofs.Common.{Err, ap, ◌∙◌}
use Rattle.arrowmem.proofs.StepLemmas.{script_done, script_unreadable}
use Rattle.arrowmem.proofs.answer.run_script.Goals as goal

pub returns-in-Ok-clause-answers : goal.returns-in-Ok-clause-answers
returns-in-Ok-clause-answers c = script_done _ _ _ _ c.requires c.in-Ok.ensures.text

pub returns-in_ok-say_place-in-Err-Bad-clause-answers : goal.returns-in_ok-say_place-in-Err-Bad-clause-answers
returns-in_ok-say_place-in-Err-Bad-clause-answers c =
    script_unreadable _ _ _ _ c.in-Err-Bad.line (c.in-Err-Bad.ensures.err ∙ c.requires)
    (c.in-Err-Bad.ensures.bad c.in-Err-Bad.line (ap Err c.in-Err-Bad.field-0-is)) c.in_ok-say_place-in-Err-Bad.ensures
