use Rattle.std.proofs.Common.{Ok}
use Rattle.arrowmem.specs.Answers as answers
use Rattle.arrowmem.specs.Answers.{TableAnswers}
use Rattle.arrowmem.proofs.StepLemmas.{fault_answers, given_answers, lawful_table, told_anyway}
use Rattle.arrowmem.proofs.query.query_table.Goals as goal

pub returns-in-Ok-clause-answers : goal.returns-in-Ok-clause-answers
returns-in-Ok-clause-answers g c =
    given_answers _ c.args.table.now (λ files. TableAnswers c.args.plan.now c.args.table.now) _ _ _ c.in-Ok.ensures.bytes
    (told_anyway _ _ (TableAnswers c.args.plan.now c.args.table.now (Ok _)) _ c.query_bytes.ensures.answers)

pub returns-in-Ok-clause-lawful : goal.returns-in-Ok-clause-lawful
returns-in-Ok-clause-lawful g c =
    lawful_table _ _ _ _ _ c.in-Ok.ensures.bytes c.query_bytes.ensures.lawful

pub returns-in-Err-clause-answers : goal.returns-in-Err-clause-answers
returns-in-Err-clause-answers g c =
    fault_answers _ c.args.table.now (λ files. TableAnswers c.args.plan.now c.args.table.now) _ _ _ c.in-Err.fault
    (λ files status told. answers.TableAnswers.fault told) c.in-Err.ensures.bytes c.say_fault.ensures.answers
