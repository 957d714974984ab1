use Rattle.std.proofs.Common.{Err, ap}
use Rattle.arrowmem.specs.Answers as answers
use Rattle.arrowmem.specs.Answers.{PlanAnswers}
use Rattle.arrowmem.proofs.StepLemmas.{bad_plan_answers, bad_plan_asked, both_asked, fault_answers, plan_asked, planned_answers, planned_lawful}
use Rattle.arrowmem.proofs.query.query.Goals as goal

pub returns-in-Ok-read_plan-clause-answers : goal.returns-in-Ok-read_plan-clause-answers
returns-in-Ok-read_plan-clause-answers g c =
    planned_answers _ _ _ _ _ _ _ _ c.in-Ok.ensures.bytes c.in-Ok.ensures.told
    (rw c.deref.ensures.value at c.in-Ok-read_plan.ensures.read)
    c.query_table.ensures.answers

pub returns-in-Ok-read_plan-clause-lawful : goal.returns-in-Ok-read_plan-clause-lawful
returns-in-Ok-read_plan-clause-lawful g c =
    planned_lawful _ _ _ _ _ _ _ c.in-Ok.ensures.bytes c.in-Ok.ensures.told (rw c.deref.ensures.value at c.in-Ok-read_plan.ensures.read)
    (c.bytes_are_one_plan.ensures _) c.query_table.ensures.lawful

pub returns-in-Ok-read_plan-clause-asked : goal.returns-in-Ok-read_plan-clause-asked
returns-in-Ok-read_plan-clause-asked g c =
    both_asked _ c.args.table.now _ _ _ _ _ c.in-Ok.ensures.bytes c.in-Ok.ensures.told
    (rw c.deref.ensures.value at c.in-Ok-read_plan.ensures.read)
    c.query_table.ensures.asked

pub returns-in_err-say-in-Err-Bad-clause-asked : goal.returns-in_err-say-in-Err-Bad-clause-asked
returns-in_err-say-in-Err-Bad-clause-asked g c = plan_asked _ _ _ c.in-Ok.ensures.told

pub returns-in-Err-Bad-clause-answers : goal.returns-in-Err-Bad-clause-answers
returns-in-Err-Bad-clause-answers g c =
    bad_plan_answers _ _ _ _ _ c.in-Ok.ensures.bytes
    (rw c.deref.ensures.value at (c.in-Err-Bad.ensures.bad (ap Err c.in-Err-Bad.field-0-is)))
    (rw c.requires.empty at c.in_ok-say-in-Err-Bad.ensures)

pub returns-in-Err-Bad-clause-asked : goal.returns-in-Err-Bad-clause-asked
returns-in-Err-Bad-clause-asked g c = plan_asked _ _ _ c.in-Ok.ensures.told

pub returns-in-Err-Bad-clause-table_asked : goal.returns-in-Err-Bad-clause-table_asked
returns-in-Err-Bad-clause-table_asked g c =
    bad_plan_asked _ c.args.table.now _ _ _ c.in-Ok.ensures.bytes
    (rw c.deref.ensures.value at (c.in-Err-Bad.ensures.bad (ap Err c.in-Err-Bad.field-0-is)))

pub returns-in-Ok-clause-asked : goal.returns-in-Ok-clause-asked
returns-in-Ok-clause-asked g c = plan_asked _ _ _ c.in-Ok.ensures.told

pub returns-clause-answers : goal.returns-clause-answers
returns-clause-answers g c =
    fault_answers _ c.args.plan.now (λ files. PlanAnswers files c.args.plan.now c.args.table.now) _ _ _ c.in-Err.fault
    (λ files status told. answers.PlanAnswers.fault told) c.in-Err.ensures.bytes c.say_fault.ensures.answers

pub returns-clause-asked : goal.returns-clause-asked
returns-clause-asked g c = plan_asked _ _ _ c.in-Err.ensures.told
