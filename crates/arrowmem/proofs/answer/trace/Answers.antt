use Rattle.std.proofs.Common.{Ok}
use Rattle.arrowmem.specs.Answers as answers
use Rattle.arrowmem.specs.Answers.{ScriptAnswers}
use Rattle.arrowmem.proofs.StepLemmas.{fault_answers, given_answers, told_anyway}
use Rattle.arrowmem.proofs.answer.trace.Goals as goal

pub returns-in-Ok-clause-answers : goal.returns-in-Ok-clause-answers
returns-in-Ok-clause-answers g c =
    given_answers _ c.args.file.now (λ files. ScriptAnswers c.args.file.now) _ _ _ c.in-Ok.ensures.bytes
    (told_anyway _ _ (ScriptAnswers c.args.file.now (Ok _)) _ (rw c.deref.ensures.value at c.run_script.ensures.answers))

pub returns-clause-answers : goal.returns-clause-answers
returns-clause-answers g c =
    fault_answers _ c.args.file.now (λ files. ScriptAnswers c.args.file.now) _ _ _ c.in-Err.fault
    (λ files status told. answers.ScriptAnswers.fault told) c.in-Err.ensures.bytes c.say_fault.ensures.answers
