use Rattle.arrowmem.proofs.SayLemmas.{fault_told, length_told}
use Rattle.arrowmem.proofs.say.say_fault.Goals as goal

pub returns-in_ok-say-in-Failed-clause-answers : goal.returns-in_ok-say-in-Failed-clause-answers
returns-in_ok-say-in-Failed-clause-answers c = fault_told _ _ _ c.in-Failed.is (rw c.requires.empty at c.in_ok-say-in-Failed.ensures)

pub returns-in_ok-say-in-TooLong-clause-answers : goal.returns-in_ok-say-in-TooLong-clause-answers
returns-in_ok-say-in-TooLong-clause-answers c = length_told _ _ _ c.in-TooLong.is (rw c.requires.empty at c.in_ok-say-in-TooLong.ensures)
