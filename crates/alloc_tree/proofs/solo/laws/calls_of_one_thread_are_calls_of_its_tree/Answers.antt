use Rattle.alloc_tree.proofs.SoloRunLemmas.{come-to}
use Rattle.alloc_tree.proofs.solo.laws.calls_of_one_thread_are_calls_of_its_tree.Goals as goal

pub returns-clause-state : goal.returns-clause-state
returns-clause-state c calls old new has made = (come-to calls old new has made).state

pub returns-clause-answers : goal.returns-clause-answers
returns-clause-answers c calls old new has made = (come-to calls old new has made).answers
