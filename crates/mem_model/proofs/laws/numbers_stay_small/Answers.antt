use Rattle.mem_model.proofs.LawfulBoundLemmas.{all_of-lawful, held_of-trial}
use Rattle.mem_model.proofs.laws.numbers_stay_small.Goals as goal

pub returns-clause-all : goal.returns-clause-all
returns-clause-all c = all_of-lawful

pub returns-clause-held : goal.returns-clause-held
returns-clause-held c = held_of-trial
