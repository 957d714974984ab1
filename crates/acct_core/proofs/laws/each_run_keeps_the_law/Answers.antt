use Rattle.acct_core.proofs.OpeningLemmas.{opening_is_lawful}
use Rattle.acct_core.proofs.RunLemmas.{runs_lawful}
use Rattle.acct_core.proofs.laws.each_run_keeps_the_law.Goals as goal

pub returns-clause-lawful : goal.returns-clause-lawful
returns-clause-lawful c = runs_lawful

pub returns-clause-opening : goal.returns-clause-opening
returns-clause-opening c = opening_is_lawful
