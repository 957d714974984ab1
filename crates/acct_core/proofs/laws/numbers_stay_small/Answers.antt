use Rattle.acct_core.proofs.SafeLemmas.{small_held, few_uses}
use Rattle.acct_core.proofs.laws.numbers_stay_small.Goals as goal

pub returns-clause-held : goal.returns-clause-held
returns-clause-held c = small_held

pub returns-clause-uses : goal.returns-clause-uses
returns-clause-uses c = few_uses
