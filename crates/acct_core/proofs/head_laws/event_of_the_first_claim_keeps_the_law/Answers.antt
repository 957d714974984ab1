use Rattle.acct_core.proofs.HeadLemmas.{head_lawful, head_fixed}
use Rattle.acct_core.proofs.head_laws.event_of_the_first_claim_keeps_the_law.Goals as goal

pub returns-clause-law : goal.returns-clause-law
returns-clause-law c = head_lawful

pub returns-clause-fixed : goal.returns-clause-fixed
returns-clause-fixed c = head_fixed
