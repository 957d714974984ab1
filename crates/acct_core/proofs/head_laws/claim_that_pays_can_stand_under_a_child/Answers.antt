use Rattle.acct_core.proofs.FixedTreeLemmas.{paying_lawful}
use Rattle.acct_core.proofs.head_laws.claim_that_pays_can_stand_under_a_child.Goals as goal

pub returns : goal.returns
returns c = paying_lawful
