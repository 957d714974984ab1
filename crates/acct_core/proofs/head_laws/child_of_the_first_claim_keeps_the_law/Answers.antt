use Rattle.acct_core.proofs.HeadLemmas.{open_head}
use Rattle.acct_core.proofs.head_laws.child_of_the_first_claim_keeps_the_law.Goals as goal

pub returns : goal.returns
returns c = open_head
