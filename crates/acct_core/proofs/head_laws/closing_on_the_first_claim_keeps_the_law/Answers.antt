use Rattle.acct_core.proofs.HeadLemmas.{close_head}
use Rattle.acct_core.proofs.head_laws.closing_on_the_first_claim_keeps_the_law.Goals as goal

pub returns : goal.returns
returns c = close_head
