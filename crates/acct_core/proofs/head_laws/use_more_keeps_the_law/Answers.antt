use Rattle.acct_core.proofs.HeadLemmas.{enter_head}
use Rattle.acct_core.proofs.head_laws.use_more_keeps_the_law.Goals as goal

pub returns : goal.returns
returns c = enter_head
