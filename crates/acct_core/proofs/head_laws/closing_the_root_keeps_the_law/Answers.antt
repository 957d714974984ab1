use Rattle.acct_core.proofs.HeadLemmas.{close_root}
use Rattle.acct_core.proofs.head_laws.closing_the_root_keeps_the_law.Goals as goal

pub returns : goal.returns
returns c = close_root
