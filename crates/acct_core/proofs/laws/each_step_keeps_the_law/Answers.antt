use Rattle.acct_core.proofs.StateLemmas.{each_step}
use Rattle.acct_core.proofs.laws.each_step_keeps_the_law.Goals as goal

pub returns : goal.returns
returns c = each_step
