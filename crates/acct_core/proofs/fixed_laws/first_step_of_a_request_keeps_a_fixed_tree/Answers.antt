use Rattle.acct_core.proofs.FixedTreeLemmas.{first_rise}
use Rattle.acct_core.proofs.fixed_laws.first_step_of_a_request_keeps_a_fixed_tree.Goals as goal

pub returns : goal.returns
returns c = first_rise
