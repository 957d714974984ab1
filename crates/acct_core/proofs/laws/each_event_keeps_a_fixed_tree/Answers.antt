use Rattle.acct_core.proofs.LawLemmas.{each_move_fixed}
use Rattle.acct_core.proofs.laws.each_event_keeps_a_fixed_tree.Goals as goal

pub returns : goal.returns
returns c = each_move_fixed
