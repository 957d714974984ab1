use Rattle.mem_model.proofs.CallsLemmas.{empty-reached}
use Rattle.mem_model.proofs.calls.calls_that_give_all_back_leave_an_empty_tree.Goals as goal

pub returns : goal.returns
returns c = empty-reached
