use Rattle.mem_model.proofs.LawfulCloseLemmas.{uses-closed}
use Rattle.mem_model.proofs.laws.closed_allocator_has_no_uses.Goals as goal

pub returns : goal.returns
returns c = uses-closed
