use Rattle.mem_model.proofs.HeadroomLemmas.{is_over_limit-root, is_over_limit-child}
use Rattle.mem_model.proofs.headroom.an_allocator_is_over_a_limit_where_its_parent_is.Goals as goal

pub returns-clause-root : goal.returns-clause-root
returns-clause-root c = is_over_limit-root

pub returns-clause-child : goal.returns-clause-child
returns-clause-child c = is_over_limit-child
