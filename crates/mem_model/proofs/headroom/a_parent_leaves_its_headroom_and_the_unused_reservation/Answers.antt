use Rattle.mem_model.proofs.HeadroomLemmas.{headroom_of-root, headroom_of-child}
use Rattle.mem_model.proofs.headroom.a_parent_leaves_its_headroom_and_the_unused_reservation.Goals as goal

pub returns-clause-root : goal.returns-clause-root
returns-clause-root c = headroom_of-root

pub returns-clause-child : goal.returns-clause-child
returns-clause-child c = headroom_of-child
