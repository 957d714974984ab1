use Rattle.mem_model.proofs.ChargeSumLemmas.{charged-owner, charged-others}
use Rattle.mem_model.proofs.chunk_laws.a_chunk_is_charged_to_its_owner.Goals as goal

pub returns-clause-owner : goal.returns-clause-owner
returns-clause-owner c = charged-owner

pub returns-clause-others : goal.returns-clause-others
returns-clause-others c = charged-others
