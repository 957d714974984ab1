use Rattle.mem_model.proofs.OwnerLemmas.{next_owner-least, next_owner-stays}
use Rattle.mem_model.proofs.chunk_laws.the_next_owner_is_the_least.Goals as goal

pub returns-clause-least : goal.returns-clause-least
returns-clause-least c = next_owner-least

pub returns-clause-stays : goal.returns-clause-stays
returns-clause-stays c = next_owner-stays
