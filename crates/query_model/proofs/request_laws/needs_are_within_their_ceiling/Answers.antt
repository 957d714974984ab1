-- The law is a lemma on ceilings.
use Rattle.query_model.proofs.CeilingLemmas.{needs-within}
use Rattle.query_model.proofs.request_laws.needs_are_within_their_ceiling.Goals as goal

pub returns : goal.returns
returns c = needs-within
