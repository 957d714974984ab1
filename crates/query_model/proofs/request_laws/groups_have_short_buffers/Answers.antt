-- The law is a lemma on groups.
use Rattle.query_model.proofs.GroupLengthLemmas.{groups-short}
use Rattle.query_model.proofs.request_laws.groups_have_short_buffers.Goals as goal

pub returns : goal.returns
returns c = groups-short
