-- The law is a lemma on parts.
use Rattle.query_model.proofs.PartLemmas.{parts-shorter}
use Rattle.query_model.proofs.request_laws.parts_have_shorter_buffers.Goals as goal

pub returns : goal.returns
returns c = parts-shorter
