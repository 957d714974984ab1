-- Each clause is a lemma on buffers.
use Rattle.query_model.proofs.WithinLemmas.{met-count, met-place, met-bound, met-charges}
use Rattle.query_model.proofs.request_laws.fewer_rows_have_shorter_buffers.Goals as goal

pub returns : goal.returns
returns c = record { count = met-count; lengths = met-place; bound = met-bound; charges = met-charges }
