use Rattle.query_model.proofs.BytesLemmas.{lengths_of}
use Rattle.query_model.proofs.laws.columns_have_their_lengths.Goals as goal

pub returns : goal.returns
returns c = lengths_of
