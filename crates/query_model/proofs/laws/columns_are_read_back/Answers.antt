use Rattle.query_model.proofs.BytesLemmas.{read_back}
use Rattle.query_model.proofs.laws.columns_are_read_back.Goals as goal

pub returns : goal.returns
returns c = read_back
