-- The law is a lemma.
use Rattle.script.proofs.ReadingLemmas.{one_reading}
use Rattle.script.proofs.read.texts_have_one_reading.Goals as goal

pub returns : goal.returns
returns c = one_reading
