-- Eight marks of a place, or as many as there are.
use Rattle.std.proofs.Common.{◌∙◌}
use Rattle.batch_vec.proofs.BitLemmas.{byte_there}
use Rattle.batch_vec.proofs.bits.byte_at.Goals as goal

pub returns : goal.returns
returns c = record { value = c.byte_of.ensures.value ∙ byte_there c.args.known.now c.args.place c.min.result c.min.ensures }
