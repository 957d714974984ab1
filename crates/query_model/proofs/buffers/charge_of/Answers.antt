-- What is refused as too large is charged what it is long.
use Rattle.std.proofs.Common.{arith}
use Rattle.query_model.proofs.RoundingLemmas.{charged_whole}
use Rattle.query_model.proofs.buffers.charge_of.Goals as goal

pub returns-in-Err : goal.returns-in-Err
returns-in-Err c = charged_whole c.args.length (omega (arith, c.in-Err.ensures.size))
