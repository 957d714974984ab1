use Rattle.std.proofs.Common.{arith}
use Rattle.mem_model.proofs.ChargeLemmas.{charged_at-le-amounts}
use Rattle.mem_model.proofs.bound.fits.Goals as goal

pub returns-clause-charged : goal.returns-clause-charged
returns-clause-charged c fits n = omega (arith, c.loop-node.invariant.sum, c.loop-node.invariant.small, charged_at-le-amounts c.args.charges.now n)
