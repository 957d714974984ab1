-- All fit where those that are left do.
use Rattle.batch_vec.proofs.FittingLemmas.{LeftFit}
use Rattle.batch_vec.proofs.fitting.buffers_fit.Given as goal

abbrev pub invariant-columns : goal.invariant-columns
invariant-columns l = LeftFit l.rows l.place
