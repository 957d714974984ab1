-- One column more.
use Rattle.operators.proofs.MergeLemmas.{behind-more}
use Rattle.operators.proofs.merging.columns_behind.Goals as goal

pub columns-preserved : goal.columns-preserved
columns-preserved c = behind-more c.columns.place _ _ c.in_ok-push.ensures.items c.columns.invariant
