-- Some batches were given back, and the others are left.
use Rattle.std.proofs.Common.{◌≡◌, length}
use Rattle.std.specs.Vec.Iter.{into_iter_items, into_iter_len}
use Rattle.operators.proofs.InsteadLemmas.{HasReleased}
use Rattle.operators.proofs.storing_instead.release_left.Given as goal

abbrev pub invariant-loop-batch : goal.invariant-loop-batch
invariant-loop-batch g l =
    HasReleased g.M.Memory.model (into_iter_items l.fn.input) (into_iter_items l.left) l.fn.token l.token
    × (into_iter_len l.left ≡ length (into_iter_items l.left))

abbrev pub decreases-loop-batch : goal.decreases-loop-batch
decreases-loop-batch g l = into_iter_len l.left
