-- Some batches moved, and the others are left.
use Rattle.std.proofs.Common.{◌≡◌, ◌+◌, ◌≤◌, length}
use Rattle.std.specs.Vec.{vec_len, vec_capacity}
use Rattle.std.specs.Vec.Iter.{into_iter_items, into_iter_len}
use Rattle.operators.proofs.MovingLemmas.{HasMerged}
use Rattle.operators.proofs.merging_picked.merge_picked.Given as goal

abbrev pub invariant-loop-batch : goal.invariant-loop-batch
invariant-loop-batch g l = record {
  done : HasMerged g.M.Memory.model l.at l.fn.input.items (into_iter_items l.left) l.moved.items l.fn.token l.token;
  counted : into_iter_len l.left ≡ length (into_iter_items l.left);
  room : vec_len l.moved + into_iter_len l.left ≤ vec_capacity l.moved;
}

abbrev pub decreases-loop-batch : goal.decreases-loop-batch
decreases-loop-batch g l = into_iter_len l.left
