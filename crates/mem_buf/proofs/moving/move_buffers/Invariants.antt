-- Some buffers moved, and the others are left.
use Rattle.std.proofs.Common.{◌≡◌, ◌+◌, ◌≤◌, length}
use Rattle.std.specs.Vec.{vec_len, vec_capacity}
use Rattle.std.specs.Vec.Iter.{into_iter_items, into_iter_len}
use Rattle.mem_buf.proofs.MovingLemmas.{HasMoved}
use Rattle.mem_buf.proofs.moving.move_buffers.Given as goal

abbrev pub invariant-loop-buf : goal.invariant-loop-buf
invariant-loop-buf g l = record {
  done : HasMoved g.M.Memory.model l.target l.fn.bufs.items (into_iter_items l.left) l.moved.items l.fn.token l.token;
  counted : into_iter_len l.left ≡ length (into_iter_items l.left);
  room : vec_len l.moved + into_iter_len l.left ≤ vec_capacity l.moved;
}

abbrev pub decreases-loop-buf : goal.decreases-loop-buf
decreases-loop-buf g l = into_iter_len l.left
