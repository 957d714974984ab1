-- The buffers hold the first of the byte lists, and have room for those that are left.
use Rattle.std.proofs.Common.{◌+◌, ◌≤◌, length, map}
use Rattle.std.specs.Vec.{vec_len, vec_capacity}
use Rattle.std.specs.Vec.Iter.{into_iter_items}
use Rattle.mem_buf.proofs.StoringLemmas.{HasStored}
use Rattle.mem_buf.proofs.storing.store_vecs.Given as goal

abbrev pub invariant-loop-input : goal.invariant-loop-input
invariant-loop-input g l = record {
  stored : HasStored g.M.Memory.model l.at (map (λ input. input.items) l.fn.inputs.items)
      (map (λ input. input.items) (into_iter_items l.input-iterator)) l.bufs.items l.fn.token l.token;
  room : vec_len l.bufs + length (into_iter_items l.input-iterator) ≤ vec_capacity l.bufs;
}
