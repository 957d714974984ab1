-- The buffers hold the first of the byte lists, and have room for all.
use Rattle.std.proofs.Common.{◌≡◌, ◌≤◌, length, drop, map}
use Rattle.std.specs.Vec.{vec_len, vec_capacity}
use Rattle.mem_buf.proofs.StoringLemmas.{HasStored}
use Rattle.uses.proofs.memories.store_all.Given as goal

abbrev pub invariant-loop-input : goal.invariant-loop-input
invariant-loop-input g l = record {
  stored : HasStored g.M.Memory.model l.at (map (λ input. input.items) l.inputs) (map (λ input. input.items) (drop l.input-index l.inputs))
      l.bufs.items l.fn.token l.token;
  filled : vec_len l.bufs ≡ l.input-index;
  room : length l.inputs ≤ vec_capacity l.bufs;
}
