-- The ends of the texts so far.
use Rattle.std.proofs.Common.{◌≡◌, ◌+◌, ◌-◌, ◌≤◌, length, map}
use Rattle.std.specs.List.{range_with_len}
use Rattle.std.specs.Vec.{vec_len, vec_capacity}
use Rattle.batch_vec.specs.Offsets.{end_at}
use Rattle.batch_vec.proofs.offsets.ends_of.Given as goal

abbrev pub invariant-chunks : goal.invariant-chunks
invariant-chunks l = record {
  ends : l.ends.items ≡ map (end_at l.bytes) (range_with_len 0 (l.place - 1));
  filled : vec_len l.ends + 1 ≡ l.place;
  room : length l.chunks ≤ vec_capacity l.ends;
}
