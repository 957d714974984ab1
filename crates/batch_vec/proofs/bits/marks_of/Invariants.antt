-- The marks of the places so far.
use Rattle.std.proofs.Common.{◌≡◌, ◌≤◌, map}
use Rattle.std.specs.List.{range_with_len}
use Rattle.std.specs.Vec.{vec_len, vec_capacity}
use Rattle.batch_vec.specs.Marks.{is_set}
use Rattle.batch_vec.proofs.bits.marks_of.Given as goal

abbrev pub invariant-marks : goal.invariant-marks
invariant-marks l = record {
  known : l.known.items ≡ map (is_set l.bytes) (range_with_len 0 l.place);
  filled : vec_len l.known ≡ l.place;
  room : l.count ≤ vec_capacity l.known;
}
