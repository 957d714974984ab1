-- The numbers of the places so far.
use Rattle.std.proofs.Common.{◌≡◌, ◌≤◌, length, map}
use Rattle.std.specs.List.{range_with_len}
use Rattle.std.specs.Vec.{vec_len, vec_capacity}
use Rattle.batch_vec.specs.Numbers.{sum_at}
use Rattle.batch_vec.proofs.numbers.sums_of.Given as goal

abbrev pub invariant-chunks : goal.invariant-chunks
invariant-chunks l = record {
  values : l.values.items ≡ map (sum_at l.bytes) (range_with_len 0 l.chunk-index);
  filled : vec_len l.values ≡ l.chunk-index;
  room : length l.chunks ≤ vec_capacity l.values;
}
