-- No sums for the first columns.
use Rattle.std.proofs.Common.{◌≡◌, ◌≤◌, []}
use Rattle.std.proofs.Math.ListN.{replicate}
use Rattle.std.specs.Vec.{vec_len, vec_capacity}
use Rattle.operators.proofs.groups.no_sums.Given as goal

abbrev pub invariant-sums : goal.invariant-sums
invariant-sums l = record {
  sums : l.sums.items ≡ replicate l.place [];
  filled : vec_len l.sums ≡ l.place;
  room : l.count ≤ vec_capacity l.sums;
}
