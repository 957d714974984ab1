-- The places so far.
use Rattle.std.proofs.Common.{◌≡◌, ◌≤◌}
use Rattle.std.specs.List.{range_with_len}
use Rattle.std.specs.Vec.{vec_len, vec_capacity}
use Rattle.operators.proofs.selecting.all_places.Given as goal

abbrev pub invariant-places : goal.invariant-places
invariant-places l = record {
  places : l.places.items ≡ range_with_len 0 l.place;
  filled : vec_len l.places ≡ l.place;
  room : l.count ≤ vec_capacity l.places;
}
