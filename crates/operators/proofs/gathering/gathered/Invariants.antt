-- Copies for the first places.
use Rattle.std.proofs.Common.{◌≡◌, ◌≤◌, length, map, take, get_or}
use Rattle.std.specs.Vec.{vec_len, vec_capacity}
use Rattle.operators.proofs.gathering.gathered.Given as goal

abbrev pub invariant-places : goal.invariant-places
invariant-places g l = record {
  copies : (d : _) → l.copies.items ≡ map (λ place. get_or l.items place d) (take l.place-index l.places);
  filled : vec_len l.copies ≡ l.place-index;
  room : length l.places ≤ vec_capacity l.copies;
}
