-- The first keys with their places, and then the first places.
use Rattle.std.proofs.Common.{◌≡◌, ◌≤◌, All, Some, length, map, take}
use Rattle.std.specs.Prelude.{slice_get}
use Rattle.std.specs.Vec.{vec_len, vec_capacity}
use Rattle.operators.proofs.keys.Keys.order.Given as goal

abbrev pub invariant-keys : goal.invariant-keys
invariant-keys l = record {
  keys : map (λ one. one.0.now) l.named.items ≡ take l.place l.self;
  found : All (λ one. slice_get l.self one.1 ≡ Some one.0.now) l.named.items;
  filled : vec_len l.named ≡ l.place;
  room : length l.keys ≤ vec_capacity l.named;
}

abbrev pub invariant-named : goal.invariant-named
invariant-named l = record {
  order : l.order.items ≡ map (λ one. one.1) (take l.one-index l.one-items);
  filled : vec_len l.order ≡ l.one-index;
  room : length l.one-items ≤ vec_capacity l.order;
}
