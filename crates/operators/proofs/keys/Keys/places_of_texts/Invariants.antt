-- The keys of the first texts, and their places.
use Rattle.std.proofs.Common.{◌≤◌, ◌≡◌, length}
use Rattle.std.specs.Vec.{vec_len, vec_capacity}
use Rattle.csv.specs.Records.{cut_from}
use Rattle.operators.proofs.KeyLemmas.{ArePlaced}
use Rattle.operators.proofs.keys.Keys.places_of_texts.Given as goal

abbrev pub invariant-rows : goal.invariant-rows
invariant-rows l = record {
  placed : ArePlaced l.fn.self l.self (cut_from l.start l.ends l.bytes) l.places.items l.row;
  filled : vec_len l.places ≡ l.row;
  room : length l.ends ≤ vec_capacity l.places;
}
