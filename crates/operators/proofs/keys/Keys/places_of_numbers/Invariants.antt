-- The keys of the first numbers, and their places.
use Rattle.std.proofs.Common.{◌≤◌, ◌≡◌, length}
use Rattle.std.specs.Vec.{vec_len, vec_capacity}
use Rattle.operators.specs.Groups.{marked_texts}
use Rattle.operators.proofs.KeyLemmas.{ArePlaced}
use Rattle.operators.proofs.keys.Keys.places_of_numbers.Given as goal

abbrev pub invariant-rows : goal.invariant-rows
invariant-rows g l = record {
  placed : ArePlaced l.fn.self l.self (marked_texts g.I.Integer.text l.values l.known) l.places.items l.row;
  filled : vec_len l.places ≡ l.row;
  room : length l.values ≤ vec_capacity l.places;
}
