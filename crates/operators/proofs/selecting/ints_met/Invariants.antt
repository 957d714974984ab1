-- The places that are left of the first ones.
use Rattle.std.proofs.Common.{◌≡◌, ◌≤◌, length, take, get_or}
use Rattle.std.specs.Prelude.{filter}
use Rattle.query_model.specs.Filter.{is_met}
use Rattle.query_model.specs.declared.cell.Cell.TheVariants.{Int, Null}
use Rattle.row_text.specs.Stored.{numbers}
use Rattle.std.specs.Vec.{vec_len, vec_capacity}
use Rattle.operators.proofs.selecting.ints_met.Given as goal

abbrev pub invariant-places : goal.invariant-places
invariant-places l = record {
  left : l.left.items ≡ filter (λ place. is_met l.op (Int l.value) (get_or (numbers Int l.values l.known) place Null))
      (take l.place-index l.places);
  filled : vec_len l.left ≤ l.place-index;
  room : length l.places ≤ vec_capacity l.left;
}
