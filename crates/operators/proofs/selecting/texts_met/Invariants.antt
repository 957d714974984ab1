-- The places that are left of the first ones.
use Rattle.std.proofs.Common.{◌≡◌, ◌≤◌, length, map, take, get_or}
use Rattle.std.specs.Prelude.{filter}
use Rattle.std.specs.Vec.{vec_len, vec_capacity}
use Rattle.csv.specs.Records.{cut_from}
use Rattle.query_model.specs.Filter.{is_met}
use Rattle.query_model.specs.declared.cell.Cell.TheVariants.{Null, Text}
use Rattle.operators.proofs.selecting.texts_met.Given as goal

abbrev pub invariant-places : goal.invariant-places
invariant-places l = record {
  left : l.left.items ≡ filter (λ place. is_met l.op (Text l.value) (get_or (map Text (cut_from l.start l.ends l.bytes)) place Null))
      (take l.place-index l.places);
  filled : vec_len l.left ≤ l.place-index;
  room : length l.places ≤ vec_capacity l.left;
}
