-- What is read in a column is of its kind.
use Rattle.std.proofs.Common.{◌≡◌, ℕ, List, [], ◌∷◌, Option, Some, None, refl, subst, inl, inr}
use Rattle.std.specs.Prelude.{ℤ, option_map}
use Rattle.std.specs.Str.{is_utf8}
use Rattle.std.proofs.lemmas.Bool.{cases_Bool}
use Rattle.std.proofs.lemmas.List.Elements.{All-cons, All-nil}
use Rattle.std.proofs.lemmas.Str.{IsUtf8-from_is_utf8}
use Rattle.query_model.specs.Cells.{IsInt, IsOfKind, IsRow}
use Rattle.query_model.specs.declared.cell.Cell.{Cell}
use Rattle.query_model.specs.declared.cell.Cell.TheVariants.{Null, Int, Text}
use Rattle.query_model.specs.declared.kind.Kind.{Kind}
use Rattle.query_model.specs.declared.kind.Kind.TheVariants as kind
use Rattle.row_text.proofs.IntLemmas.{int-range}
use Rattle.row_text.specs.Fields.{cell_of, cells_of, int_of, joined}
use Rattle.row_text.specs.Rows.{AreRows}
use Rattle.row_text.specs.Table.{EachReads}

number-typed : (number : Option ℤ) (cell : Cell) → ((n : ℤ) → number ≡ Some n → IsInt n) → option_map Int number ≡ Some cell
    → IsOfKind kind.Int cell
number-typed None cell h e = cc e
number-typed (Some n) cell h e = (let same : Int n ≡ cell = cc in subst (IsOfKind kind.Int) same (h n refl))

text-typed : (field : List ℕ) (cell : Cell) → cell_of kind.Text field ≡ Some cell → IsOfKind kind.Text cell
text-typed field cell e = elim (cases_Bool (is_utf8 field)) [
  | inl utf8 ↦
      let read : Some (Text field) ≡ Some cell = rw utf8 at e in
      let same : Text field ≡ cell = cc in
      subst (IsOfKind kind.Text) same (IsUtf8-from_is_utf8 field utf8)
  | inr other ↦ (let none : None ≡ Some cell = rw other at e in cc none)
]

-- a cell that was read
pub cell-typed : (kind : Kind) (field : List ℕ) (cell : Cell) → cell_of kind field ≡ Some cell → IsOfKind kind cell
cell-typed kind.Int [] cell e = (let same : Null ≡ cell = cc in subst (IsOfKind kind.Int) same tt)
cell-typed kind.Int (byte ∷ bytes) cell e = number-typed (int_of (byte ∷ bytes)) cell (int-range (byte ∷ bytes)) e
cell-typed kind.Sum field cell e = cc e
cell-typed kind.Text field cell e = text-typed field cell e

joined-typed : (kind : Kind) (kinds : List Kind) (cell : Option Cell) (cells : Option (List Cell)) (row : List Cell)
    → ((c : Cell) → cell ≡ Some c → IsOfKind kind c) → ((cs : List Cell) → cells ≡ Some cs → IsRow kinds cs)
    → joined cell cells ≡ Some row → IsRow (kind ∷ kinds) row
unfolding IsRow
joined-typed kind kinds None cells row one rest e = cc e
joined-typed kind kinds (Some c) None row one rest e = cc e
joined-typed kind kinds (Some c) (Some cs) row one rest e =
    let same : c ∷ cs ≡ row = (let f : Some (c ∷ cs) ≡ Some row = e in cc) in
    subst (IsRow (kind ∷ kinds)) same (one c refl, rest cs refl)

-- a row that was read
pub row-typed : (kinds : List Kind) (fields : List (List ℕ)) (row : List Cell) → cells_of kinds fields ≡ Some row → IsRow kinds row
unfolding cells_of IsRow
row-typed [] [] row e = (let same : [] ≡ row = (let f : Some [] ≡ Some row = e in cc) in subst (IsRow []) same tt)
row-typed [] (field ∷ fields) row e = cc e
row-typed (kind ∷ kinds) [] row e = cc e
row-typed (kind ∷ kinds) (field ∷ fields) row e =
    joined-typed kind kinds (cell_of kind field) (cells_of kinds fields) row (λ c f. cell-typed kind field c f)
    (λ cs f. row-typed kinds fields cs f) e

-- rows that were read
pub each-typed : (kinds : List Kind) (records : List (List (List ℕ))) (rows : List (List Cell)) → EachReads kinds records rows
    → AreRows kinds rows
unfolding EachReads
each-typed kinds [] [] each = All-nil _
each-typed kinds [] (row ∷ rows) each = absurd each
each-typed kinds (fields ∷ records) [] each = absurd each
each-typed kinds (fields ∷ records) (row ∷ rows) each =
    All-cons (IsRow kinds) row rows (row-typed kinds fields row each.0) (each-typed kinds records rows each.1)
