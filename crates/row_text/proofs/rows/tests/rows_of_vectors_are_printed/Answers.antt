use Rattle.std.proofs.Common.{◌≡◌, ℕ, List, [], ◌∷◌, length, refl, sym, lit≤, lit<, true, false, Bool}
use Rattle.std.specs.Prelude.{ℤ, pos, negsuc, codes}
use Rattle.std.proofs.lemmas.List.Elements.{All-cons, All-nil}
use Rattle.std.proofs.lemmas.Str.{IsUtf8-from_is_utf8}
use Rattle.csv.specs.Records.{AllText, Rising, cut_from, last_end}
use Rattle.query_model.specs.Cells.{IsInt, IsSum}
use Rattle.query_model.specs.declared.cell.Cell.TheVariants as cell
use Rattle.query_model.specs.declared.kind.Kind.TheVariants as kind
use Rattle.row_text.specs.Rows.{AreLong, AreRows, cells_in, kinds_in, rows_from}
use Rattle.row_text.specs.Stored.{AreTexts, ColumnCells, numbers, texts}
use Rattle.row_text.proofs.BuiltLemmas.{IsTyped, ints-typed, rows-typed, sums-typed, texts-typed}
use Rattle.row_text.proofs.SliceLemmas.{numbers-length, texts-length}
use Rattle.row_text.proofs.StoredLemmas.{utf8-ascii}
use Rattle.row_text.proofs.rows.tests.rows_of_vectors_are_printed.Goals as goal

-- the texts of the test
two-texts : AreTexts (codes "oslobergen") (4 ∷ 10 ∷ [])
unfolding Rising last_end AllText cut_from
two-texts = record {
  rising = (lit≤ tt, (lit≤ tt, lit≤ tt));
  whole = refl;
  text = (
    IsUtf8-from_is_utf8 (codes "oslo") (sym (utf8-ascii (codes "oslo") refl)),
    (IsUtf8-from_is_utf8 (codes "bergen") (sym (utf8-ascii (codes "bergen") refl)), tt),
  );
}

-- a column of two cells, of its kind
record IsPart (column : ColumnCells) : Type 0 where
  pub long : length column.cells ≡ 2
  pub typed : IsTyped column

of-texts : (bytes ends : List ℕ) (column : ColumnCells) → bytes ≡ codes "oslobergen" → ends ≡ 4 ∷ 10 ∷ []
    → column ≡ record { kind = kind.Text; cells = texts bytes ends } → IsPart column
of-texts bytes ends column e f is = rw (is, e, f) (record {
  long = texts-length (codes "oslobergen") (4 ∷ 10 ∷ []);
  typed = texts-typed (codes "oslobergen") (4 ∷ 10 ∷ []) two-texts;
})

of-ints : (values : List ℤ) (known : List Bool) (column : ColumnCells)
    → values ≡ pos 3 ∷ pos 0 ∷ [] → known ≡ true ∷ false ∷ []
    → column ≡ record { kind = kind.Int; cells = numbers cell.Int values known } → IsPart column
of-ints values known column e f is = rw (is, e, f) (record {
  long = numbers-length cell.Int (pos 3 ∷ pos 0 ∷ []) (true ∷ false ∷ []) refl;
  typed = ints-typed (pos 3 ∷ pos 0 ∷ []) (true ∷ false ∷ [])
      (All-cons IsInt (pos 3) (pos 0 ∷ []) (lit< tt) (All-cons IsInt (pos 0) [] (lit< tt) (All-nil IsInt)));
})

of-sums : (values : List ℤ) (known : List Bool) (column : ColumnCells)
    → values ≡ negsuc 6 ∷ pos 9223372036854775808 ∷ [] → known ≡ true ∷ true ∷ []
    → column ≡ record { kind = kind.Sum; cells = numbers cell.Sum values known } → IsPart column
of-sums values known column e f is = rw (is, e, f) (record {
  long = numbers-length cell.Sum (negsuc 6 ∷ pos 9223372036854775808 ∷ []) (true ∷ true ∷ []) refl;
  typed = sums-typed (negsuc 6 ∷ pos 9223372036854775808 ∷ []) (true ∷ true ∷ [])
      (All-cons IsSum (negsuc 6) (pos 9223372036854775808 ∷ []) (lit< tt)
      (All-cons IsSum (pos 9223372036854775808) [] (lit< tt) (All-nil IsSum)));
})

all-long : (columns : List ColumnCells) (x y z : ColumnCells) → columns ≡ x ∷ y ∷ z ∷ [] → IsPart x → IsPart y → IsPart z
    → AreLong 2 (cells_in columns)
all-long columns x y z is p q r = rw is
    (All-cons (λ (t : List cell.the_data). length t ≡ 2) x.cells (y.cells ∷ z.cells ∷ []) p.long
    (All-cons (λ (t : List cell.the_data). length t ≡ 2) y.cells (z.cells ∷ []) q.long
    (All-cons (λ (t : List cell.the_data). length t ≡ 2) z.cells [] r.long (All-nil _))))

all-typed : (columns : List ColumnCells) (x y z : ColumnCells) → columns ≡ x ∷ y ∷ z ∷ [] → IsPart x → IsPart y → IsPart z
    → AreRows (kinds_in columns) (rows_from 2 (cells_in columns))
all-typed columns x y z is p q r = rows-typed 2 columns (all-long columns x y z is p q r) (rw is
    (All-cons IsTyped x (y ∷ z ∷ []) p.typed (All-cons IsTyped y (z ∷ []) q.typed (All-cons IsTyped z [] r.typed (All-nil IsTyped)))))

pub texts-cities-requires : goal.texts-cities-requires
texts-cities-requires g c = record { texts = rw (c.in_ok-from_slice.ensures.items, c.in_ok-from_array.ensures.items) two-texts }

pub from_columns-rows-requires-clause-long : goal.from_columns-rows-requires-clause-long
from_columns-rows-requires-clause-long g c =
    all-long c.in_ok-from_array-6.field-0.items _ _ _ c.in_ok-from_array-6.ensures.items
    (of-texts _ _ c.texts-cities.result c.in_ok-from_slice.ensures.items c.in_ok-from_array.ensures.items c.texts-cities.ensures.value)
    (of-ints _ _ c.ints-days.result c.in_ok-from_array-2.ensures.items c.in_ok-from_array-3.ensures.items c.ints-days.ensures.value)
    (of-sums _ _ c.sums-rain.result c.in_ok-from_array-4.ensures.items c.in_ok-from_array-5.ensures.items c.sums-rain.ensures.value)

pub from_columns-rows-requires-clause-typed : goal.from_columns-rows-requires-clause-typed
from_columns-rows-requires-clause-typed g c =
    all-typed c.in_ok-from_array-6.field-0.items _ _ _ c.in_ok-from_array-6.ensures.items
    (of-texts _ _ c.texts-cities.result c.in_ok-from_slice.ensures.items c.in_ok-from_array.ensures.items c.texts-cities.ensures.value)
    (of-ints _ _ c.ints-days.result c.in_ok-from_array-2.ensures.items c.in_ok-from_array-3.ensures.items c.ints-days.ensures.value)
    (of-sums _ _ c.sums-rain.result c.in_ok-from_array-4.ensures.items c.in_ok-from_array-5.ensures.items c.sums-rain.ensures.value)
