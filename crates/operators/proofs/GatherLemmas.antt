-- Rows at some places, column by column.
use Rattle.std.proofs.Common.{◌≡◌, ℕ, ◌+◌, ◌<◌, ◌≤◌, zero, suc, List, [], ◌∷◌, ◌++◌, length, take, map, get_or, All, Bool, false, refl, sym}
use Rattle.std.proofs.Common.{ap}
use Rattle.std.proofs.Common.{◌∙◌, Some, subst, arith}
use Rattle.std.specs.Prelude.{IsUtf8, slice_get}
use Rattle.std.proofs.lemmas.List.{length-append, length-map, map-append, take_all, take_more}
use Rattle.std.proofs.lemmas.List.Elements.{All-cons, All-head, All-nil, All-tail}
use Rattle.std.proofs.lemmas.Simd.{map-map}
use Rattle.csv.specs.Records.{cut_from}
use Rattle.query_model.specs.Cells.{IsOfKind, IsRow, cell_at, column_of}
use Rattle.query_model.specs.declared.cell.Cell.{Cell}
use Rattle.query_model.specs.declared.cell.Cell.TheVariants.{Null, Text}
use Rattle.query_model.specs.declared.kind.Kind.{Kind}
use Rattle.query_model.specs.declared.kind.Kind.TheVariants as kind
use Rattle.row_text.specs.Rows.{AreLong, AreRows, Table, cells_in, kinds_in, rows_from}
use Rattle.row_text.specs.Slices.{IsColumnOf, cells_of_slice, kind_of}
use Rattle.row_text.specs.Stored.{ColumnCells, numbers}
use Rattle.row_text.specs.declared.column_slice.ColumnSlice.{ColumnSlice}
use Rattle.batch_vec.specs.Columns.{cells_from}
use Rattle.batch_vec.proofs.BackLemmas.{cells_long, column_pushed}
use Rattle.batch_vec.proofs.RowLemmas.{IsRowFrom, columns_from, each_first, each_rest, rows_of_columns}
use Rattle.batch_vec.proofs.StoredLemmas.{get-there}
use Rattle.row_text.proofs.PrintLemmas.{number-at}
use Rattle.row_text.proofs.SliceLemmas.{numbers-length}
use Rattle.operators.proofs.FilterLemmas.{cell-there}
use Rattle.operators.proofs.TextLemmas.{text-there}

-- the image of one element more
pub mapped-more : {X Y : Type 0} (f : X → Y) (xs : List X) (i : ℕ) (d : X) (old new : List Y) (y : Y) → i < length xs
    → new ≡ old ++ y ∷ [] → old ≡ map f (take i xs) → y ≡ f (get_or xs i d) → new ≡ map f (take (i + 1) xs)
mapped-more f xs i d old new y within pushed before is =
    pushed ∙ (λ k. before k ++ is k ∷ []) ∙ sym (map-append f (take i xs) (get_or xs i d ∷ []))
    ∙ ap (map f) (sym (take_more xs i d within))

-- the images of all elements
pub mapped-all : {X Y : Type 0} (f : X → Y) (xs : List X) (i : ℕ) (new : List Y) → length xs ≤ i → new ≡ map f (take i xs) → new ≡ map f xs
mapped-all f xs i new behind is = is ∙ ap (map f) (take_all i xs behind)

-- an element that there is, whatever stands for one that there isn't
pub any-default : {X : Type 0} (xs : List X) (i : ℕ) (d e : X) → i < length xs → get_or xs i d ≡ get_or xs i e
any-default [] i d e within = absurd (omega arith)
any-default (x ∷ xs) zero d e within = refl
any-default (x ∷ xs) (suc i) d e within = any-default xs i d e (omega arith)

-- images that are alike
pub map-same : {X Y : Type 0} (f g : X → Y) (xs : List X) → All (λ x. f x ≡ g x) xs → map f xs ≡ map g xs
map-same f g [] h = refl
map-same f g (x ∷ xs) h =
    let first = All-head (λ x. f x ≡ g x) x xs h in
    let rest = map-same f g xs (All-tail (λ x. f x ≡ g x) x xs h) in
    λ k. first k ∷ rest k

-- what holds of each element holds of those at some places
pub all-gathered : {X : Type 0} (P : X → Type 0) (xs : List X) (d : X) (places : List ℕ) → All P xs → All
    (λ place. place < length xs) places
    → All P (map (λ place. get_or xs place d) places)
all-gathered P xs d [] all within = All-nil _
all-gathered P xs d (place ∷ places) all within =
    All-cons P (get_or xs place d) (map (λ p. get_or xs p d) places)
    (all place d (All-head (λ p. p < length xs) place places within))
    (all-gathered P xs d places all (All-tail (λ p. p < length xs) place places within))

-- numbers at some places, beside their marks
pub numbers-gathered : {N : Type 0} (make : N → Cell) (values : List N) (known : List Bool) (d : N) (places : List ℕ)
    → length values ≡ length known → All (λ place. place < length values) places
    → numbers make (map (λ place. get_or values place d) places) (map (λ place. get_or known place false) places)
    ≡ map (λ place. get_or (numbers make values known) place Null) places
unfolding numbers
numbers-gathered make values known d [] same within = refl
numbers-gathered make values known d (place ∷ places) same within =
    let first = number-at make values known place d same (All-head (λ p. p < length values) place places within) in
    let rest = numbers-gathered make values known d places same (All-tail (λ p. p < length values) place places within) in
    λ k. sym first k ∷ rest k

-- places within the cells of numbers are within the numbers and their marks
pub places-within : {N : Type 0} (make : N → Cell) (values : List N) (known : List Bool) (cells : List Cell) (places : List ℕ)
    → cells ≡ numbers make values known → length values ≡ length known → All (λ place. place < length cells) places
    → All (λ place. place < length values) places × All (λ place. place < length known) places
places-within make values known cells places is same within =
    let long : length cells ≡ length values = ap length is ∙ numbers-length make values known same in (
      λ k d inside. (let small = within k d inside in omega (arith, small, long)),
      λ k d inside. (let small = within k d inside in omega (arith, small, long, same)),
    )

-- a text of a column of texts is text
pub text-utf8 : (start place : ℕ) (ends bytes text : List ℕ) → place < length ends
    → All (IsOfKind kind.Text) (map Text (cut_from start ends bytes)) → text ≡ get_or (cut_from start ends bytes) place []
    → (length (map Text (cut_from start ends bytes)) ≡ length ends) → IsUtf8 text
text-utf8 start place ends bytes text within typed is long =
    let cell = subst (IsOfKind kind.Text) (text-there start place ends bytes within) (typed place Null (omega (arith, long, within))) in
    subst IsUtf8 (sym is) cell

-- the cells of a column are of its kind
column-typed : (from n : ℕ) (kinds : List Kind) (k : Kind) (rows : List (List Cell)) → All (IsRowFrom from kinds) rows
    → slice_get kinds n ≡ Some k → All (IsOfKind k) (column_of (from + n) rows)
column-typed from n [] k rows are there = cc there
column-typed from zero (kind ∷ kinds) k rows are there =
    let same : kind ≡ k = cc in
    let place : from ≡ from + 0 = omega arith in
    subst (λ one. All (IsOfKind one) (column_of (from + 0) rows)) same
    (subst (λ m. All (IsOfKind kind) (column_of m rows)) place (each_first from kind kinds rows are))
column-typed from (suc n) (kind ∷ kinds) k rows are there =
    let place : from + 1 + n ≡ from + suc n = omega arith in
    subst (λ m. All (IsOfKind k) (column_of m rows)) place (column-typed (from + 1) n kinds k rows
    (each_rest from kind kinds rows are) there)

pub kind-typed : (n : ℕ) (kinds : List Kind) (k : Kind) (rows : List (List Cell)) → AreRows kinds rows → slice_get kinds n ≡ Some k
    → All (IsOfKind k) (column_of n rows)
kind-typed n kinds k rows are there =
    let place : 0 + n ≡ n = omega arith in
    subst (λ m. All (IsOfKind k) (column_of m rows)) place (column-typed 0 n kinds k rows are there)

pub slice-typed : (table : Table) (n : ℕ) (slice : ColumnSlice) → AreRows table.kinds table.rows → IsColumnOf table n slice
    → All (IsOfKind (kind_of slice)) (cells_of_slice slice)
slice-typed table n slice are is =
    let place : 0 + n ≡ n = omega arith in
    subst (All (IsOfKind (kind_of slice))) (ap (λ m. column_of m table.rows) place ∙ sym is.cells)
    (column-typed 0 n table.kinds (kind_of slice) table.rows are is.kind)

-- the cells of a column are as many as the rows
pub slice-long : (table : Table) (n : ℕ) (slice : ColumnSlice) → IsColumnOf table n slice → length
    (cells_of_slice slice) ≡ length table.rows
slice-long table n slice is = ap length is.cells ∙ length-map table.rows (cell_at n)

module _ (table : Table) (places : List ℕ) (within : All (λ place. place < length table.rows) places) where
  -- the rows at the places
  abbrev pub gathered : List (List Cell)
  gathered = map (λ place. get_or table.rows place []) places

  -- the cells of a column at the places are the column of the rows there
  pub column-gathered : (n : ℕ) (slice : ColumnSlice) → IsColumnOf table n slice
      → map (λ place. get_or (cells_of_slice slice) place Null) places ≡ column_of n gathered
  column-gathered n slice is =
      map-same _ _ places (λ k d inside. cell-there table n slice is (get_or places k d) (within k d inside))
      ∙ sym (map-map (cell_at n) (λ place. get_or table.rows place []) places)

  -- one column more
  pub gathered-more : (old new : List ColumnCells) (slice : ColumnSlice) (n : ℕ) (column : ColumnCells) → n ≡ length old
      → IsColumnOf table n slice → old ≡ take (length old) (cells_from 0 table.kinds gathered) → new ≡ old ++ column ∷ []
      → column ≡ record { kind = kind_of slice; cells = map (λ place. get_or (cells_of_slice slice) place Null) places }
      → new ≡ take (length new) (cells_from 0 table.kinds gathered)
  gathered-more old new slice n column size is before pushed made =
      let there = get-there table.kinds n (kind_of slice) (kind_of slice) is.kind in
      let first = before ∙ ap (λ m. take m (cells_from 0 table.kinds gathered)) (sym size) in
      let more = column_pushed table.kinds gathered n (kind_of slice) old new column is.within pushed first
      (made ∙ (λ k. record { kind = sym there k; cells = column-gathered n slice is k })) in
      let long : length new ≡ n + 1 = ap length pushed ∙ length-append old (column ∷ []) ∙ omega (arith, size) in
      more ∙ ap (λ m. take m (cells_from 0 table.kinds gathered)) (sym long)

  -- all columns
  pub gathered-all : (columns : List ColumnCells) → columns ≡ take (length columns) (cells_from 0 table.kinds gathered)
      → length table.kinds ≤ length columns → columns ≡ cells_from 0 table.kinds gathered
  gathered-all columns are behind =
      let long = cells_long 0 table.kinds gathered in
      are ∙ take_all (length columns) (cells_from 0 table.kinds gathered) (omega (arith, long, behind))

  pub gathered-typed : AreRows table.kinds table.rows → AreRows table.kinds gathered
  gathered-typed are = all-gathered (IsRow table.kinds) table.rows [] places are within

kinds-back : (column : ℕ) (kinds : List Kind) (rows : List (List Cell)) → kinds_in (cells_from column kinds rows) ≡ kinds
kinds-back column [] rows = refl
kinds-back column (kind ∷ kinds) rows = ap (λ rest. kind ∷ rest) (kinds-back (column + 1) kinds rows)

columns-seen : (column : ℕ) (kinds : List Kind) (rows : List (List Cell))
    → cells_in (cells_from column kinds rows) ≡ columns_from column kinds rows
columns-seen column [] rows = refl
columns-seen column (kind ∷ kinds) rows = ap (λ rest. column_of column rows ∷ rest) (columns-seen (column + 1) kinds rows)

columns-long : (column count : ℕ) (kinds : List Kind) (rows : List (List Cell)) → length rows ≡ count
    → AreLong count (cells_in (cells_from column kinds rows))
columns-long column count [] rows size = All-nil _
columns-long column count (kind ∷ kinds) rows size =
    All-cons (λ cells. length cells ≡ count) (column_of column rows) (cells_in (cells_from (column + 1) kinds rows))
    (length-map rows _ ∙ size) (columns-long (column + 1) count kinds rows size)

-- rows from all their columns
module _ (count : ℕ) (kinds : List Kind) (rows : List (List Cell)) (columns : List ColumnCells) (size : length rows ≡ count)
    (typed : AreRows kinds rows) (are : columns ≡ cells_from 0 kinds rows) where
  pub made-rows : rows_from count (cells_in columns) ≡ rows
  made-rows =
      ap (λ list. rows_from count (cells_in list)) are ∙ ap (rows_from count) (columns-seen 0 kinds rows)
      ∙ ap (λ n. rows_from n (columns_from 0 kinds rows)) (sym size) ∙ rows_of_columns kinds rows typed

  pub made-kinds : kinds_in columns ≡ kinds
  made-kinds = ap kinds_in are ∙ kinds-back 0 kinds rows

  pub made-long : AreLong count (cells_in columns)
  made-long = subst (λ list. AreLong count (cells_in list)) (sym are) (columns-long 0 count kinds rows size)

  pub made-typed : AreRows (kinds_in columns) (rows_from count (cells_in columns))
  made-typed = subst (λ list. AreRows list (rows_from count (cells_in columns))) (sym made-kinds) (subst (AreRows kinds)
      (sym made-rows) typed)
