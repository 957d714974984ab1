-- The places of rows that meet tests.
use Rattle.std.proofs.Common.{◌≡◌, ℕ, ◌+◌, ◌<◌, ◌≤◌, zero, suc, List, [], ◌∷◌, ◌++◌, length, take, map, get_or, All, Bool, true, false}
use Rattle.std.proofs.Common.{refl, sym, ap}
use Rattle.std.proofs.Common.{◌∙◌, subst, arith}
use Rattle.std.specs.Prelude.{◌&&◌, ℤ, filter}
use Rattle.std.specs.List.{list_all, range_with_len}
use Rattle.std.proofs.lemmas.List.{get_or-map, take_more}
use Rattle.std.proofs.lemmas.List.Elements.{All-filter}
use Rattle.std.proofs.lemmas.List.Folds.{list_all-append}
use Rattle.query_model.specs.Cells.{IsRow, cell_at}
use Rattle.query_model.specs.Filter.{is_met, meeting, meets}
use Rattle.query_model.specs.declared.cell.Cell.{Cell}
use Rattle.query_model.specs.declared.cell.Cell.TheVariants.{Null, Int, Sum, Text}
use Rattle.query_model.specs.declared.kind.Kind.{Kind}
use Rattle.query_model.specs.declared.op.Op.{Op}
use Rattle.query_model.specs.declared.test.Test.{Test}
use Rattle.row_text.specs.Rows.{AreRows, Table}
use Rattle.row_text.specs.Slices.{IsColumnOf, cells_of_slice}
use Rattle.row_text.specs.Stored.{numbers}
use Rattle.row_text.specs.declared.column_slice.ColumnSlice.{ColumnSlice}
use Rattle.operators.specs.Places.{places_left, places_meeting}
use Rattle.operators.proofs.PlaceLemmas.{filter-all, filter-none, filter-range, filter-same, filter-twice, range-within}

-- no test yet
pub left-none : (rows : List (List Cell)) (count : ℕ) (places : List ℕ) → count ≡ length rows → places ≡ range_with_len 0 count
    → places ≡ places_left [] rows (range_with_len 0 (length rows))
left-none rows count places size are = are ∙ ap (range_with_len 0) size ∙ sym (filter-all (range_with_len 0 (length rows)))

and-true : (a b c : Bool) → (a && (b && true)) ≡ (a && b)
and-true true true c = refl
and-true true false c = refl
and-true false b c = refl

-- one test more
pub left-more : (tests : List Test) (rows : List (List Cell)) (places : List ℕ) (i : ℕ) (test : Test) (old new : List ℕ) → i < length tests
    → old ≡ places_left (take i tests) rows places → test ≡ get_or tests i test
    → new ≡ filter (λ place. meets (get_or rows place []) test) old → new ≡ places_left (take (i + 1) tests) rows places
left-more tests rows places i test old new within before is after =
    let more : take (i + 1) tests ≡ take i tests ++ test ∷ [] =
    take_more tests i test within ∙ ap (λ t. take i tests ++ t ∷ []) (sym is) in
    after ∙ ap (filter (λ place. meets (get_or rows place []) test)) before
    ∙ filter-twice (λ place. list_all (meets (get_or rows place [])) (take i tests)) (λ place. meets (get_or rows place []) test) places
    ∙ filter-same _ _ places (λ k d in_list.
    sym (list_all-append (meets (get_or rows (get_or places k d) [])) (take i tests) (test ∷ [])
    ∙ and-true (list_all (meets (get_or rows (get_or places k d) [])) (take i tests)) (meets (get_or rows
    (get_or places k d) []) test) true))
    ∙ ap (λ list. places_left list rows places) (sym more)

-- the places that are left are places
pub left-within : (tests : List Test) (rows : List (List Cell)) (places : List ℕ)
    → places ≡ places_left tests rows (range_with_len 0 (length rows)) → All (λ place. place < length rows) places
left-within tests rows places are =
    subst (All (λ place. place < length rows)) (sym are)
    (All-filter _ (λ place. place < length rows) (range_with_len 0 (length rows)) (range-within (length rows)))

-- the rows at the places are the rows that meet the tests
pub rows-met : (tests : List Test) (rows : List (List Cell)) → map (λ place. get_or rows place [])
    (places_meeting tests rows) ≡ meeting tests rows
rows-met tests rows = filter-range (λ row. list_all (meets row) tests) rows []

-- a null meets no comparison
pub null-never : (op : Op) (value : Cell) → is_met op value Null ≡ false
null-never op value = refl

-- no cell compares with a null or a sum
pub never-null : (op : Op) (cell : Cell) → is_met op Null cell ≡ false
never-null op Null = refl
never-null op (Int n) = refl
never-null op (Sum n) = refl
never-null op (Text bytes) = refl

pub never-sum : (op : Op) (sum : ℤ) (cell : Cell) → is_met op (Sum sum) cell ≡ false
never-sum op sum Null = refl
never-sum op sum (Int n) = refl
never-sum op sum (Sum n) = refl
never-sum op sum (Text bytes) = refl

-- no sum compares with anything
pub sum-never : (op : Op) (value : Cell) (n : ℤ) → is_met op value (Sum n) ≡ false
sum-never op value n = refl

-- what holds of a null and of each number holds of the cells of numbers
pub numbers-each : {N : Type 0} (make : N → Cell) (P : Cell → Type 0) → P Null → ((n : N) → P (make n)) → (values : List N)
    (known : List Bool)
    (place : ℕ) → P (get_or (numbers make values known) place Null)
unfolding numbers
numbers-each make P null each [] known place = null
numbers-each make P null each (v ∷ vs) [] place = null
numbers-each make P null each (v ∷ vs) (true ∷ ms) zero = each v
numbers-each make P null each (v ∷ vs) (false ∷ ms) zero = null
numbers-each make P null each (v ∷ vs) (m ∷ ms) (suc place) = numbers-each make P null each vs ms place

-- and the same of texts
pub texts-each : (P : Cell → Type 0) → P Null → ((bytes : List ℕ) → P (Text bytes)) → (list : List (List ℕ)) (place : ℕ)
    → P (get_or (map Text list) place Null)
texts-each P null each [] place = null
texts-each P null each (text ∷ list) zero = each text
texts-each P null each (text ∷ list) (suc place) = texts-each P null each list place

-- no cell meets the comparison
pub none-met : (op : Op) (value v : Cell) (slice s : ColumnSlice) (places list : List ℕ) → value ≡ v → slice ≡ s → list ≡ []
    → ((place : ℕ) → is_met op v (get_or (cells_of_slice s) place Null) ≡ false)
    → list ≡ filter (λ place. is_met op value (get_or (cells_of_slice slice) place Null)) places
none-met op value v slice s places list ve se empty never =
    empty ∙ sym (filter-none _ places (λ k d within. never (get_or places k d)))
    ∙ (λ i. filter (λ place. is_met op (sym ve i) (get_or (cells_of_slice (sym se i)) place Null)) places)

-- the cell of a row in a column
pub cell-there : (table : Table) (column : ℕ) (slice : ColumnSlice) → IsColumnOf table column slice → (place : ℕ)
    → place < length table.rows
    → get_or (cells_of_slice slice) place Null ≡ cell_at column (get_or table.rows place [])
cell-there table column slice is place within =
    ap (λ cells. get_or cells place Null) is.cells ∙ get_or-map (cell_at column) table.rows place [] Null within

-- a row has as many cells as there are kinds
pub row-long : (kinds : List Kind) (row : List Cell) → IsRow kinds row → length row ≡ length kinds
unfolding IsRow
row-long [] [] is = refl
row-long [] (cell ∷ row) is = absurd is
row-long (kind ∷ kinds) [] is = absurd is
row-long (kind ∷ kinds) (cell ∷ row) is = ap suc (row-long kinds row is.1)

past : {X : Type 0} (xs : List X) (n : ℕ) (d : X) → length xs ≤ n → get_or xs n d ≡ d
past [] n d h = refl
past (x ∷ xs) zero d h = absurd (omega arith)
past (x ∷ xs) (suc n) d h = past xs n d (omega arith)

-- and a null past them
pub no-cell : (table : Table) (column : ℕ) → AreRows table.kinds table.rows → length table.kinds ≤ column → (place : ℕ)
    → place < length table.rows → cell_at column (get_or table.rows place []) ≡ Null
no-cell table column are behind place within =
    let long = row-long table.kinds (get_or table.rows place []) (are place [] within) in
    past (get_or table.rows place []) column Null (omega (arith, long, behind))

module _ (table : Table) (test : Test) (places : List ℕ) (within : All (λ place. place < length table.rows) places) where
  -- the places at which the cells of the column meet the comparison are those at which the rows meet the test
  pub column-met : (slice : ColumnSlice) → IsColumnOf table test.column slice
      → filter (λ place. is_met test.op test.value (get_or (cells_of_slice slice) place Null)) places
      ≡ filter (λ place. meets (get_or table.rows place []) test) places
  column-met slice is = filter-same _ _ places (λ k d inside.
      ap (is_met test.op test.value) (cell-there table test.column slice is (get_or places k d) (within k d inside)))

  -- there are none where there is no such column
  pub no-column : AreRows table.kinds table.rows → length table.kinds ≤ test.column → (list : List ℕ) → list ≡ []
      → list ≡ filter (λ place. meets (get_or table.rows place []) test) places
  no-column are behind list empty = empty ∙ sym (filter-none _ places (λ k d inside.
      ap (is_met test.op test.value) (no-cell table test.column are behind (get_or places k d) (within k d inside))))
