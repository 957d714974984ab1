-- Rows from their columns.
use Rattle.std.proofs.Common.{◌≡◌, ℕ, ◌+◌, ◌<◌, zero, suc, List, [], ◌∷◌, length, drop, map, All, refl, sym, ◌∙◌, ap, subst, arith}
use Rattle.std.proofs.Math.ListN.{replicate}
use Rattle.std.proofs.Math.Seq.{drop-cons}
use Rattle.std.proofs.Math.Numerals.{add-one}
use Rattle.std.proofs.lemmas.List.{drop_all}
use Rattle.std.proofs.lemmas.List.Elements.{All-cons, All-head, All-nil, All-tail}
use Rattle.query_model.specs.Cells.{IsOfKind, IsRow, cell_at, column_of}
use Rattle.query_model.specs.declared.cell.Cell.{Cell}
use Rattle.query_model.specs.declared.cell.Cell.TheVariants.{Null}
use Rattle.query_model.specs.declared.kind.Kind.{Kind}
use Rattle.row_text.specs.Rows.{AreRows, beside, rows_from}

-- the columns of rows from this number on
abbrev pub columns_from : ℕ → List Kind → List (List Cell) → List (List Cell)
columns_from column [] rows = []
columns_from column (kind ∷ kinds) rows = column_of column rows ∷ columns_from (column + 1) kinds rows

-- from a column on, a row has a cell of its kind for each
abbrev pub IsRowFrom : ℕ → List Kind → List Cell → Type 0
IsRowFrom column kinds row = IsRow kinds (drop column row)

-- a row that has a column
row_has : (column : ℕ) (kind : Kind) (kinds : List Kind) (row : List Cell) → IsRowFrom column (kind ∷ kinds) row → column < length row
unfolding IsRow
row_has column kind kinds [] is = absurd (subst (IsRow (kind ∷ kinds)) (drop_all column [] (omega arith)) is)
row_has zero kind kinds (cell ∷ row) is = omega arith
row_has (suc column) kind kinds (cell ∷ row) is = let rest = row_has column kind kinds row is in omega arith

-- its first cell and the others
row_split : (column : ℕ) (kind : Kind) (kinds : List Kind) (row : List Cell) → IsRowFrom column (kind ∷ kinds) row
    → drop column row ≡ cell_at column row ∷ drop (column + 1) row
row_split column kind kinds row is =
    drop-cons row column Null (row_has column kind kinds row is) ∙ ap (λ n. cell_at column row ∷ drop n row) (sym (add-one column))

row_first : (column : ℕ) (kind : Kind) (kinds : List Kind) (row : List Cell) → IsRowFrom column (kind ∷ kinds) row
    → IsOfKind kind (cell_at column row) × IsRowFrom (column + 1) kinds row
unfolding IsRow
row_first column kind kinds row is = subst (IsRow (kind ∷ kinds)) (row_split column kind kinds row is) is

-- no cells are left
row_none : (column : ℕ) (row : List Cell) → IsRowFrom column [] row → drop column row ≡ []
unfolding IsRow
row_none column row is = none (drop column row) is where
  none : (rest : List Cell) → IsRow [] rest → rest ≡ []
  none [] is = refl
  none (cell ∷ rest) is = absurd is

-- each of some rows
pub each_first : (column : ℕ) (kind : Kind) (kinds : List Kind) (rows : List (List Cell)) → All (IsRowFrom column (kind ∷ kinds)) rows
    → All (IsOfKind kind) (column_of column rows)
each_first column kind kinds [] are = All-nil _
each_first column kind kinds (row ∷ rows) are =
    All-cons (IsOfKind kind) (cell_at column row) (column_of column rows)
    (row_first column kind kinds row (All-head (IsRowFrom column (kind ∷ kinds)) row rows are)).0
    (each_first column kind kinds rows (All-tail (IsRowFrom column (kind ∷ kinds)) row rows are))

pub each_rest : (column : ℕ) (kind : Kind) (kinds : List Kind) (rows : List (List Cell)) → All (IsRowFrom column (kind ∷ kinds)) rows
    → All (IsRowFrom (column + 1) kinds) rows
each_rest column kind kinds [] are = All-nil _
each_rest column kind kinds (row ∷ rows) are =
    All-cons (IsRowFrom (column + 1) kinds) row rows
    (row_first column kind kinds row (All-head (IsRowFrom column (kind ∷ kinds)) row rows are)).1
    (each_rest column kind kinds rows (All-tail (IsRowFrom column (kind ∷ kinds)) row rows are))

-- a column beside the others
besides : (column : ℕ) (kind : Kind) (kinds : List Kind) (rows : List (List Cell)) → All (IsRowFrom column (kind ∷ kinds)) rows
    → beside (column_of column rows) (map (drop (column + 1)) rows) ≡ map (drop column) rows
unfolding beside
besides column kind kinds [] are = refl
besides column kind kinds (row ∷ rows) are =
    let first = row_split column kind kinds row (All-head (IsRowFrom column (kind ∷ kinds)) row rows are) in
    let rest = besides column kind kinds rows (All-tail (IsRowFrom column (kind ∷ kinds)) row rows are) in
    λ k. sym first k ∷ rest k

-- rows without cells
nones : (column : ℕ) (rows : List (List Cell)) → All (IsRowFrom column []) rows → replicate (length rows) [] ≡ map (drop column) rows
nones column [] are = refl
nones column (row ∷ rows) are =
    let first = row_none column row (All-head (IsRowFrom column []) row rows are) in
    let rest = nones column rows (All-tail (IsRowFrom column []) row rows are) in
    λ k. sym first k ∷ rest k

-- rows are made of their columns
rows_made : (column : ℕ) (kinds : List Kind) (rows : List (List Cell)) → All (IsRowFrom column kinds) rows
    → rows_from (length rows) (columns_from column kinds rows) ≡ map (drop column) rows
unfolding rows_from
rows_made column [] rows are = nones column rows are
rows_made column (kind ∷ kinds) rows are =
    ap (beside (column_of column rows)) (rows_made (column + 1) kinds rows (each_rest column kind kinds rows are))
    ∙ besides column kind kinds rows are

map_drop_none : (rows : List (List Cell)) → map (drop 0) rows ≡ rows
map_drop_none [] = refl
map_drop_none (row ∷ rows) = ap (λ rest. row ∷ rest) (map_drop_none rows)

pub rows_of_columns : (kinds : List Kind) (rows : List (List Cell)) → AreRows kinds rows
    → rows_from (length rows) (columns_from 0 kinds rows) ≡ rows
rows_of_columns kinds rows are = rows_made 0 kinds rows are ∙ map_drop_none rows
