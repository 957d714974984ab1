-- Columns that callers build, as rows.
use Rattle.std.proofs.Common.{◌≡◌, ℕ, zero, suc, List, [], ◌∷◌, length, Bool, true, false, sym, ◌∙◌, arith, All}
use Rattle.std.specs.Prelude.{ℤ, map}
use Rattle.std.proofs.lemmas.List.Elements.{All-cons, All-head, All-nil, All-tail}
use Rattle.csv.specs.Records.{AllText, cut_from}
use Rattle.query_model.specs.Cells.{IsInt, IsOfKind, IsRow, IsSum}
use Rattle.query_model.specs.declared.cell.Cell.{Cell}
use Rattle.query_model.specs.declared.cell.Cell.TheVariants.{Null, Int, Sum, Text}
use Rattle.query_model.specs.declared.kind.Kind.{Kind}
use Rattle.query_model.specs.declared.kind.Kind.TheVariants as kind
use Rattle.row_text.proofs.TableLemmas.{long-head, long-tail, rows-length}
use Rattle.row_text.specs.Rows.{AreLong, AreRows, beside, cells_in, kinds_in, rows_from}
use Rattle.row_text.specs.Stored.{AreTexts, ColumnCells, numbers, texts}

-- each cell of a column is of its kind
abbrev pub IsTyped : ColumnCells → Type 0
IsTyped column = All (IsOfKind column.kind) column.cells

-- numbers are of their kind, and so is a null
pub ints-typed : (values : List ℤ) (known : List Bool) → All IsInt values → All (IsOfKind kind.Int) (numbers Int values known)
unfolding numbers
ints-typed [] known h = All-nil _
ints-typed (v ∷ vs) [] h = All-nil _
ints-typed (v ∷ vs) (true ∷ ms) h =
    All-cons (IsOfKind kind.Int) (Int v) _ (All-head IsInt v vs h) (ints-typed vs ms (All-tail IsInt v vs h))
ints-typed (v ∷ vs) (false ∷ ms) h = All-cons (IsOfKind kind.Int) Null _ tt (ints-typed vs ms (All-tail IsInt v vs h))

pub sums-typed : (values : List ℤ) (known : List Bool) → All IsSum values → All (IsOfKind kind.Sum) (numbers Sum values known)
unfolding numbers
sums-typed [] known h = All-nil _
sums-typed (v ∷ vs) [] h = All-nil _
sums-typed (v ∷ vs) (true ∷ ms) h =
    All-cons (IsOfKind kind.Sum) (Sum v) _ (All-head IsSum v vs h) (sums-typed vs ms (All-tail IsSum v vs h))
sums-typed (v ∷ vs) (false ∷ ms) h = All-cons (IsOfKind kind.Sum) Null _ tt (sums-typed vs ms (All-tail IsSum v vs h))

each-typed : (fields : List (List ℕ)) → AllText fields → All (IsOfKind kind.Text) (map Text fields)
unfolding AllText
each-typed [] h = All-nil _
each-typed (field ∷ fields) h = All-cons (IsOfKind kind.Text) (Text field) (map Text fields) h.0 (each-typed fields h.1)

-- texts are of their kind
pub texts-typed : (bytes ends : List ℕ) → AreTexts bytes ends → All (IsOfKind kind.Text) (texts bytes ends)
texts-typed bytes ends h = each-typed (cut_from 0 ends bytes) h.text

-- rows without cells
none-typed : (count : ℕ) → AreRows [] (rows_from count [])
unfolding rows_from IsRow
none-typed zero = All-nil _
none-typed (suc count) = All-cons (IsRow []) [] (rows_from count []) tt (none-typed count)

beside-typed : (kind : Kind) (kinds : List Kind) (column : List Cell) (rows : List (List Cell)) → length column ≡ length rows
    → All (IsOfKind kind) column → AreRows kinds rows → AreRows (kind ∷ kinds) (beside column rows)
unfolding beside IsRow
beside-typed kind kinds [] [] e cells rest = All-nil _
beside-typed kind kinds [] (r ∷ rs) e cells rest = absurd (omega arith)
beside-typed kind kinds (c ∷ cs) [] e cells rest = absurd (omega arith)
beside-typed kind kinds (c ∷ cs) (r ∷ rs) e cells rest =
    All-cons (IsRow (kind ∷ kinds)) (c ∷ r) (beside cs rs)
    (All-head (IsOfKind kind) c cs cells, All-head (IsRow kinds) r rs rest)
    (beside-typed kind kinds cs rs (omega arith) (All-tail (IsOfKind kind) c cs cells) (All-tail (IsRow kinds) r rs rest))

-- columns of as many cells as there are rows, each of its column's kind, are rows
pub rows-typed : (count : ℕ) (columns : List ColumnCells) → AreLong count (cells_in columns) → All IsTyped columns
    → AreRows (kinds_in columns) (rows_from count (cells_in columns))
unfolding rows_from
rows-typed count [] long typed = none-typed count
rows-typed count (column ∷ columns) long typed =
    let size : length column.cells ≡ count = long-head count column.cells (cells_in columns) long in
    let tail = long-tail count column.cells (cells_in columns) long in
    let rest : length (rows_from count (cells_in columns)) ≡ count = rows-length count (cells_in columns) tail in
    beside-typed column.kind (kinds_in columns) column.cells (rows_from count (cells_in columns)) (size ∙ sym rest)
    (All-head IsTyped column columns typed) (rows-typed count columns tail (All-tail IsTyped column columns typed))
