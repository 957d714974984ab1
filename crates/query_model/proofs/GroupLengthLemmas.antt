-- Grouped sums have short buffers, where the buffers of their rows are short: their keys are no more bytes than the cells print.
use Rattle.std.specs.Prelude.{◌≡◌, ◌≤◌, ◌<◌, ◌+◌, ◌*◌, ℕ, ℤ, zero, suc, pos, negsuc, List, [], ◌∷◌, ◌++◌, length, map, get_or, sum_by}
use Rattle.std.specs.Prelude.{All, refl}
use Rattle.std.specs.Fmt.{signed_decimal}
use Rattle.std.proofs.Common.{arith, subst}
use Rattle.std.proofs.Math.ListN.{replicate}
use Rattle.std.proofs.lemmas.Fmt.{length-decimal-le_wide}
use Rattle.std.proofs.lemmas.List.{length-map}
use Rattle.std.proofs.lemmas.List.Elements.{All-head, All-tail, All-cons, All-nil}
use Rattle.std.proofs.lemmas.List.Sums.{sum_by-cons, sum_by-le}
use Rattle.mem_num.specs.declared.bounds.TheConstants.{LARGEST}
use Rattle.query_model.specs.declared.bounds.TheConstants.{MOST_ROWS}
use Rattle.query_model.specs.declared.cell.Cell.{Cell}
use Rattle.query_model.specs.declared.cell.Cell.TheVariants.{Null, Int, Sum, Text}
use Rattle.query_model.specs.declared.kind.Kind.{Kind}
use Rattle.query_model.specs.declared.kind.Kind.TheVariants as kind
use Rattle.query_model.specs.Answer.{distinct, key_of, group_of, groups_of}
use Rattle.query_model.specs.Buffers.{validity_length, text_length, texts_length, column_lengths, lengths_from, buffer_lengths}
use Rattle.query_model.specs.Cells.{IsInt, IsOfKind, IsRow, IsSum, cell_at, column_of, printed}
use Rattle.query_model.specs.Requests.{sum_kinds}
use Rattle.query_model.proofs.CeilingLemmas.{groups-texts, keys-apart, length-distinct}
use Rattle.query_model.proofs.WithinLemmas.{sum_by-map}

-- a printed number of 64 bits has at most 19 digits and a sign
int-short : (n : ℤ) → IsInt n → length (signed_decimal n) ≤ 20
int-short (pos n) small =
    let digits = length-decimal-le_wide 19 n (omega arith) (omega (arith, small)) (omega (arith, small)) in
    omega (arith, digits)
int-short (negsuc n) small =
    let digits = length-decimal-le_wide 19 (suc n) (omega arith) (omega (arith, small)) (omega (arith, small)) in
    omega (arith, digits)

-- one of 128 bits at most 39 digits and a sign
sum-short : (n : ℤ) → IsSum n → length (signed_decimal n) ≤ 40
sum-short (pos n) small =
    let digits = length-decimal-le_wide 39 n (omega arith) (omega (arith, small)) (omega (arith, small)) in
    omega (arith, digits)
sum-short (negsuc n) small =
    let digits = length-decimal-le_wide 39 (suc n) (omega arith) (omega (arith, small)) (omega (arith, small)) in
    omega (arith, digits)

-- a printed cell, by its kind
int-printed : (cell : Cell) → IsOfKind kind.Int cell → length (printed cell) ≤ 20
int-printed Null typed = omega arith
int-printed (Int n) typed = int-short n typed
int-printed (Sum n) typed = absurd typed
int-printed (Text bytes) typed = absurd typed

sum-printed : (cell : Cell) → IsOfKind kind.Sum cell → length (printed cell) ≤ 40
sum-printed Null typed = omega arith
sum-printed (Int n) typed = absurd typed
sum-printed (Sum n) typed = sum-short n typed
sum-printed (Text bytes) typed = absurd typed

text-printed : (cell : Cell) → IsOfKind kind.Text cell → length (printed cell) ≡ text_length cell
text-printed Null typed = absurd typed
text-printed (Int n) typed = absurd typed
text-printed (Sum n) typed = absurd typed
text-printed (Text bytes) typed = refl

-- the cell of a row at a column is of the column's kind
cell-typed : (kinds : List Kind) (row : List Cell) (column : ℕ) → IsRow kinds row → column < length kinds
    → IsOfKind (get_or kinds column kind.Int) (cell_at column row)
unfolding IsRow
cell-typed [] row column typed within = absurd (omega (arith, within))
cell-typed (kind ∷ kinds) [] column typed within = absurd typed
cell-typed (kind ∷ kinds) (cell ∷ cells) zero typed within = typed.0
cell-typed (kind ∷ kinds) (cell ∷ cells) (suc column) typed within = cell-typed kinds cells column typed.1 (omega (arith, within))

-- so are those of rows
column-typed : (kinds : List Kind) (rows : List (List Cell)) (column : ℕ) (told : Kind) → All (IsRow kinds) rows
    → column < length kinds → get_or kinds column kind.Int ≡ told → All (λ row. IsOfKind told (cell_at column row)) rows
column-typed kinds rows column told typed within is = λ i d inside.
    subst (λ (kind : Kind). IsOfKind kind (cell_at column (get_or rows i d))) is
    (cell-typed kinds (get_or rows i d) column (typed i d inside) within)

-- texts print as many bytes as they have
texts-printed : (rows : List (List Cell)) (column : ℕ) → All (λ row. IsOfKind kind.Text (cell_at column row)) rows
    → sum_by (λ row. length (key_of column row)) rows ≡ sum_by (λ row. text_length (cell_at column row)) rows
texts-printed [] column typed = refl
texts-printed (row ∷ rows) column typed =
    let a = sum_by-cons (λ (r : List Cell). length (key_of column r)) row rows in
    let b = sum_by-cons (λ (r : List Cell). text_length (cell_at column r)) row rows in
    let c = text-printed (cell_at column row) (All-head (λ (r : List Cell). IsOfKind kind.Text (cell_at column r)) row rows typed) in
    let d = texts-printed rows column (All-tail (λ (r : List Cell). IsOfKind kind.Text (cell_at column r)) row rows typed) in
    omega (arith, a, b, c, d)

-- what bounds a column's buffers and others bounds the others
others-bound : (P : ℕ → Type 0) (kind : Kind) (cells : List Cell) (others : List ℕ) → All P (column_lengths kind cells ++ others)
    → All P others
others-bound P kind.Int cells others all = All-tail P _ others (All-tail P _ (_ ∷ others) all)
others-bound P kind.Sum cells others all = All-tail P _ others (All-tail P _ (_ ∷ others) all)
others-bound P kind.Text cells others all = All-tail P _ others (All-tail P _ (_ ∷ others) all)

-- what bounds all buffers bounds the bytes of a column of texts
texts-bound : (most column : ℕ) (kinds : List Kind) (rows : List (List Cell)) (place : ℕ) → place < length kinds
    → get_or kinds place kind.Int ≡ kind.Text → All (λ n. n ≤ most) (lengths_from column kinds rows)
    → texts_length (column_of (column + place) rows) ≤ most
texts-bound most column [] rows place within is all = absurd (omega (arith, within))
texts-bound most column (kind.Int ∷ kinds) rows zero within is all = cc is
texts-bound most column (kind.Sum ∷ kinds) rows zero within is all = cc is
texts-bound most column (kind.Text ∷ kinds) rows zero within is all =
    let here : column ≡ column + 0 = omega arith in
    subst (λ n. texts_length (column_of n rows) ≤ most) here (all 1 0 (omega arith))
texts-bound most column (kind ∷ kinds) rows (suc place) within is all =
    let there : column + 1 + place ≡ column + suc place = omega arith in
    subst (λ n. texts_length (column_of n rows) ≤ most) there
    (texts-bound most (column + 1) kinds rows place (omega (arith, within)) is
    (others-bound (λ n. n ≤ most) kind (column_of column rows) (lengths_from (column + 1) kinds rows) all))

module _ (kinds : List Kind) (key : ℕ) (rows : List (List Cell)) (typed : All (IsRow kinds) rows) (inside : key < length kinds)
    (few : length rows ≤ MOST_ROWS) (short : All (λ n. n ≤ LARGEST) (buffer_lengths kinds rows)) where
  -- the bytes of printed keys, by the kind of their column
  keys-of : (told : Kind) → get_or kinds key kind.Int ≡ told → sum_by (λ row. length (key_of key row)) rows ≤ LARGEST
  keys-of kind.Int is =
      let cells = column-typed kinds rows key kind.Int typed inside is in
      let all = sum_by-le (λ (row : List Cell). length (key_of key row)) 20 rows (λ i d within. int-printed _ (cells i d within)) in
      omega (arith, all, few)
  keys-of kind.Sum is =
      let cells = column-typed kinds rows key kind.Sum typed inside is in
      let all = sum_by-le (λ (row : List Cell). length (key_of key row)) 40 rows (λ i d within. sum-printed _ (cells i d within)) in
      omega (arith, all, few)
  keys-of kind.Text is =
      let cells = column-typed kinds rows key kind.Text typed inside is in
      let a = texts-printed rows key cells in
      let b = sum_by-map text_length (cell_at key) rows in
      let here : 0 + key ≡ key = omega arith in
      let c : texts_length (column_of key rows) ≤ LARGEST =
      subst (λ n. texts_length (column_of n rows) ≤ LARGEST) here (texts-bound LARGEST 0 kinds rows key inside is short) in
      omega (arith, a, b, c)

  -- the bytes of the keys of groups
  keys-short : (sums : List ℕ) → texts_length (column_of 0 (groups_of key sums rows)) ≤ LARGEST
  keys-short sums =
      let a = groups-texts key sums rows rows (λ f. omega arith) 0 in
      let b = keys-apart key sums rows in
      let c = keys-of (get_or kinds key kind.Int) refl in
      omega (arith, a, b, c)

  -- groups are as few as rows
  groups-few : (sums : List ℕ) → length (groups_of key sums rows) ≤ MOST_ROWS
  groups-few sums =
      let a = length-map (distinct (map (key_of key) rows)) (group_of key sums rows) in
      let b = length-distinct (map (key_of key) rows) in
      let c = length-map rows (key_of key) in
      omega (arith, a, b, c, few)

-- the buffers of columns of sums
sums-bound : (count column : ℕ) (groups : List (List Cell)) → length groups ≤ MOST_ROWS
    → All (λ n. n ≤ LARGEST) (lengths_from column (replicate count kind.Sum) groups)
sums-bound zero column groups few = All-nil (λ n. n ≤ LARGEST)
sums-bound (suc count) column groups few =
    let long = length-map groups (cell_at column) in
    let cells = column_of column groups in
    let marks : validity_length (length cells) ≤ LARGEST = omega (arith, long, few) in
    let numbers : 16 * length cells ≤ LARGEST = omega (arith, long, few) in
    let others = lengths_from (column + 1) (replicate count kind.Sum) groups in
    All-cons (λ n. n ≤ LARGEST) (validity_length (length cells)) (16 * length cells ∷ others) marks
    (All-cons (λ n. n ≤ LARGEST) (16 * length cells) others numbers (sums-bound count (column + 1) groups few))

-- the buffers of grouped sums are short, where those of the rows are
pub groups-short : (kinds : List Kind) (key : ℕ) (sums : List ℕ) (rows : List (List Cell)) → All (IsRow kinds) rows → key < length kinds
    → length rows ≤ MOST_ROWS → All (λ length. length ≤ LARGEST) (buffer_lengths kinds rows)
    → All (λ length. length ≤ LARGEST) (buffer_lengths (sum_kinds (length sums)) (groups_of key sums rows))
groups-short kinds key sums rows typed inside few short =
    let groups = groups_of key sums rows in
    let count = groups-few kinds key rows typed inside few short sums in
    let long = length-map groups (cell_at 0) in
    let offsets : 4 * (length (column_of 0 groups) + 1) ≤ LARGEST = omega (arith, long, count) in
    let keys = texts_length (column_of 0 groups) in
    let others = lengths_from 1 (replicate (length sums) kind.Sum) groups in
    All-cons (λ n. n ≤ LARGEST) (4 * (length (column_of 0 groups) + 1)) (keys ∷ others) offsets
    (All-cons (λ n. n ≤ LARGEST) keys others (keys-short kinds key rows typed inside few short sums)
    (sums-bound (length sums) 1 groups count))
