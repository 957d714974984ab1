-- Sums that have 128 bits.
use Rattle.std.proofs.Common.{◌≡◌, ℕ, ℤ, ◌+◌, ◌-◌, ◌*◌, ◌^◌, ◌≤◌, ◌+ℤ◌, List, [], ◌∷◌, ◌++◌, length, get_or, All, Bool, true, false}
use Rattle.std.proofs.Common.{Some, ap, ◌∙◌, arith, cond}
use Rattle.std.specs.Prelude.{◌≤ℤ◌, pos, negsuc, neg_ℤ, unsigned_abs, fold, slice_get}
use Rattle.std.specs.List.{filter_map}
use Rattle.std.proofs.lemmas.Int.{ints}
use Rattle.std.proofs.lemmas.List.{map-append}
use Rattle.std.proofs.lemmas.List.Elements.{All-head, All-tail, filter-append, filter_map-append}
use Rattle.std.proofs.lemmas.List.Sums.{sum_by-append, sum_by-cons}
use Rattle.query_model.specs.Answer.{key_of, number_of, numbers_at, rows_with_key, sum_cell}
use Rattle.query_model.specs.Cells.{IsOfKind, cell_at, column_of}
use Rattle.query_model.specs.declared.bounds.TheConstants.{MOST_ROWS}
use Rattle.query_model.specs.declared.cell.Cell.{Cell}
use Rattle.query_model.specs.declared.cell.Cell.TheVariants.{Null, Int, Sum, Text}
use Rattle.query_model.specs.declared.kind.Kind.{Kind}
use Rattle.query_model.specs.declared.kind.Kind.TheVariants as kind
use Rattle.row_text.specs.Rows.{AreRows}
use Rattle.operators.specs.Groups.{HaveRoom}
use Rattle.operators.specs.Summable.{AreSummable, magnitude}
use Rattle.operators.proofs.GatherLemmas.{kind-typed}
use Rattle.operators.proofs.KeyLemmas.{Key, same_key}

bounded : (z : ℤ) (m : ℕ) → z ≤ℤ pos m → neg_ℤ (pos m) ≤ℤ z → unsigned_abs z ≤ m
bounded (pos n) m high low = omega (arith, ints)
bounded (negsuc n) m high low = omega (arith, ints)

at-most : (z : ℤ) → z ≤ℤ pos (unsigned_abs z)
at-most (pos n) = omega (arith, ints)
at-most (negsuc n) = omega (arith, ints)

at-least : (z : ℤ) → neg_ℤ (pos (unsigned_abs z)) ≤ℤ z
at-least (pos n) = omega (arith, ints)
at-least (negsuc n) = omega (arith, ints)

-- a sum of two is at most both together
abs-sum : (a b : ℤ) → unsigned_abs (a +ℤ b) ≤ unsigned_abs a + unsigned_abs b
abs-sum a b =
    let ah = at-most a in
    let al = at-least a in
    let bh = at-most b in
    let bl = at-least b in
    bounded (a +ℤ b) (unsigned_abs a + unsigned_abs b) (omega (arith, ints, ah, bh)) (omega (arith, ints, al, bl))

pub abs-fold : (n : ℤ) (numbers : List ℤ) → unsigned_abs (fold (λ a b. a +ℤ b) n numbers) ≤ unsigned_abs n + magnitude numbers
abs-fold n [] = omega arith
abs-fold n (m ∷ numbers) =
    let rest = abs-fold (n +ℤ m) numbers in
    let one = abs-sum n m in
    let both = sum_by-cons unsigned_abs m numbers in
    omega (arith, rest, one, both)

is-sum : (n : ℤ) → unsigned_abs n ≤ 2 ^ 127 - 1 → IsOfKind kind.Sum (Sum n)
is-sum (pos n) h = omega arith
is-sum (negsuc n) h = omega arith

-- numbers whose magnitude is that of a sum have a sum
sum-small : (numbers : List ℤ) → magnitude numbers ≤ 2 ^ 127 - 1 → IsOfKind kind.Sum (sum_cell numbers)
sum-small [] h = tt
sum-small (n ∷ numbers) h =
    let most = abs-fold n numbers in
    let both = sum_by-cons unsigned_abs n numbers in
    is-sum (fold (λ a b. a +ℤ b) n numbers) (omega (arith, most, both, h))

pub numbers-append : (column : ℕ) (key : ℕ) (one : Key) (first rest : List (List Cell))
    → numbers_at column (rows_with_key key one (first ++ rest))
    ≡ numbers_at column (rows_with_key key one first) ++ numbers_at column (rows_with_key key one rest)
numbers-append column key one first rest =
    ap (numbers_at column) (filter-append (λ row. same_key one (key_of key row)) first rest)
    ∙ ap (filter_map number_of) (map-append (cell_at column) (rows_with_key key one first) (rows_with_key key one rest))
    ∙ filter_map-append number_of (column_of column (rows_with_key key one first)) (column_of column (rows_with_key key one rest))

-- rows that are summable have room
pub room-summable : (key : ℕ) (columns : List ℕ) (rows : List (List Cell)) → AreSummable key columns rows → HaveRoom key columns rows
room-summable key columns rows small k d within = λ one first rest is.
    let column = get_or columns k d in
    let all = small k d within one in
    let parts = ap magnitude (ap (λ list. numbers_at column (rows_with_key key one list)) is ∙ numbers-append column key one first rest)
    ∙ sum_by-append unsigned_abs (numbers_at column (rows_with_key key one first)) (numbers_at column (rows_with_key key one rest)) in
    sum-small (numbers_at column (rows_with_key key one first)) (omega (arith, all, parts))

int-small : (cell : Cell) → IsOfKind kind.Int cell → magnitude (filter_map number_of (cell ∷ [])) ≤ 2 ^ 63
int-small Null is = omega arith
int-small (Int (pos n)) is = omega arith
int-small (Int (negsuc n)) is = omega arith
int-small (Sum n) is = absurd is
int-small (Text bytes) is = absurd is

-- numbers of 64 bits come to no more than as many times 2 ^ 63
pub ints-small : (key column : ℕ) (one : Key) (rows : List (List Cell)) → All (IsOfKind kind.Int) (column_of column rows)
    → magnitude (numbers_at column (rows_with_key key one rows)) ≤ length rows * 2 ^ 63
ints-small key column one [] typed = omega arith
ints-small key column one (row ∷ rows) typed =
    let rest = ints-small key column one rows (All-tail (IsOfKind kind.Int) (cell_at column row) (column_of column rows) typed) in
    let first = int-small (cell_at column row) (All-head (IsOfKind kind.Int) (cell_at column row) (column_of column rows) typed) in
    let parts = ap magnitude (numbers-append column key one (row ∷ []) rows)
    ∙ sum_by-append unsigned_abs (numbers_at column (rows_with_key key one (row ∷ []))) (numbers_at column (rows_with_key key one rows)) in
    let head = by (same_key one (key_of key row)) first in
    omega (arith, rest, parts, head) where
      by : (b : Bool) → magnitude (filter_map number_of (cell_at column row ∷ [])) ≤ 2 ^ 63
          → magnitude (numbers_at column (cond b (row ∷ []) [])) ≤ 2 ^ 63
      by true h = h
      by false h = omega arith

-- whole numbers of a table are summable
pub ints-summable : (key : ℕ) (columns : List ℕ) (kinds : List Kind) (rows : List (List Cell)) → AreRows kinds rows
    → All (λ column. slice_get kinds column ≡ Some kind.Int) columns → length rows ≤ MOST_ROWS → AreSummable key columns rows
ints-summable key columns kinds rows are ints few k d within = λ one.
    let typed = kind-typed (get_or columns k d) kinds kind.Int rows are (ints k d within) in
    let small = ints-small key (get_or columns k d) one rows typed in
    omega (arith, small, few)
