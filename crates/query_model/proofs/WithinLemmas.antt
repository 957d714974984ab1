-- Fewer rows have buffers that are no longer, place by place, and are charged no more.
use Rattle.std.specs.Prelude.{◌≡◌, ◌≤◌, ◌+◌, ℕ, zero, suc, Bool, true, false, List, [], ◌∷◌, ◌++◌, length, map, filter}
use Rattle.std.specs.Prelude.{get_or, sum, sum_by, cond, All, ⊤, refl}
use Rattle.std.specs.List.{list_all}
use Rattle.std.proofs.Common.{arith, ap}
use Rattle.std.proofs.lemmas.List.Elements.{All-head, All-tail, All-cons}
use Rattle.std.proofs.lemmas.List.Sums.{sum_by-cons}
use Rattle.std.proofs.lemmas.List.{length-map}
use Rattle.query_model.specs.declared.cell.Cell.{Cell}
use Rattle.query_model.specs.declared.kind.Kind.{Kind}
use Rattle.query_model.specs.declared.kind.Kind.TheVariants as kind
use Rattle.query_model.specs.declared.test.Test.{Test}
use Rattle.query_model.specs.Buffers.{text_length, texts_length, column_lengths, lengths_from, buffer_lengths, sizes_of}
use Rattle.query_model.specs.Buffers.{buffer_sizes}
use Rattle.query_model.specs.Cells.{cell_at, column_of}
use Rattle.query_model.specs.Filter.{meets, meeting}
use Rattle.query_model.proofs.RoundingLemmas.{rounded_size-rises, sum-sizes_of}

-- numbers are at most others, place by place
abbrev pub AreAtMost : List ℕ → List ℕ → Type 0
AreAtMost [] [] = ⊤
AreAtMost (n ∷ numbers) [] = ⊥
AreAtMost [] (m ∷ others) = ⊥
AreAtMost (n ∷ numbers) (m ∷ others) = (n ≤ m) × AreAtMost numbers others

-- lists that follow each other
at_most-append : (lows highs more_low more_high : List ℕ) → AreAtMost lows highs → AreAtMost more_low more_high
    → AreAtMost (lows ++ more_low) (highs ++ more_high)
at_most-append [] [] more_low more_high first second = second
at_most-append (low ∷ lows) [] more_low more_high first second = absurd first
at_most-append [] (high ∷ highs) more_low more_high first second = absurd first
at_most-append (low ∷ lows) (high ∷ highs) more_low more_high first second =
    (first.0, at_most-append lows highs more_low more_high first.1 second)

-- they are as many
at_most-length : (lows highs : List ℕ) → AreAtMost lows highs → length lows ≡ length highs
at_most-length [] [] h = refl
at_most-length (low ∷ lows) [] h = absurd h
at_most-length [] (high ∷ highs) h = absurd h
at_most-length (low ∷ lows) (high ∷ highs) h = ap suc (at_most-length lows highs h.1)

-- at each place
at_most-place : (lows highs : List ℕ) → AreAtMost lows highs → (place : ℕ) → get_or lows place 0 ≤ get_or highs place 0
at_most-place [] [] h place = omega arith
at_most-place (low ∷ lows) [] h place = absurd h
at_most-place [] (high ∷ highs) h place = absurd h
at_most-place (low ∷ lows) (high ∷ highs) h zero = h.0
at_most-place (low ∷ lows) (high ∷ highs) h (suc place) = at_most-place lows highs h.1 place

-- shorter buffers are charged no more
sizes-within : (lows highs : List ℕ) → AreAtMost lows highs → sum (sizes_of lows) ≤ sum (sizes_of highs)
sizes-within [] [] h = omega arith
sizes-within (low ∷ lows) [] h = absurd h
sizes-within [] (high ∷ highs) h = absurd h
sizes-within (low ∷ lows) (high ∷ highs) h =
    let first = sum-sizes_of low lows in let second = sum-sizes_of high highs in
    let one = rounded_size-rises low high h.0 in let rest = sizes-within lows highs h.1 in
    omega (arith, first, second, one, rest)

-- what bounds the greater numbers bounds the lesser ones
pub at_most-bound : (most : ℕ) (lows highs : List ℕ) → AreAtMost lows highs → All (λ n. n ≤ most) highs → All (λ n. n ≤ most) lows
at_most-bound most [] [] h all = λ i d within. absurd (omega (arith, within))
at_most-bound most (low ∷ lows) [] h all = absurd h
at_most-bound most [] (high ∷ highs) h all = absurd h
at_most-bound most (low ∷ lows) (high ∷ highs) h all =
    let first : high ≤ most = All-head (λ n. n ≤ most) high highs all in
    All-cons (λ n. n ≤ most) low lows (omega (arith, first, h.0))
    (at_most-bound most lows highs h.1 (All-tail (λ n. n ≤ most) high highs all))

-- rows are fewer, and their columns have no more text
pub record AreLess (few many : List (List Cell)) : Type 0 where
  pub count : length few ≤ length many
  pub texts : (column : ℕ) → texts_length (column_of column few) ≤ texts_length (column_of column many)

-- the buffers of a column
column-within : (kind : Kind) (few many : List Cell) → length few ≤ length many → texts_length few ≤ texts_length many
    → AreAtMost (column_lengths kind few) (column_lengths kind many)
column-within kind.Int few many count texts = (omega (arith, count), (omega (arith, count), tt))
column-within kind.Sum few many count texts = (omega (arith, count), (omega (arith, count), tt))
column-within kind.Text few many count texts = (omega (arith, count), (texts, tt))

-- the buffers of all columns
pub lengths-within : (column : ℕ) (kinds : List Kind) (few many : List (List Cell)) → AreLess few many
    → AreAtMost (lengths_from column kinds few) (lengths_from column kinds many)
lengths-within column [] few many less = tt
lengths-within column (kind ∷ kinds) few many less =
    let count : length (column_of column few) ≤ length (column_of column many) =
    (let a = length-map few (cell_at column) in let b = length-map many (cell_at column) in omega (arith, a, b, less.count)) in
    at_most-append (column_lengths kind (column_of column few)) (column_lengths kind (column_of column many))
    (lengths_from (column + 1) kinds few) (lengths_from (column + 1) kinds many)
    (column-within kind (column_of column few) (column_of column many) count (less.texts column))
    (lengths-within (column + 1) kinds few many less)

-- what they are charged
pub charges-within : (kinds : List Kind) (few many : List (List Cell)) → AreLess few many
    → sum (buffer_sizes kinds few) ≤ sum (buffer_sizes kinds many)
charges-within kinds few many less =
    sizes-within (buffer_lengths kinds few) (buffer_lengths kinds many) (lengths-within 0 kinds few many less)

-- a sum over what a map makes
pub sum_by-map : {X Y : Type 0} (f : Y → ℕ) (g : X → Y) (xs : List X) → sum_by f (map g xs) ≡ sum_by (λ x. f (g x)) xs
sum_by-map f g [] = refl
sum_by-map f g (x ∷ xs) =
    let a = sum_by-cons f (g x) (map g xs) in
    let b = sum_by-cons (λ y. f (g y)) x xs in
    let c = sum_by-map f g xs in
    omega (arith, a, b, c)

-- the first element counts, if it passes
sum_by-first : {X : Type 0} (f : X → ℕ) (x : X) (few xs : List X) (passes : Bool) → sum_by f few ≤ sum_by f xs
    → sum_by f (cond passes (x ∷ few) few) ≤ sum_by f (x ∷ xs)
sum_by-first f x few xs true h = let a = sum_by-cons f x few in let b = sum_by-cons f x xs in omega (arith, a, b, h)
sum_by-first f x few xs false h = let b = sum_by-cons f x xs in omega (arith, b, h)

-- a sum over the elements that pass a test is no greater
pub sum_by-passing : {X : Type 0} (f : X → ℕ) (p : X → Bool) (xs : List X) → sum_by f (filter p xs) ≤ sum_by f xs
sum_by-passing f p [] = omega arith
sum_by-passing f p (x ∷ xs) = sum_by-first f x (filter p xs) xs (p x) (sum_by-passing f p xs)

-- the first element is one, if it passes
length-first : {X : Type 0} (x : X) (few xs : List X) (passes : Bool) → length few ≤ length xs
    → length (cond passes (x ∷ few) few) ≤ length (x ∷ xs)
length-first x few xs true h = omega (arith, h)
length-first x few xs false h = omega (arith, h)

-- the elements that pass a test are no more
pub length-passing : {X : Type 0} (p : X → Bool) (xs : List X) → length (filter p xs) ≤ length xs
length-passing p [] = omega arith
length-passing p (x ∷ xs) = length-first x (filter p xs) xs (p x) (length-passing p xs)

-- the rows that meet tests
pub met-less : (tests : List Test) (rows : List (List Cell)) → AreLess (meeting tests rows) rows
met-less tests rows = record {
  count = length-passing (λ row. list_all (meets row) tests) rows;
  texts = λ column.
      let few = sum_by-map text_length (cell_at column) (meeting tests rows) in
      let many = sum_by-map text_length (cell_at column) rows in
      let less = sum_by-passing (λ row. text_length (cell_at column row)) (λ row. list_all (meets row) tests) rows in
      omega (arith, few, many, less);
}

-- their buffers are no longer
pub met-lengths : (kinds : List Kind) (tests : List Test) (rows : List (List Cell)) →
    AreAtMost (buffer_lengths kinds (meeting tests rows)) (buffer_lengths kinds rows)
met-lengths kinds tests rows = lengths-within 0 kinds (meeting tests rows) rows (met-less tests rows)

-- at each place
pub met-place : (kinds : List Kind) (tests : List Test) (rows : List (List Cell)) (place : ℕ) →
    get_or (buffer_lengths kinds (meeting tests rows)) place 0 ≤ get_or (buffer_lengths kinds rows) place 0
met-place kinds tests rows place = at_most-place _ _ (met-lengths kinds tests rows) place

-- they are as many
pub met-count : (kinds : List Kind) (tests : List Test) (rows : List (List Cell)) →
    length (buffer_lengths kinds (meeting tests rows)) ≡ length (buffer_lengths kinds rows)
met-count kinds tests rows = at_most-length _ _ (met-lengths kinds tests rows)

-- what bounds all buffers bounds theirs
pub met-bound : (kinds : List Kind) (tests : List Test) (rows : List (List Cell)) (most : ℕ) →
    All (λ length. length ≤ most) (buffer_lengths kinds rows)
    → All (λ length. length ≤ most) (buffer_lengths kinds (meeting tests rows))
met-bound kinds tests rows most all = at_most-bound most _ _ (met-lengths kinds tests rows) all

-- and what they are charged
pub met-charges : (kinds : List Kind) (tests : List Test) (rows : List (List Cell)) →
    sum (buffer_sizes kinds (meeting tests rows)) ≤ sum (buffer_sizes kinds rows)
met-charges kinds tests rows = charges-within kinds (meeting tests rows) rows (met-less tests rows)
