-- Groups of parts, grouped again, are the groups of the whole.
use Rattle.std.specs.Prelude.{◌≡◌, ◌<◌, ◌+◌, ℕ, ℤ, suc, Bool, true, false, nat_eq, List, [], ◌∷◌, ◌++◌, map, filter, flat_map, length}
use Rattle.std.specs.Prelude.{get_or, cond, refl}
use Rattle.std.specs.Cmp.Lexicographic.{pointwise}
use Rattle.std.specs.List.{filter_map, range_with_len}
use Rattle.std.proofs.Common.{arith, sym, ap, ◌∙◌}
use Rattle.std.proofs.lemmas.List.{map-append, get_or-map}
use Rattle.std.proofs.lemmas.List.Elements.{filter-append, filter_map-append}
use Rattle.std.proofs.lemmas.List.Folds.{flat_map-map}
use Rattle.std.proofs.lemmas.Simd.{map-map}
use Rattle.query_model.specs.declared.cell.Cell.{Cell}
use Rattle.query_model.specs.declared.cell.Cell.TheVariants.{Null, Text}
use Rattle.query_model.specs.Answer.{distinct, key_of, rows_with_key, number_of, sum_cell, numbers_at, sum_of, group_of, groups_of}
use Rattle.query_model.specs.Cells.{cell_at}
use Rattle.query_model.proofs.KeyLemmas.{Key, distinct_cut}
use Rattle.query_model.proofs.RisingLemmas.{once, same-distinct}
use Rattle.query_model.proofs.SumLemmas.{total, sum_cut}

-- rows, each the list of its cells
abbrev Rows : Type 0
Rows = List (List Cell)

-- what is made of parts piece by piece is made of the whole
pub each-part : {X A B : Type 0} (h : List A → List B) (g : X → List A) → h [] ≡ []
    → ((xs ys : List A) → h (xs ++ ys) ≡ h xs ++ h ys)
    → (parts : List X) → h (flat_map g parts) ≡ flat_map (λ part. h (g part)) parts
each-part h g none both [] = none
each-part h g none both (part ∷ parts) =
    both (g part) (flat_map g parts) ∙ ap (λ rest. h (g part) ++ rest) (each-part h g none both parts)

-- the first element of a map, if it passes
kept-first : {X Y : Type 0} (f : X → Y) (x : X) (rest : List X) (b : Bool) →
    cond b (f x ∷ map f rest) (map f rest) ≡ map f (cond b (x ∷ rest) rest)
kept-first f x rest true = refl
kept-first f x rest false = refl

-- the elements of a map that pass a test
filter-map : {X Y : Type 0} (p : Y → Bool) (f : X → Y) (xs : List X) → filter p (map f xs) ≡ map f (filter (λ x. p (f x)) xs)
filter-map p f [] = refl
filter-map p f (x ∷ xs) =
    ap (λ rest. cond (p (f x)) (f x ∷ rest) rest) (filter-map p f xs) ∙ kept-first f x (filter (λ y. p (f y)) xs) (p (f x))

-- a map that changes nothing
pub map-itself : {X : Type 0} (xs : List X) → map (λ x. x) xs ≡ xs
map-itself [] = refl
map-itself (x ∷ xs) = ap (λ rest. x ∷ rest) (map-itself xs)

-- what is the same at each place is the same
map-range : {A : Type 0} (f g : ℕ → A) (numbers : List ℕ) (a : ℕ)
    → ((j : ℕ) → j < length numbers → f (a + j) ≡ g (get_or numbers j 0))
    → map f (range_with_len a (length numbers)) ≡ map g numbers
map-range f g [] a each = refl
map-range f g (n ∷ numbers) a each =
    let here : a ≡ a + 0 = omega arith in
    let first : f a ≡ g n = ap f here ∙ each 0 (omega arith) in
    let later : map f (range_with_len (a + 1) (length numbers)) ≡ map g numbers =
    map-range f g numbers (a + 1) (λ j within. ap f (omega arith) ∙ each (suc j) (omega (arith, within))) in
    λ k. first k ∷ later k

-- the number of a sum, if there is one
number-of-sum : (numbers : List ℤ) → filter_map number_of (sum_cell numbers ∷ []) ≡ total numbers
number-of-sum [] = refl
number-of-sum (n ∷ numbers) = refl

-- the numbers of a column in the rows of a key, rows and more rows
pub numbers-append : (column place : ℕ) (key : Key) (rows more : Rows) →
    numbers_at place (rows_with_key column key (rows ++ more))
    ≡ numbers_at place (rows_with_key column key rows) ++ numbers_at place (rows_with_key column key more)
numbers-append column place key rows more =
    let p : List Cell → Bool = λ row. pointwise nat_eq key (key_of column row) in
    ap (numbers_at place) (filter-append p rows more)
    ∙ ap (filter_map number_of) (map-append (cell_at place) (filter p rows) (filter p more))
    ∙ filter_map-append number_of (map (cell_at place) (filter p rows)) (map (cell_at place) (filter p more))

module _ (column : ℕ) (sums : List ℕ) (key : Key) where
  -- the groups of a key are one, if it has rows
  groups-same : (part : Rows) → rows_with_key 0 key (groups_of column sums part)
      ≡ map (group_of column sums part) (once key (map (key_of column) (rows_with_key column key part)))
  groups-same part =
      let group : Key → List Cell = group_of column sums part in
      filter-map (λ row. pointwise nat_eq key (key_of 0 row)) group (distinct (map (key_of column) part))
      ∙ ap (map group) (same-distinct key (map (key_of column) part))
      ∙ ap (λ keys. map group (once key keys)) (filter-map (λ other. pointwise nat_eq key other) (key_of column) part)

  -- the sum at a place of that one is the total of the numbers of its rows
  numbers-once : (part rows : Rows) (j : ℕ) → cell_at (suc j) (group_of column sums part key) ≡ sum_of rows (get_or sums j 0)
      → numbers_at (suc j) (map (group_of column sums part) (once key (map (key_of column) rows)))
      ≡ total (numbers_at (get_or sums j 0) rows)
  numbers-once part [] j same = refl
  numbers-once part (row ∷ rows) j same =
      ap (λ cell. filter_map number_of (cell ∷ [])) same ∙ number-of-sum (numbers_at (get_or sums j 0) (row ∷ rows))

  -- so the numbers of a key's groups are the totals of its numbers
  part-numbers : (part : Rows) (j : ℕ) → j < length sums →
      numbers_at (suc j) (rows_with_key 0 key (groups_of column sums part))
      ≡ total (numbers_at (get_or sums j 0) (rows_with_key column key part))
  part-numbers part j within =
      ap (numbers_at (suc j)) (groups-same part)
      ∙ numbers-once part (rows_with_key column key part) j
      (get_or-map (sum_of (rows_with_key column key part)) sums j 0 Null within)

  -- the sum of the groups' sums is the sum of the rows
  sums-same : (parts : List Rows) (j : ℕ) → j < length sums →
      sum_of (rows_with_key 0 key (flat_map (groups_of column sums) parts)) (suc j)
      ≡ sum_of (rows_with_key column key (flat_map (λ part. part) parts)) (get_or sums j 0)
  sums-same parts j within =
      let number : Rows → List ℤ = λ rows. numbers_at (get_or sums j 0) (rows_with_key column key rows) in
      ap sum_cell (each-part (λ rows. numbers_at (suc j) (rows_with_key 0 key rows)) (groups_of column sums) refl
      (numbers-append 0 (suc j) key) parts)
      ∙ (λ k. sum_cell (flat_map (λ part. part-numbers part j within k) parts))
      ∙ ap sum_cell (sym (flat_map-map total number parts))
      ∙ sum_cut (map number parts)
      ∙ ap sum_cell (flat_map-map (λ part. part) number parts)
      ∙ ap sum_cell (sym (each-part number (λ part. part) refl (numbers-append column (get_or sums j 0) key) parts))

  -- the group of a key
  group-same : (parts : List Rows) →
      group_of 0 (range_with_len 1 (length sums)) (flat_map (groups_of column sums) parts) key
      ≡ group_of column sums (flat_map (λ part. part) parts) key
  group-same parts = ap (λ cells. Text key ∷ cells)
      (map-range (sum_of (rows_with_key 0 key (flat_map (groups_of column sums) parts)))
      (sum_of (rows_with_key column key (flat_map (λ part. part) parts))) sums 1
      (λ j within. ap (sum_of (rows_with_key 0 key (flat_map (groups_of column sums) parts))) (omega arith)
      ∙ sums-same parts j within))

-- the keys of groups are those of their rows
keys-same : (column : ℕ) (sums : List ℕ) (parts : List Rows) →
    distinct (map (key_of 0) (flat_map (groups_of column sums) parts))
    ≡ distinct (map (key_of column) (flat_map (λ part. part) parts))
keys-same column sums parts =
    let keys : Rows → List Key = map (key_of column) in
    let one : (part : Rows) → map (key_of 0) (groups_of column sums part) ≡ distinct (keys part) =
    λ part. map-map (key_of 0) (group_of column sums part) (distinct (keys part)) ∙ map-itself (distinct (keys part)) in
    ap distinct (each-part (map (key_of 0)) (groups_of column sums) refl (map-append (key_of 0)) parts)
    ∙ (λ k. distinct (flat_map (λ part. one part k) parts))
    ∙ ap distinct (sym (flat_map-map distinct keys parts))
    ∙ distinct_cut (map keys parts)
    ∙ ap distinct (flat_map-map (λ part. part) keys parts)
    ∙ ap distinct (sym (each-part keys (λ part. part) refl (map-append (key_of column)) parts))

-- grouped sums of a whole are the grouped sums of those of its parts
pub groups_cut : (column : ℕ) (sums : List ℕ) (parts : List Rows) →
    groups_of 0 (range_with_len 1 (length sums)) (flat_map (groups_of column sums) parts)
    ≡ groups_of column sums (flat_map (λ part. part) parts)
groups_cut column sums parts = λ k. map (λ key. group-same column sums key parts k) (keys-same column sums parts k)
