-- Sums by key, as rows are added.
use Rattle.std.proofs.Common.{◌≡◌, ℕ, ℤ, ◌+◌, ◌-◌, ◌+ℤ◌, zero, suc, List, [], ◌∷◌, ◌++◌, length, map, get_or, All, Bool, true, false}
use Rattle.std.proofs.Common.{Some, refl, sym, ap, ◌∙◌, append_assoc, subst, arith, cond}
use Rattle.std.specs.Prelude.{◌||◌, fold, slice_get}
use Rattle.std.specs.List.{filter_map, list_any}
use Rattle.std.proofs.Math.ListN.{replicate, set}
use Rattle.std.proofs.lemmas.Bool.{false≢true}
use Rattle.std.proofs.lemmas.List.{append-nil, length-append, length-map, map-append}
use Rattle.std.proofs.lemmas.List.Elements.{All-cons, All-head, All-nil, All-tail, filter-append, filter_map-append}
use Rattle.std.specs.Cmp.Lexicographic.{bytes_decides, nat_list_eq_equiv}
use Rattle.query_model.specs.Answer.{key_of, number_of, numbers_at, rows_with_key, sum_cell, sum_of}
use Rattle.query_model.specs.Cells.{IsOfKind, cell_at, column_of}
use Rattle.query_model.specs.declared.cell.Cell.{Cell}
use Rattle.query_model.specs.declared.cell.Cell.TheVariants.{Null, Int, Sum, Text}
use Rattle.query_model.specs.declared.kind.Kind.TheVariants as kind
use Rattle.operators.specs.Adding.{CanAdd, with_cell, with_cell_at, with_cells, with_number}
use Rattle.operators.specs.Groups.{keys_seen}
use Rattle.operators.proofs.KeyLemmas.{ComeBehind, Different, Key, same_key, seen-has}
use Rattle.operators.proofs.PlaceLemmas.{filter-none}

fold-append : {X Y : Type 0} (f : Y → X → Y) (start : Y) (xs ys : List X) → fold f start (xs ++ ys) ≡ fold f (fold f start xs) ys
fold-append f start [] ys = refl
fold-append f start (x ∷ xs) ys = fold-append f (f start x) xs ys

sum-snoc : (numbers : List ℤ) (n : ℤ) → sum_cell (numbers ++ n ∷ []) ≡ with_number (sum_cell numbers) n
sum-snoc [] n = refl
sum-snoc (m ∷ numbers) n = ap Sum (fold-append (λ a b. a +ℤ b) m numbers (n ∷ []))

one-number : (numbers : List ℤ) (cell : Cell) → sum_cell (numbers ++ filter_map number_of (cell ∷ [])) ≡ with_cell (sum_cell numbers) cell
one-number numbers Null = ap sum_cell (append-nil numbers)
one-number numbers (Int n) = sum-snoc numbers n
one-number numbers (Sum n) = sum-snoc numbers n
one-number numbers (Text bytes) = ap sum_cell (append-nil numbers)

-- the sum of one row more
sum-more : (rows : List (List Cell)) (row : List Cell) (column : ℕ) → sum_of (rows ++ row ∷ []) column ≡ with_cell (sum_of rows column)
    (cell_at column row)
sum-more rows row column =
    ap (λ cells. sum_cell (filter_map number_of cells)) (map-append (cell_at column) rows (row ∷ []))
    ∙ ap sum_cell (filter_map-append number_of (column_of column rows) (cell_at column row ∷ []))
    ∙ one-number (numbers_at column rows) (cell_at column row)

module _ (key column : ℕ) where
  -- the sum of a key
  abbrev pub sum_by_key : List (List Cell) → Key → Cell
  sum_by_key rows one = sum_of (rows_with_key key one rows) column

  with-row : (one : Key) (rows : List (List Cell)) (row : List Cell)
      → rows_with_key key one (rows ++ row ∷ []) ≡ rows_with_key key one rows ++ cond (same_key one (key_of key row)) (row ∷ []) []
  with-row one rows row = filter-append (λ r. same_key one (key_of key r)) rows (row ∷ [])

  -- a row of the key adds its cell
  pub row-adds : (rows : List (List Cell)) (row : List Cell)
      → sum_by_key (rows ++ row ∷ []) (key_of key row) ≡ with_cell (sum_by_key rows (key_of key row)) (cell_at column row)
  row-adds rows row =
      let same : same_key (key_of key row) (key_of key row) ≡ true = (bytes_decides (key_of key row) (key_of key row)).1 refl in
      ap (λ list. sum_of list column) (with-row (key_of key row) rows row
      ∙ ap (λ b. rows_with_key key (key_of key row) rows ++ cond b (row ∷ []) []) same)
      ∙ sum-more (rows_with_key key (key_of key row) rows) row column

  -- and another one nothing
  pub row-passes : (one : Key) (rows : List (List Cell)) (row : List Cell) → same_key one (key_of key row) ≡ false
      → sum_by_key (rows ++ row ∷ []) one ≡ sum_by_key rows one
  row-passes one rows row other =
      ap (λ list. sum_of list column) (with-row one rows row ∙ ap (λ b. rows_with_key key one rows ++ cond b (row ∷ []) []) other
      ∙ append-nil (rows_with_key key one rows))

or-none : (a b : Bool) → (a || b) ≡ false → (a ≡ false) × (b ≡ false)
or-none true b e = absurd (false≢true (sym e))
or-none false b e = (refl, e)

not-there : (k : Key) (keys : List Key) (p : ℕ) (one : Key) → list_any (same_key k) keys ≡ false → slice_get keys p ≡ Some one
    → same_key k one ≡ false
not-there k [] p one none there = cc there
not-there k (first ∷ keys) zero one none there =
    let is : first ≡ one = cc there in
    subst (λ key. same_key k key ≡ false) is (or-none (same_key k first) (list_any (same_key k) keys) none).0
not-there k (first ∷ keys) (suc p) one none there =
    not-there k keys p one (or-none (same_key k first) (list_any (same_key k) keys) none).1 there

image-kept : (f g : Key → Cell) (one : Key) (keys : List Key) → list_any (same_key one) keys ≡ false
    → ((k : Key) → same_key k one ≡ false → g k ≡ f k) → map f keys ≡ map g keys
image-kept f g one [] none others = refl
image-kept f g one (k ∷ keys) none others =
    let both = or-none (same_key one k) (list_any (same_key one) keys) none in
    let first = others k (nat_list_eq_equiv.symm k one ∙ both.0) in
    let rest = image-kept f g one keys both.1 others in
    λ i. sym first i ∷ rest i

-- a key that no row has has no sum
each-other : (key : ℕ) (one : Key) (rows : List (List Cell)) → list_any (same_key one) (map (key_of key) rows) ≡ false
    → All (λ row. same_key one (key_of key row) ≡ false) rows
each-other key one [] none = All-nil _
each-other key one (row ∷ rows) none =
    let both = or-none (same_key one (key_of key row)) (list_any (same_key one) (map (key_of key) rows)) none in
    All-cons (λ r. same_key one (key_of key r) ≡ false) row rows both.0 (each-other key one rows both.1)

pub no-rows : (key column : ℕ) (one : Key) (rows : List (List Cell)) → list_any (same_key one) (map (key_of key) rows) ≡ false
    → sum_by_key key column rows one ≡ Null
no-rows key column one rows none = ap (λ list. sum_of list column) (filter-none _ rows (each-other key one rows none))

-- one element of an image changes
pub set-image : (f g : Key → Cell) (keys : List Key) (p : ℕ) (one : Key) (value : Cell) → Different keys → slice_get keys p ≡ Some one
    → g one ≡ value → ((k : Key) → same_key k one ≡ false → g k ≡ f k) → set (map f keys) p value ≡ map g keys
unfolding Different
set-image f g [] p one value different there here others = cc there
set-image f g (k ∷ keys) zero one value different there here others =
    let is : k ≡ one = cc there in
    let first : value ≡ g k = sym here ∙ ap g (sym is) in
    let rest = image-kept f g one keys (subst (λ key. list_any (same_key key) keys ≡ false) is different.0) others in
    λ i. first i ∷ rest i
set-image f g (k ∷ keys) (suc p) one value different there here others =
    let first = others k (not-there k keys p one different.0 there) in
    let rest = set-image f g keys p one value different.1 there here others in
    λ i. sym first i ∷ rest i

get-image : (f : Key → Cell) (keys : List Key) (p : ℕ) (one : Key) → slice_get keys p ≡ Some one → get_or (map f keys) p Null ≡ f one
get-image f [] p one there = cc there
get-image f (k ∷ keys) zero one there = (let is : k ≡ one = cc there in ap f is)
get-image f (k ∷ keys) (suc p) one there = get-image f keys p one there

module _ (key column : ℕ) (keys : List Key) (different : Different keys) where
  -- a row is added to the sum of its key
  pub row-added : (rows : List (List Cell)) (row : List Cell) (p : ℕ) → slice_get keys p ≡ Some (key_of key row)
      → with_cell_at (map (sum_by_key key column rows) keys) p (cell_at column row) ≡ map (sum_by_key key column (rows ++ row ∷ [])) keys
  row-added rows row p there =
      ap (λ sum. set (map (sum_by_key key column rows) keys) p (with_cell sum (cell_at column row)))
      (get-image (sum_by_key key column rows) keys p (key_of key row) there)
      ∙ set-image (sum_by_key key column rows) (sum_by_key key column (rows ++ row ∷ [])) keys p (key_of key row) _ different there
      (row-adds key column rows row) (λ k other. row-passes key column k rows row other)

  -- so are some rows, one after the other
  pub rows-added : (before rows : List (List Cell)) (places : List ℕ) → map (slice_get keys) places ≡ map Some (map (key_of key) rows)
      → with_cells (map (sum_by_key key column before) keys) places (column_of column rows) ≡ map (sum_by_key key column
      (before ++ rows)) keys
  unfolding with_cells
  rows-added before [] [] found = ap (λ list. map (sum_by_key key column list) keys) (sym (append-nil before))
  rows-added before [] (p ∷ places) found = cc found
  rows-added before (row ∷ rows) [] found = cc found
  rows-added before (row ∷ rows) (p ∷ places) found =
      let there : slice_get keys p ≡ Some (key_of key row) = cc found in
      let others : map (slice_get keys) places ≡ map Some (map (key_of key) rows) = cc found in
      ap (λ sums. with_cells sums places (column_of column rows)) (row-added before row p there)
      ∙ rows-added (before ++ row ∷ []) rows places others
      ∙ ap (λ list. map (sum_by_key key column list) keys) (append_assoc before (row ∷ []) rows)

  -- and there is room for them where each sum of first rows has 128 bits
  pub rows-fit : (all before rows : List (List Cell)) (places : List ℕ) → all ≡ before ++ rows
      → ((one : Key) → (first rest : List (List Cell)) → all ≡ first ++ rest → IsOfKind kind.Sum (sum_by_key key column first one))
      → map (slice_get keys) places ≡ map Some (map (key_of key) rows)
      → CanAdd (map (sum_by_key key column before) keys) places (column_of column rows)
  unfolding CanAdd
  rows-fit all before [] [] is room found = tt
  rows-fit all before [] (p ∷ places) is room found = cc found
  rows-fit all before (row ∷ rows) [] is room found = tt
  rows-fit all before (row ∷ rows) (p ∷ places) is room found =
      let there : slice_get keys p ≡ Some (key_of key row) = cc found in
      let others : map (slice_get keys) places ≡ map Some (map (key_of key) rows) = cc found in
      let next : all ≡ (before ++ row ∷ []) ++ rows = is ∙ sym (append_assoc before (row ∷ []) rows) in
      let one = room (key_of key row) (before ++ row ∷ []) rows next in
      let sum = row-adds key column before row
      ∙ ap (λ s. with_cell s (cell_at column row)) (sym (get-image (sum_by_key key column before) keys p (key_of key row) there)) in (
        subst (IsOfKind kind.Sum) sum one,
        subst (λ sums. CanAdd sums places (column_of column rows)) (sym (row-added before row p there))
            (rows-fit all (before ++ row ∷ []) rows places next room others),
      )

nulls : (f : Key → Cell) (keys : List Key) → All (λ k. f k ≡ Null) keys → map f keys ≡ replicate (length keys) Null
nulls f [] none = refl
nulls f (k ∷ keys) none =
    let first = All-head (λ one. f one ≡ Null) k keys none in
    let rest = nulls f keys (All-tail (λ one. f one ≡ Null) k keys none) in
    λ i. first i ∷ rest i

-- the sums of keys that are new are null
pub sums-grown : (key column : ℕ) (rows : List (List Cell)) (keys new : List Key) → keys ≡ keys_seen [] (map (key_of key) rows)
    → ComeBehind keys new
    → map (sum_by_key key column rows) keys ++ replicate (length new - length (map (sum_by_key key column rows) keys)) Null
    ≡ map (sum_by_key key column rows) new
sums-grown key column rows keys new are behind =
    let f = sum_by_key key column rows in
    let long : length new ≡ length keys + length behind.extra = ap length behind.order ∙ length-append keys behind.extra in
    let image = length-map keys f in
    let more : length new - length (map f keys) ≡ length behind.extra = omega (arith, long, image) in
    let none : All (λ k. f k ≡ Null) behind.extra = (λ k d within.
    no-rows key column (get_or behind.extra k d) rows
    (sym (ap (λ list. list_any (same_key (get_or behind.extra k d)) list) are ∙ seen-has (get_or behind.extra k d) [] (map
    (key_of key) rows))
    ∙ behind.others k d within)) in
    ap (λ n. map f keys ++ replicate n Null) more ∙ ap (λ list. map f keys ++ list) (sym (nulls f behind.extra none))
    ∙ sym (map-append f keys behind.extra) ∙ ap (map f) (sym behind.order)
