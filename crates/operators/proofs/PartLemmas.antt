-- The sums by group of parts of rows are summable.
use Rattle.std.proofs.Common.{◌≡◌, ℕ, ℤ, ◌*◌, ◌^◌, ◌-◌, ◌<◌, ◌≤◌, suc, List, [], ◌∷◌, length, map, get_or, All, false}
use Rattle.std.proofs.Common.{Some, refl, sym, ap, ◌∙◌, subst, arith, cond, inl, inr}
use Rattle.std.specs.Prelude.{unsigned_abs, slice_get}
use Rattle.std.specs.List.{filter_map, flat_map, list_any, range_with_len}
use Rattle.std.proofs.lemmas.Bool.{cases_Bool}
use Rattle.std.proofs.lemmas.List.{get_or-map, length-append}
use Rattle.std.proofs.lemmas.List.Elements.{All-head, All-tail}
use Rattle.std.proofs.lemmas.List.FromFn.{get_or-range_with_len, length-range_with_len}
use Rattle.std.proofs.lemmas.List.Sums.{sum_by-append, sum_by-cons}
use Rattle.std.specs.Cmp.Lexicographic.{bytes_decides}
use Rattle.query_model.specs.Answer.{distinct, group_of, groups_of, key_of, number_of, numbers_at, rows_with_key, sum_cell, sum_of}
use Rattle.query_model.specs.Cells.{cell_at}
use Rattle.query_model.specs.declared.bounds.TheConstants.{MOST_ROWS}
use Rattle.query_model.specs.declared.cell.Cell.{Cell}
use Rattle.query_model.specs.declared.cell.Cell.TheVariants.{Null}
use Rattle.query_model.specs.declared.kind.Kind.{Kind}
use Rattle.query_model.specs.declared.kind.Kind.TheVariants as kind
use Rattle.row_text.specs.Rows.{AreRows}
use Rattle.operators.specs.Summable.{AreSummable, magnitude}
use Rattle.operators.proofs.GatherLemmas.{kind-typed}
use Rattle.operators.proofs.KeyLemmas.{Different, Key, or-false, same_key}
use Rattle.operators.proofs.RisingLemmas.{Rising, above-none, distinct-rising}
use Rattle.operators.proofs.SummableLemmas.{abs-fold, ints-small, numbers-append}

-- keys that rise differ
rising-different : (keys : List Key) → Rising keys → Different keys
unfolding Rising Different
rising-different [] rise = tt
rising-different (k ∷ keys) rise = (above-none k keys rise.0, rising-different keys rise.1)

-- a sum is no more than its numbers come to
sum-most : (numbers : List ℤ) → magnitude (filter_map number_of (sum_cell numbers ∷ [])) ≤ magnitude numbers
sum-most [] = omega arith
sum-most (n ∷ numbers) =
    let most = abs-fold n numbers in
    let both = sum_by-cons unsigned_abs n numbers in
    omega (arith, most, both)

-- of other groups none has a key
no-group : (group : Key → List Cell) → ((k : Key) → key_of 0 (group k) ≡ k) → (one : Key) (keys : List Key)
    → list_any (same_key one) keys ≡ false → rows_with_key 0 one (map group keys) ≡ []
no-group group is one [] none = refl
no-group group is one (k ∷ keys) none =
    let both = or-false (same_key one k) (list_any (same_key one) keys) none in
    ap (λ b. cond b (group k ∷ rows_with_key 0 one (map group keys)) (rows_with_key 0 one (map group keys)))
    (ap (same_key one) (is k) ∙ both.0) ∙ no-group group is one keys both.1

-- so there is one at most
one-group : (group : Key → List Cell) → ((k : Key) → key_of 0 (group k) ≡ k) → (one : Key) (keys : List Key) → Different keys
    → (column most : ℕ) → ((k : Key) → magnitude (filter_map number_of (cell_at column (group k) ∷ [])) ≤ most)
    → magnitude (numbers_at column (rows_with_key 0 one (map group keys))) ≤ most
unfolding Different
one-group group is one [] differ column most each = omega arith
one-group group is one (k ∷ keys) differ column most each = elim (cases_Bool (same_key one k)) [
  | inl same ↦
      let key : one ≡ k = (bytes_decides one k).0 same in
      let none = no-group group is one keys (ap (λ x. list_any (same_key x) keys) key ∙ differ.0) in
      let all = ap (λ b. cond b (group k ∷ rows_with_key 0 one (map group keys)) (rows_with_key 0 one (map group keys)))
      (ap (same_key one) (is k) ∙ same) ∙ ap (λ rest. group k ∷ rest) none in
      subst (λ rows. magnitude (numbers_at column rows) ≤ most) (sym all) (each k)
  | inr other ↦
      let all = ap (λ b. cond b (group k ∷ rows_with_key 0 one (map group keys)) (rows_with_key 0 one (map group keys)))
      (ap (same_key one) (is k) ∙ other) in
      subst (λ rows. magnitude (numbers_at column rows) ≤ most) (sym all) (one-group group is one keys differ.1 column most each)
]

module _ (key : ℕ) (columns : List ℕ) (kinds : List Kind) (ints : All (λ column. slice_get kinds column ≡ Some kind.Int) columns)
    (j : ℕ) (within : j < length columns) where
  -- the sums of one part
  part-small : (one : Key) (part : List (List Cell)) → AreRows kinds part
      → magnitude (numbers_at (suc j) (rows_with_key 0 one (groups_of key columns part))) ≤ length part * 2 ^ 63
  part-small one part are =
      one-group (group_of key columns part) (λ k. refl) one (distinct (map (key_of key) part))
      (rising-different (distinct (map (key_of key) part)) (distinct-rising (map (key_of key) part))) (suc j) (length part * 2 ^ 63) (λ k.
      let column = get_or columns j 0 in
      let numbers = numbers_at column (rows_with_key key k part) in
      let cell : cell_at (suc j) (group_of key columns part k) ≡ sum_cell numbers =
      get_or-map (sum_of (rows_with_key key k part)) columns j 0 Null within in
      let typed = kind-typed column kinds kind.Int part are (ints j 0 within) in
      let small = ints-small key column k part typed in
      let most = sum-most numbers in
      let bound : magnitude (filter_map number_of (sum_cell numbers ∷ [])) ≤ length part * 2 ^ 63 = omega (arith, small, most) in
      subst (λ c. magnitude (filter_map number_of (c ∷ [])) ≤ length part * 2 ^ 63) (sym cell) bound)

  -- and of all
  parts-small : (one : Key) (parts : List (List (List Cell))) → All (AreRows kinds) parts
      → magnitude (numbers_at (suc j) (rows_with_key 0 one (flat_map (groups_of key columns) parts)))
      ≤ length (flat_map (λ part. part) parts) * 2 ^ 63
  parts-small one [] are = omega arith
  parts-small one (part ∷ parts) are =
      let first = part-small one part (All-head (AreRows kinds) part parts are) in
      let rest = parts-small one parts (All-tail (AreRows kinds) part parts are) in
      let cut = ap magnitude (numbers-append (suc j) 0 one (groups_of key columns part) (flat_map (groups_of key columns) parts))
      ∙ sum_by-append unsigned_abs (numbers_at (suc j) (rows_with_key 0 one (groups_of key columns part)))
      (numbers_at (suc j) (rows_with_key 0 one (flat_map (groups_of key columns) parts))) in
      let long = length-append part (flat_map (λ p. p) parts) in
      omega (arith, first, rest, cut, long)

-- the sums by group of parts can be merged
pub parts-summable : (key : ℕ) (columns : List ℕ) (kinds : List Kind) (parts : List (List (List Cell))) → All (AreRows kinds) parts
    → All (λ column. slice_get kinds column ≡ Some kind.Int) columns → length (flat_map (λ part. part) parts) ≤ MOST_ROWS
    → AreSummable 0 (range_with_len 1 (length columns)) (flat_map (groups_of key columns) parts)
parts-summable key columns kinds parts are ints few k d inside = λ one.
    let size = length-range_with_len 1 (length columns) in
    let within : k < length columns = omega (arith, size, inside) in
    let place : suc k ≡ get_or (range_with_len 1 (length columns)) k d =
    sym (get_or-range_with_len 1 (length columns) k d within ∙ omega arith) in
    let small = parts-small key columns kinds ints k within one parts are in
    subst (λ column. magnitude (numbers_at column (rows_with_key 0 one (flat_map (groups_of key columns) parts))) ≤ 2 ^ 127 - 1) place
    (omega (arith, small, few))
