-- Groups to which rows are added are the groups of all rows.
use Rattle.std.proofs.Common.{◌≡◌, ℕ, ◌<◌, ◌≤◌, suc, List, [], ◌∷◌, ◌++◌, length, map, All, Some, refl, sym, ap, ◌∙◌, subst, arith}
use Rattle.std.specs.Prelude.{Err, Ok, OnOk, Result, slice_get}
use Rattle.std.proofs.Math.ListN.{replicate}
use Rattle.std.proofs.lemmas.List.{length-append, length-map, map-append}
use Rattle.std.proofs.lemmas.List.Elements.{All-cons, All-nil}
use Rattle.std.proofs.lemmas.Option.{slice_get_within}
use Rattle.std.proofs.lemmas.Simd.{map-map}
use Rattle.query_model.specs.Answer.{key_of, rows_with_key, sum_of}
use Rattle.query_model.specs.Cells.{cell_at, column_of, printed}
use Rattle.query_model.specs.declared.cell.Cell.{Cell}
use Rattle.operators.specs.Adding.{CanAdd, CanAddAll, all_added, with_cells}
use Rattle.operators.specs.Groups.{AreGroups, GroupsView, HaveRoom, keys_seen}
use Rattle.operators.proofs.GroupLemmas.{rows-added, rows-fit, sums-grown}
use Rattle.operators.proofs.KeyLemmas.{ComeBehind, Different, Key, none-different, seen-append, seen-behind, seen-different}

no-sums : (key : ℕ) (list : List ℕ)
    → replicate (length list) [] ≡ map (λ column. map (λ (one : Key). sum_of (rows_with_key key one []) column) []) list
no-sums key [] = refl
no-sums key (column ∷ list) = ap (λ rest. [] ∷ rest) (no-sums key list)

-- no groups
pub groups-none : (key : ℕ) (columns : List ℕ) (groups : GroupsView) (count : ℕ) → length columns ≡ count → groups.keys ≡ []
    → groups.sums ≡ replicate count [] → AreGroups key columns [] groups
groups-none key columns groups count many keys sums = record {
  keys = keys;
  sums = sums ∙ ap (λ n. replicate n []) (sym many) ∙ no-sums key columns
      ∙ (λ k. map (λ column. map (λ one. sum_of (rows_with_key key one []) column) (sym keys k)) columns);
}

-- each place is that of a key
pub placed-within : (keys list : List Key) (places : List ℕ) → map (slice_get keys) places ≡ map Some list → All
    (λ p. p < length keys) places
placed-within keys list [] found = All-nil _
placed-within keys [] (p ∷ places) found = cc found
placed-within keys (k ∷ list) (p ∷ places) found =
    let there : slice_get keys p ≡ Some k = cc found in
    let others : map (slice_get keys) places ≡ map Some list = cc found in
    All-cons (λ n. n < length keys) p places (slice_get_within keys p k there) (placed-within keys list places others)

module _ (key : ℕ) (columns : List ℕ) (before rows : List (List Cell)) (old : GroupsView) (keys : List Key) (places : List ℕ)
    (are : AreGroups key columns before old) (seen : keys ≡ keys_seen old.keys (map (key_of key) rows))
    (found : map (slice_get keys) places ≡ map Some (map (key_of key) rows)) where
  behind : ComeBehind old.keys keys
  behind = subst (ComeBehind old.keys) (sym seen) (seen-behind old.keys (map (key_of key) rows))

  -- the keys of all rows
  pub keys-all : keys ≡ keys_seen [] (map (key_of key) (before ++ rows))
  keys-all =
      seen ∙ ap (λ list. keys_seen list (map (key_of key) rows)) are.keys
      ∙ sym (seen-append [] (map (key_of key) before) (map (key_of key) rows))
      ∙ ap (keys_seen []) (sym (map-append (key_of key) before rows))

  differ : Different keys
  differ = subst Different (sym keys-all) (seen-different [] (map (key_of key) (before ++ rows)) none-different)

  fewer : length old.keys ≤ length keys
  fewer = (let long = ap length behind.order ∙ length-append old.keys behind.extra in omega (arith, long))

  short-each : (list : List ℕ)
      → All (λ sum. length sum ≤ length keys) (map (λ column. map (λ one. sum_of (rows_with_key key one before) column) old.keys) list)
  short-each [] = All-nil _
  short-each (column ∷ list) =
      let size = length-map old.keys (λ one. sum_of (rows_with_key key one before) column) in
      All-cons (λ sum. length sum ≤ length keys) (map (λ one. sum_of (rows_with_key key one before) column) old.keys)
      (map (λ c. map (λ one. sum_of (rows_with_key key one before) c) old.keys) list) (omega (arith, size, fewer)) (short-each list)

  -- no sum is longer than the keys
  pub sums-short : All (λ sum. length sum ≤ length keys) old.sums
  sums-short = subst (All (λ sum. length sum ≤ length keys)) (sym are.sums) (short-each columns)

  sums-each : (list : List ℕ)
      → all_added (length keys) places rows list (map (λ column. map (λ one. sum_of (rows_with_key key one before) column) old.keys) list)
      ≡ map (λ column. map (λ one. sum_of (rows_with_key key one (before ++ rows)) column) keys) list
  unfolding all_added
  sums-each [] = refl
  sums-each (column ∷ list) =
      let first = ap (λ sum. with_cells sum places (column_of column rows)) (sums-grown key column before old.keys keys are.keys behind)
      ∙ rows-added key column keys differ before rows places found in
      (λ k. first k ∷ sums-each list k)

  -- the sums of all rows
  pub sums-all : all_added (length keys) places rows columns old.sums
      ≡ map (λ column. map (λ one. sum_of (rows_with_key key one (before ++ rows)) column) keys) columns
  sums-all = ap (all_added (length keys) places rows columns) are.sums ∙ sums-each columns

  room-each : (list : List ℕ) → HaveRoom key list (before ++ rows)
      → CanAddAll (length keys) places rows list (map (λ column. map (λ one. sum_of (rows_with_key key one before) column) old.keys) list)
  unfolding CanAddAll
  room-each [] room = tt
  room-each (column ∷ list) room = (
    subst (λ sum. CanAdd sum places (column_of column rows)) (sym (sums-grown key column before old.keys keys are.keys behind))
        (rows-fit key column keys differ (before ++ rows) before rows places refl (room 0 column (omega arith)) found),
    room-each list (λ k d within. room (suc k) d (omega arith)),
  )

  -- there is room for them
  pub room-all : HaveRoom key columns (before ++ rows) → CanAddAll (length keys) places rows columns old.sums
  room-all room = subst (CanAddAll (length keys) places rows columns) (sym are.sums) (room-each columns room)

-- the keys of cells are those of rows
pub keys-of-cells : (key : ℕ) (rows : List (List Cell)) → map printed (column_of key rows) ≡ map (key_of key) rows
keys-of-cells key rows = map-map printed (cell_at key) rows

-- what holds on success has a consequence
pub on-ok : {T E P Q : Type 0} (r : Result T E) → (P → Q) → OnOk r P → OnOk r Q
on-ok (Ok x) f p = f p
on-ok (Err e) f p = p
