-- What rows say of their tree: which allocators are there, which are open, and their numbers.
use Rattle.std.proofs.Common.{◌≡◌, ℕ, zero, suc, ◌+◌, ◌<◌, List, [], ◌∷◌, get_or, Bool, true, false, not, ◌&&◌}
use Rattle.std.proofs.Common.{◌||◌, eqb, Option, Some, None, is_some, refl, sym, ap, ◌∙◌, arith, inl, inr, ne_eqb, eq-eqb}
use Rattle.std.specs.List.{find, list_any}
use Rattle.std.proofs.lemmas.Bool.{cases_Bool}
use Rattle.std.specs.Option.{option_map}
use Rattle.mem_num.specs.declared.alloc_id.AllocId.{AllocId}
use Rattle.mem_model.specs.MeasuredTree.{placed_at, placed_node}
use Rattle.mem_model.specs.TreeState.{TreeState, held_at, uses_of}
use Rattle.alloc_tree.specs.declared.row.Row.{Row}
use Rattle.alloc_tree.specs.Placed.{placed_row}
use Rattle.alloc_tree.specs.Rows.{row_at, row_node, nodes_from, nodes_in, if_open, peaks_of, peaks_in}

-- a number before the first row isn't among the nodes
find_before : (first k : ℕ) (rows : List (Option Row)) → k < first → find (λ node. eqb node.number.0 k) (nodes_from first rows)
    ≡ None
unfolding nodes_from
find_before first k [] before = refl
find_before first k (None ∷ rows) before = find_before (suc first) k rows (omega (arith, before))
find_before first k (Some row ∷ rows) before =
    let other : eqb first k ≡ false = ne_eqb first k (λ same. omega (arith, same, before)) in
    rw other (find_before (suc first) k rows (omega (arith, before)))

find_from : (first n k : ℕ) (rows : List (Option Row)) → first + n ≡ k → find (λ node. eqb node.number.0 k) (nodes_from first rows)
    ≡ option_map (row_node k) (row_at rows n)
unfolding nodes_from
find_from first n k [] at = refl
find_from first zero k (None ∷ rows) at = find_before (suc first) k rows (omega (arith, at))
find_from first zero k (Some row ∷ rows) at =
    let number : first ≡ k = omega (arith, at) in
    let here : eqb first k ≡ true = eq-eqb first k number in
    rw here (ap (λ m. Some (row_node m row)) number)
find_from first (suc n) k (None ∷ rows) at = find_from (suc first) n k rows (omega (arith, at))
find_from first (suc n) k (Some row ∷ rows) at =
    let other : eqb first k ≡ false = ne_eqb first k (λ same. omega (arith, same, at)) in
    rw other (find_from (suc first) n k rows (omega (arith, at)))

-- the node of a number is that of its row
pub find_row : (rows : List (Option Row)) (n : ℕ) → find (λ node. eqb node.number.0 n) (nodes_in rows)
    ≡ option_map (row_node n) (row_at rows n)
find_row rows n = find_from 0 n n rows (omega arith)

open_before : (first k : ℕ) (rows : List (Option Row)) → k < first
    → list_any (λ node. eqb node.number.0 k && not node.closed) (nodes_from first rows) ≡ false
unfolding nodes_from
open_before first k [] before = refl
open_before first k (None ∷ rows) before = open_before (suc first) k rows (omega (arith, before))
open_before first k (Some row ∷ rows) before =
    let other : eqb first k ≡ false = ne_eqb first k (λ same. omega (arith, same, before)) in
    rw other (open_before (suc first) k rows (omega (arith, before)))

by_closed : (row : Row) {later : Bool} → later ≡ false → ((not row.closed) || later) ≡ is_some (if_open (Some row))
by_closed row none = elim (cases_Bool row.closed) [ inl shut ↦ rw shut none | inr open_ ↦ rw open_ refl ]

open_from : (first n k : ℕ) (rows : List (Option Row)) → first + n ≡ k
    → list_any (λ node. eqb node.number.0 k && not node.closed) (nodes_from first rows) ≡ is_some (if_open (row_at rows n))
unfolding nodes_from
open_from first n k [] at = refl
open_from first zero k (None ∷ rows) at = open_before (suc first) k rows (omega (arith, at))
open_from first zero k (Some row ∷ rows) at =
    let here : eqb first k ≡ true = eq-eqb first k (omega (arith, at)) in
    rw here (by_closed row (open_before (suc first) k rows (omega (arith, at))))
open_from first (suc n) k (None ∷ rows) at = open_from (suc first) n k rows (omega (arith, at))
open_from first (suc n) k (Some row ∷ rows) at =
    let other : eqb first k ≡ false = ne_eqb first k (λ same. omega (arith, same, at)) in
    rw other (open_from (suc first) n k rows (omega (arith, at)))

-- an allocator is open where its row is
pub is_open_row : (rows : List (Option Row)) (n : ℕ) → list_any (λ node. eqb node.number.0 n && not node.closed) (nodes_in rows)
    ≡ is_some (if_open (row_at rows n))
is_open_row rows n = open_from 0 n n rows (omega arith)

-- the peaks by number
pub peaks_of-at : (rows : List (Option Row)) (n : ℕ) → get_or (peaks_of rows) n 0 ≡ peaks_in rows n
peaks_of-at [] n = refl
peaks_of-at (row ∷ rows) zero = refl
peaks_of-at (row ∷ rows) (suc n) = peaks_of-at rows n

-- a row tells its node's numbers
module _ (peaks : ℕ → ℕ) (state : TreeState) (rows : List (Option Row)) (nodes : state.nodes ≡ nodes_in rows) where
  placed_by : (n : ℕ) (found : Option Row) → row_at rows n ≡ found
      → placed_at peaks state n ≡ option_map (λ row. placed_node peaks state (row_node n row)) found
  placed_by n found is =
      ap (λ xs. option_map (placed_node peaks state) (find (λ node. eqb node.number.0 n) xs)) nodes
      ∙ ap (option_map (placed_node peaks state)) (find_row rows n ∙ ap (option_map (row_node n)) is)
      ∙ elim found as (λ o. option_map (placed_node peaks state) (option_map (row_node n) o)
      ≡ option_map (λ row. placed_node peaks state (row_node n row)) o) [ None ↦ refl | Some row ↦ refl ]

  pub placed_none : (n : ℕ) → row_at rows n ≡ None → None ≡ placed_at peaks state n
  placed_none n none = sym (placed_by n None none)

  pub placed_some : (at : AllocId) (row : Row) → row_at rows at.0 ≡ Some row → row.held ≡ held_at state at.0
      → row.peak ≡ peaks at.0 → row.uses ≡ uses_of state at.0
      → Some (placed_row at row) ≡ placed_at peaks state at.0
  placed_some at row is held peak uses = (λ i. Some (placed_row at (record row { held = held i; peak = peak i; uses = uses i })))
      ∙ sym (placed_by at.0 (Some row) is)
