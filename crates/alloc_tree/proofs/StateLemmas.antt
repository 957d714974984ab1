-- Sound trees: their bounds, and which of their allocators are open.
use Rattle.std.proofs.Common.{◌≡◌, ℕ, ◌+◌, ◌<◌, ◌≤◌, ◌^◌, List, true, false, Option, Some, None, is_some, IsSome}
use Rattle.std.proofs.Common.{refl, sym, ap, subst, ◌∙◌, arith, inl, inr}
use Rattle.std.proofs.lemmas.Bool.{cases_Bool}
use Rattle.std.proofs.lemmas.List.Sums.{count_by-le-length}
use Rattle.mem_num.specs.declared.bounds.TheConstants.{MAX_RESERVATION}
use Rattle.mem_model.specs.Chunk.{has_ledger}
use Rattle.mem_model.specs.MeasuredTree.{MeasuredTree}
use Rattle.mem_model.specs.TreeNode.{is_open_child}
use Rattle.mem_model.specs.TreeState.{charges_in, is_open}
use Rattle.mem_model.proofs.BalanceLemmas.{balanced_is_held}
use Rattle.mem_model.proofs.BoundLemmas.{held_of_bound}
use Rattle.mem_model.proofs.LawfulBoundLemmas.{all_of-lawful, chunks_few, nodes_few}
use Rattle.alloc_tree.specs.declared.row.Row.{Row}
use Rattle.alloc_tree.specs.declared.solo_tree.SoloTree.TheInside.{Inside}
use Rattle.alloc_tree.specs.Fields.{IsSoundSolo, state_of, tree_of}
use Rattle.alloc_tree.specs.Rows.{row_at, if_open, held_by, uses_in, IsOpenAt}
use Rattle.alloc_tree.proofs.OpenLemmas.{is_open_row}

module _ {f : Inside} (sound : IsSoundSolo f) where
  -- what each allocator holds leaves room for a request
  pub room_for : (amount : ℕ) → f.drawn < 2 ^ 32 → amount ≤ MAX_RESERVATION → (n : ℕ) → held_by f.rows n + amount < 2 ^ 64
  room_for amount few small n =
      let state = state_of f in
      let held = balanced_is_held state.nodes (charges_in state) (held_by f.rows) sound.lawful.tree sound.numbers.held n in
      omega (arith, held, held_of_bound state.nodes (charges_in state) n sound.lawful.tree, all_of-lawful state sound.lawful few)

  -- an allocator has fewer uses than there are chunks and nodes
  pub few_uses : (n : ℕ) → f.drawn < 2 ^ 32 → uses_in f.rows n + 1 < 2 ^ 64
  few_uses n few =
      let state = state_of f in
      let ledgers = count_by-le-length (has_ledger n) state.chunks in
      let children = count_by-le-length (is_open_child n) state.nodes in
      omega (arith, sound.numbers.uses n, ledgers, children, chunks_few state sound.lawful, nodes_few state sound.lawful)

-- a row that is there and isn't closed
pub open_if : (rows : List (Option Row)) (n : ℕ) (found : Option Row) → row_at rows n ≡ found → is_some (if_open found) ≡ true
    → IsOpenAt rows n
open_if rows n None is h = absurd cc
open_if rows n (Some row) is h = (
  row,
  is,
  elim (cases_Bool row.closed) [
    | inl shut ↦ absurd (let none : is_some (if_open (Some row)) ≡ false = rw shut refl in cc)
    | inr open_ ↦ open_
  ],
)

-- an open allocator's row is open
pub open_in : (f : Inside) (n : ℕ) → is_open (state_of f) n ≡ true → IsOpenAt f.rows n
open_in f n h = open_if f.rows n (row_at f.rows n) refl (sym (is_open_row f.rows n) ∙ h)

-- and is there
pub made_in : (rows : List (Option Row)) (n : ℕ) → IsOpenAt rows n → IsSome (row_at rows n)
made_in rows n h = subst IsSome (sym h.1) refl

-- what is open in the tree that is seen, and in the one that the fields are
pub open_here : (f : Inside) {tree : MeasuredTree} (n : ℕ) → tree_of f ≡ tree → is_open (state_of f) n ≡ is_open tree.state n
open_here f n view = ap (λ (t : MeasuredTree). is_open t.state n) view

pub drawn_here : (f : Inside) {tree : MeasuredTree} → tree_of f ≡ tree → f.drawn ≡ tree.state.drawn
drawn_here f view = ap (λ (t : MeasuredTree). t.state.drawn) view
