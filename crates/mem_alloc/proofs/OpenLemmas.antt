-- What is told of an allocator that is open, and of one that isn't.
use Rattle.std.proofs.Common.{◌≡◌, ℕ, zero, suc, ◌<◌, ◌≤◌, List, [], ◌∷◌, get_or, Bool, true, false, not, ◌==◌, refl, sym, ◌∙◌, ap}
use Rattle.std.proofs.Common.{subst, arith, inl, inr, Option, Some, None}
use Rattle.std.proofs.lemmas.Bool.{cases_Bool, cond_both, eqb-true, ne_eqb}
use Rattle.std.proofs.lemmas.List.Folds.{Any-from_list_any, list_any_none}
use Rattle.std.specs.Prelude.{if◌then◌else◌, AllPairs, IfErr, IsErr, Result, Ok, Err}
use Rattle.std.specs.List.{find, list_any}
use Rattle.std.specs.Option.{option_map, option_map_or}
use Rattle.mem_num.specs.declared.alloc_id.AllocId.{AllocId}
use Rattle.mem_num.specs.declared.bounds.TheConstants.{MOST_ALLOCATORS}
use Rattle.mem_num.specs.declared.closed.Closed.{Closed}
use Rattle.mem_num.specs.declared.placed.Placed.{Placed}
use Rattle.mem_model.specs.declared.tree_node.TreeNode.{TreeNode}
use Rattle.mem_model.specs.Headroom.{headroom_answer, over_limit_answer}
use Rattle.mem_model.specs.LawfulState.{IsLawfulState, IsWithinBounds}
use Rattle.mem_model.specs.MeasuredTree.{placed_at, placed_node}
use Rattle.mem_model.specs.TreeNode.{IsAllocatorTree}
use Rattle.mem_model.specs.TreeState.{TreeState, closed_at, is_open}
use Rattle.mem_model.proofs.OpenLemmas.{is_open_at, open_parts, pairs_head, pairs_tail}

-- a node isn't closed
abbrev pub is_node_open : TreeNode → Bool
is_node_open node = not node.closed

-- one of the nodes is open at a number exactly where the first of that number is
pub open-found : (nodes : List TreeNode) (n : ℕ) → AllPairs (λ older newer. older.number.0 < newer.number.0) nodes
    → list_any (is_open_at n) nodes ≡ option_map_or is_node_open (find (λ (node : TreeNode). node.number.0 == n) nodes) false
open-found [] n rises = refl
open-found (x ∷ xs) n rises = elim (cases_Bool (x.number.0 == n)) [
  | inl same ↦
      let number : x.number.0 ≡ n = eqb-true x.number.0 n same in
      let above = pairs_head (λ (a b : TreeNode). a.number.0 < b.number.0) x xs rises in
      let none : list_any (is_open_at n) xs ≡ false = list_any_none (is_open_at n) xs
      (λ k d within. let other : (get_or xs k d).number.0 ≡ n → ⊥ = λ e. omega (arith, above k d within, number, e) in
      rw (ne_eqb (get_or xs k d).number.0 n other) refl) in
      elim (cases_Bool x.closed) [ inl shut ↦ rw (same, shut, none) refl | inr free ↦ rw (same, free) refl ]
  | inr other ↦ let rest = open-found xs n (pairs_tail (λ (a b : TreeNode). a.number.0 < b.number.0) x xs rises) in rw other rest
]

-- an allocator with its numbers tells as much as its node
placed-open : (peaks : ℕ → ℕ) (state : TreeState) (found : Option TreeNode)
    → option_map_or is_node_open found false
    ≡ option_map_or (λ (placed : Placed). not placed.node.closed) (option_map (placed_node peaks state) found) false
placed-open peaks state None = refl
placed-open peaks state (Some node) = refl

pub open-placed : (peaks : ℕ → ℕ) (state : TreeState) (n : ℕ) (found : Option Placed) → IsAllocatorTree state.nodes
    → found ≡ placed_at peaks state n → option_map_or (λ (placed : Placed). not placed.node.closed) found false ≡ is_open state n
open-placed peaks state n found tree is =
    ap (λ (one : Option Placed). option_map_or (λ (placed : Placed). not placed.node.closed) one false) is
    ∙ sym (open-found state.nodes n tree.ordered ∙ placed-open peaks state (find (λ (node : TreeNode). node.number.0 == n) state.nodes))

-- an open allocator has one of the numbers
pub few-open : (state : TreeState) (n : ℕ) → IsLawfulState state → is_open state n ≡ true → n < MOST_ALLOCATORS
few-open state n lawful is =
    let found = Any-from_list_any (is_open_at n) state.nodes is in
    let few : IsWithinBounds state.next found.1 = subst (IsWithinBounds state.next) found.3 (lawful.nodes found.0 found.1 found.2) in
    let parts = (open_parts n found.1 found.4).0 in
    omega (arith, few.few, parts)

-- what is pinned is open, so what isn't open isn't pinned
pub unpinned : (pins : ℕ) (state : TreeState) (at : AllocId) → (1 ≤ pins → is_open state at.0 ≡ true) → is_open state at.0 ≡ false
    → pins ≡ 0
unpinned zero state at held shut = refl
unpinned (suc n) state at held shut = let is : is_open state at.0 ≡ true = held (omega arith) in absurd cc

-- an answer that only an allocator that isn't open refuses
pub record IsRefusedClosed (pins : ℕ) (at : AllocId) {A : Type 0} (answer : Result A Closed) : Type 0 where
  pub closed : IfErr answer (λ closed. closed.node ≡ at)
  pub unpinned : IsErr answer → pins ≡ 0

refused-closed : {A : Type 0} (pins : ℕ) (state : TreeState) (at : AllocId) (value : A) → (1 ≤ pins → is_open state at.0 ≡ true)
    → IsRefusedClosed pins at (if is_open state at.0 then Ok value else Err (closed_at at))
refused-closed {A} pins state at value held =
    cond_both (is_open state at.0) (Ok value) (Err (closed_at at)) (λ (answer : Result A Closed). IsRefusedClosed pins at answer)
    (λ _. record { closed = tt; unpinned = λ e. absurd cc })
    (λ shut. record { closed = refl; unpinned = λ _. unpinned pins state at held shut })

pub headroom-refused : (pins : ℕ) (state : TreeState) (at : AllocId) → (1 ≤ pins → is_open state at.0 ≡ true)
    → IsRefusedClosed pins at (headroom_answer state at)
unfolding headroom_answer
headroom-refused pins state at held = refused-closed pins state at _ held

pub over_limit-refused : (pins : ℕ) (state : TreeState) (at : AllocId) → (1 ≤ pins → is_open state at.0 ≡ true)
    → IsRefusedClosed pins at (over_limit_answer state at)
unfolding over_limit_answer
over_limit-refused pins state at held = refused-closed pins state at _ held
