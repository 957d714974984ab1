-- An allocator without uses can be closed, and a closed one has none.
use Rattle.std.proofs.Common.{◌≡◌, ℕ, ◌+◌, ◌<◌, ◌≤◌, List, get_or, true, false, not, eqb, refl, sym, ap, subst, ◌∙◌, arith, Option, Some, None, All, Any}
use Rattle.std.specs.List.{list_any}
use Rattle.std.specs.Option.{ForSome}
use Rattle.std.proofs.lemmas.Bool.{lt-ltb, ltb-true, cond-false, cond_both, and_parts, eqb-true, eq-eqb, ne_eqb, not-true, true≢false, both_ways, false_from_ne_true}
use Rattle.std.proofs.lemmas.List.Elements.{All-weaker, All-map}
use Rattle.std.proofs.lemmas.List.Folds.{Any-from_list_any, list_any-from_Any}
use Rattle.mem_num.specs.declared.alloc_id.AllocId.{AllocId}
use Rattle.mem_model.specs.declared.tree_node.TreeNode.{TreeNode}
use Rattle.mem_model.specs.TreeNode.{is_number, is_open_child, IsParentOf, HasParentUnlessRoot, IsAllocatorTree}
use Rattle.mem_model.specs.TreeState.{TreeState, is_open, ledgers_of, children_of, uses_of}
use Rattle.mem_model.specs.Close.{closed_where, with_closed}
use Rattle.mem_model.specs.LawfulState.{IsWithinBounds, IsLawfulState}
use Rattle.mem_model.specs.Chunk.{has_ledger}
use Rattle.mem_model.specs.Ledgers.{count_of}
use Rattle.mem_model.proofs.LawfulLemmas.{lawful_after}
use Rattle.mem_model.proofs.ReferenceLemmas.{ledger-counted, referrer_open}
use Rattle.mem_model.proofs.OpenLemmas.{is_open_at, open_parts, open_from, Any-map, AllPairs-map, none_counted, count_none}

-- a fact of a node that a closed one keeps
pub closed_both : (P : TreeNode → Type 0) (n : ℕ) (node : TreeNode) → P (record node { closed = true }) → P node → P (closed_where n node)
closed_both P n node closed_ same = cond_both (eqb node.number.0 n) (record node { closed = true }) node P (λ _. closed_) (λ _. same)

-- closing keeps a node's number
number_kept : (n : ℕ) (node : TreeNode) → (closed_where n node).number ≡ node.number
number_kept n node = closed_both (λ x. x.number ≡ node.number) n node refl refl

-- and its parent
parent_kept : (n : ℕ) (node : TreeNode) → (closed_where n node).parent ≡ node.parent
parent_kept n node = closed_both (λ x. x.parent ≡ node.parent) n node refl refl

-- other nodes stay as they are
closed_elsewhere : (n : ℕ) (node : TreeNode) → (node.number.0 ≡ n → ⊥) → closed_where n node ≡ node
closed_elsewhere n node other = cond-false (eqb node.number.0 n) (record node { closed = true }) node (ne_eqb node.number.0 n other)

-- who is open now was open before
was_open : (n : ℕ) (node : TreeNode) → (closed_where n node).closed ≡ false → node.closed ≡ false
was_open n node = closed_both (λ x. x.closed ≡ false → node.closed ≡ false) n node (λ e. absurd (true≢false e)) (λ e. e)

-- an open child names its parent
child_of : (n : ℕ) (node parent : TreeNode) → node.parent ≡ Some parent.number → parent.number.0 ≡ n → node.closed ≡ false → is_open_child n node ≡ true
child_of n node parent is number open_ = rw (is, eq-eqb parent.number.0 n number, open_) refl

-- a node that isn't an open child of n has its parent still
parent-close : (n : ℕ) (node parent : TreeNode) → is_open_child n node ≡ false → IsParentOf node parent → IsParentOf (closed_where n node) (closed_where n parent)
parent-close n node parent none h =
    let e₁ : (closed_where n node).number.0 ≡ node.number.0 = ap (λ (id : AllocId). id.0) (number_kept n node) in
    let e₂ : (closed_where n parent).number.0 ≡ parent.number.0 = ap (λ (id : AllocId). id.0) (number_kept n parent) in
    let less : parent.number.0 < node.number.0 = h.older in
    record {
      number = parent_kept n node ∙ (h.number ∙ ap Some (sym (number_kept n parent)));
      older = omega arith;
      open_ = λ open_.
          let before : node.closed ≡ false = was_open n node open_ in
          let other : parent.number.0 ≡ n → ⊥ = λ same. both_ways (is_open_child n node) none (child_of n node parent h.number same before) in
          ap (λ (x : TreeNode). x.closed) (closed_elsewhere n parent other) ∙ h.open_ before;
    }

-- an allocator without open children can be closed
tree-close : (n : ℕ) (nodes : List TreeNode) → All (λ node. is_open_child n node ≡ false) nodes → IsAllocatorTree nodes → IsAllocatorTree (with_closed n nodes)
tree-close n nodes none tree =
    let Before : TreeNode → TreeNode → Type 0 = λ a b. a.number.0 < b.number.0 in
    let number = λ (node : TreeNode). ap (λ (id : AllocId). id.0) (number_kept n node) in
    record {
      ordered = AllPairs-map Before (closed_where n) nodes (λ i j d lt within.
          let less : (get_or nodes i d).number.0 < (get_or nodes j d).number.0 = tree.ordered i j d lt within in
          omega (arith, less, number (get_or nodes i d), number (get_or nodes j d)));
      root = All-map HasParentUnlessRoot (closed_where n) nodes (λ k d within. closed_both HasParentUnlessRoot n (get_or nodes k d) (tree.root k d within) (tree.root k d within));
      parents = All-map (λ node. ForSome node.parent (λ _. Any (IsParentOf node) (with_closed n nodes))) (closed_where n) nodes (λ k d within p is.
          let node = get_or nodes k d in
          Any-map (IsParentOf node) (IsParentOf (closed_where n node)) (closed_where n) nodes (λ parent. parent-close n node parent (none k d within)) (tree.parents k d within p (sym (parent_kept n node) ∙ is)));
    }

-- the others stay open
open-close : (n m : ℕ) (nodes : List TreeNode) → (m ≡ n → ⊥) → list_any (is_open_at m) nodes ≡ true → list_any (is_open_at m) (with_closed n nodes) ≡ true
open-close n m nodes other open_ =
    list_any-from_Any (is_open_at m) (with_closed n nodes) (Any-map (λ node. is_open_at m node ≡ true) (λ node. is_open_at m node ≡ true) (closed_where n) nodes
    (λ node at_m. let number : node.number.0 ≡ m = (open_parts m node at_m).0 in ap (is_open_at m) (closed_elsewhere n node (λ same. other (sym number ∙ same))) ∙ at_m)
    (Any-from_list_any (is_open_at m) nodes open_))

-- a node within bounds stays so
bounds-close : (next n : ℕ) (node : TreeNode) → IsWithinBounds next node → IsWithinBounds next (closed_where n node)
bounds-close next n node h =
    closed_both (IsWithinBounds next) n node (record { given = h.given; few = h.few; reserves = h.reserves; small = h.small; limited = h.limited; root = h.root }) h

-- an allocator that nothing uses is closed
pub lawful-close : (state : TreeState) (n : ℕ) → IsLawfulState state → uses_of state n ≡ 0 → IsLawfulState (record state { nodes = with_closed n state.nodes })
lawful-close state n h unused =
    let after : TreeState = record state { nodes = with_closed n state.nodes } in
    let no_child : All (λ node. is_open_child n node ≡ false) state.nodes = none_counted (is_open_child n) state.nodes (let sum : ledgers_of state n + children_of state n ≡ 0 = unused in omega (arith, sum)) in
    let no_ledger : All (λ chunk. has_ledger n chunk ≡ false) state.chunks = none_counted (has_ledger n) state.chunks (let sum : ledgers_of state n + children_of state n ≡ 0 = unused in omega (arith, sum)) in
    record {
      tree = tree-close n state.nodes no_child h.tree;
      nodes = All-map (IsWithinBounds state.next) (closed_where n) state.nodes (All-weaker (IsWithinBounds state.next) (λ node. IsWithinBounds state.next (closed_where n node)) (bounds-close state.next n) state.nodes h.nodes);
      in_order = h.in_order;
      chunks = λ k d within.
          let chunk = get_or state.chunks k d in
          let lawful = h.chunks k d within in
          lawful_after (is_open state) (is_open after) chunk lawful (λ i l in_.
          let at = (get_or chunk.ledgers i l).at.0 in
          let some : 1 ≤ count_of chunk.ledgers at = ledger-counted chunk.ledgers i l lawful.in_order.counted in_ in
          let other : at ≡ n → ⊥ = λ same. both_ways (has_ledger n chunk) (no_ledger k d within) (lt-ltb 0 (count_of chunk.ledgers n) (subst (λ m. 1 ≤ count_of chunk.ledgers m) same some)) in
          open-close n at state.nodes other (lawful.open_ i l in_));
      given = h.given;
    }

-- an identifier that has the number n
pub numbered : (n : ℕ) (parent : Option AllocId) → is_number n parent ≡ true → (p : AllocId) × (parent ≡ Some p) × (p.0 ≡ n)
numbered n None h = absurd (true≢false (sym h))
numbered n (Some p) h = (p, refl, eqb-true p.0 n h)

-- an open child's parent is open
child_open : (state : TreeState) (n : ℕ) (node : TreeNode) → ForSome node.parent (λ _. Any (IsParentOf node) state.nodes) → is_open_child n node ≡ true → is_open state n ≡ true
child_open state n node has child =
    let parts = and_parts (is_number n node.parent) (not node.closed) child in
    let p = numbered n node.parent parts.0 in
    let found : Any (IsParentOf node) state.nodes = has p.0 p.1 in
    let same : Some p.0 ≡ Some found.1.number = sym p.1 ∙ found.4.number in
    let id : p.0 ≡ found.1.number = cc in
    let number : found.1.number.0 ≡ n = ap (λ (q : AllocId). q.0) (sym id) ∙ p.2 in
    let open_ : found.1.closed ≡ false = found.4.open_ (not-true node.closed parts.1) in
    list_any-from_Any (is_open_at n) state.nodes (found.0, found.1, found.2, found.3, open_from n found.1 number open_)

-- who isn't open has no use left
pub uses-closed : (state : TreeState) (n : ℕ) → IsLawfulState state → is_open state n ≡ false → uses_of state n ≡ 0
uses-closed state n h shut =
    let no_child : children_of state n ≡ 0 = count_none (is_open_child n) state.nodes (λ k d within.
    false_from_ne_true (is_open_child n (get_or state.nodes k d)) (λ child. both_ways (is_open state n) shut (child_open state n (get_or state.nodes k d) (h.tree.parents k d within) child))) in
    let no_ledger : ledgers_of state n ≡ 0 = count_none (has_ledger n) state.chunks (λ k d within.
    let chunk = get_or state.chunks k d in
    false_from_ne_true (has_ledger n chunk) (λ refers. both_ways (is_open state n) shut (referrer_open state chunk n (h.chunks k d within) (ltb-true 0 (count_of chunk.ledgers n) refers)))) in
    omega (arith, no_child, no_ledger)
