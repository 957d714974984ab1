-- The text below an allocator, child by child.
use Rattle.std.proofs.Common.{◌≡◌, ℕ, ◌+◌, ◌<◌, List, [], ◌∷◌, ◌++◌, map, filter, get_or, Bool, false, not, ◌&&◌, eqb, All, Option, Some, None, refl, sym, ap, subst, ◌∙◌, arith, inl, inr, append_assoc}
use Rattle.std.specs.List.{flat_map}
use Rattle.std.specs.Option.{ForSome, unwrap_or}
use Rattle.std.proofs.lemmas.Bool.{cases_Bool}
use Rattle.std.proofs.lemmas.Bool.Decides.{nat_tests}
use Rattle.std.proofs.lemmas.List.Elements.{All-head, All-tail, All-contains, Contains-append_right}
use Rattle.std.proofs.Math.ListN.{get_or-append}
use Rattle.std.proofs.lemmas.List.{length-append}
use Rattle.mem_num.specs.declared.alloc_id.AllocId.{AllocId}
use Rattle.mem_model.specs.declared.tree_node.TreeNode.{TreeNode}
use Rattle.mem_model.specs.MeasuredTree.{placed_node}
use Rattle.mem_model.specs.TreeNode.{IsAllocatorTree, is_open_child, is_number}
use Rattle.mem_model.specs.TreeState.{TreeState}
use Rattle.mem_model.proofs.HeldLemmas.{Rises, IsOlderTree, older_from_tree, no_child_up_to}
use Rattle.leak_report.specs.TreeText.{lines_under, line_text, is_open_under, text_below, children_text}

-- the parent of a node is older than it
abbrev pub HasOlderParent : TreeNode → Type 0
HasOlderParent node = ForSome node.parent (λ p. p.0 < node.number.0)

-- the child test by the parent that is told is that by the parent
child_by : (n m : ℕ) (parent : Option AllocId) (at : AllocId) (closed : Bool) → at.0 ≡ m → ForSome parent (λ p. p.0 < m) → (eqb (unwrap_or parent at).0 n && not (eqb m n) && not closed) ≡ (is_number n parent && not closed)
child_by n m None at closed is older = elim (cases_Bool (eqb m n)) [
  | inl same ↦ rw (is, same) refl
  | inr other ↦ rw (is, other) refl
]
child_by n m (Some p) at closed is older =
    let less : p.0 < m = older p refl in
    elim (cases_Bool (eqb p.0 n)) [
      | inl same ↦ (let other : eqb m n ≡ false = grind (arith, nat_tests) in rw (same, other) refl)
      | inr other ↦ rw other refl
    ]

-- the child test on a node with its numbers is that on the node
pub child_same : (peaks : ℕ → ℕ) (state : TreeState) (n : ℕ) (node : TreeNode) → HasOlderParent node → is_open_under n (placed_node peaks state node) ≡ is_open_child n node
child_same peaks state n node older = child_by n node.number.0 node.parent node.number node.closed refl older

-- the lines below n among some nodes of a tree
abbrev lines_among : List (List (List ℕ × AllocId)) → (ℕ → ℕ) → TreeState → List TreeNode → ℕ → ℕ → List ℕ
lines_among names peaks state nodes depth n = lines_under names (map (placed_node peaks state) nodes) depth n

-- nodes without a child of n add no line
lines_among-append : (names : List (List (List ℕ × AllocId))) (peaks : ℕ → ℕ) (state : TreeState) (before nodes : List TreeNode) (depth n : ℕ) → All (λ x. is_open_under n (placed_node peaks state x) ≡ false) before
    → lines_among names peaks state (before ++ nodes) depth n ≡ lines_among names peaks state nodes depth n
lines_among-append names peaks state [] nodes depth n none = refl
lines_among-append names peaks state (e ∷ before) nodes depth n none =
    let P : TreeNode → Type 0 = λ x. is_open_under n (placed_node peaks state x) ≡ false in
    rw (All-head P e before none) (lines_among-append names peaks state before nodes depth n (All-tail P e before none))

-- what holds of all nodes holds of the first ones
All-front : (P : TreeNode → Type 0) (before later : List TreeNode) → All P (before ++ later) → All P before
All-front P before later all' k d within =
    subst P (get_or-append before later d k within) (all' k d (omega (arith, length-append before later)))

-- a child's line, and the text below that child among some nodes
abbrev child_text : List (List (List ℕ × AllocId)) → (ℕ → ℕ) → TreeState → List TreeNode → ℕ → TreeNode → List ℕ
child_text names peaks state nodes depth child = line_text names depth (placed_node peaks state child) ++ lines_among names peaks state nodes (depth + 1) child.number.0

-- among the last nodes too, the lines go child by child, each with the text by all nodes
lines_among-by : (names : List (List (List ℕ × AllocId))) (peaks : ℕ → ℕ) (state : TreeState) (all' before nodes : List TreeNode) (depth n : ℕ) → before ++ nodes ≡ all' → Rises all' → IsOlderTree all'
    → lines_among names peaks state nodes depth n ≡ flat_map (child_text names peaks state all' depth) (filter (is_open_child n) nodes)
lines_among-by names peaks state all' before [] depth n is rises older = refl
lines_among-by names peaks state all' before (e ∷ nodes) depth n is rises older =
    let front = before ++ e ∷ [] in
    let joined : front ++ nodes ≡ all' = append_assoc before (e ∷ []) nodes ∙ is in
    let rest = lines_among-by names peaks state all' front nodes depth n joined rises older in
    let rises' : Rises (before ++ e ∷ nodes) = subst Rises (sym is) rises in
    let older' : IsOlderTree (before ++ e ∷ nodes) = subst IsOlderTree (sym is) older in
    let none = no_child_up_to before nodes e rises' older' in
    let older_front : All HasOlderParent front = All-front HasOlderParent front nodes (subst IsOlderTree (sym joined) older) in
    let deeper : lines_among names peaks state nodes (depth + 1) e.number.0 ≡ lines_among names peaks state all' (depth + 1) e.number.0 =
    sym (lines_among-append names peaks state front nodes (depth + 1) e.number.0 (λ k d within. child_same peaks state e.number.0 (get_or front k d) (older_front k d within) ∙ none k d within))
    ∙ ap (λ xs. lines_among names peaks state xs (depth + 1) e.number.0) joined in
    let older_e : HasOlderParent e = All-contains HasOlderParent (before ++ e ∷ nodes) e older' (Contains-append_right before (e ∷ nodes) e (0, omega arith, refl)) in
    let same = child_same peaks state n e older_e in
    elim (cases_Bool (is_open_child n e)) [
      | inl child ↦ rw (same ∙ child, child) (ap (λ xs. (line_text names depth (placed_node peaks state e) ++ xs) ++ lines_among names peaks state nodes depth n) deeper
          ∙ ap (λ ys. child_text names peaks state all' depth e ++ ys) rest)
      | inr other ↦ rw (same ∙ other, other) rest
    ]

-- the text below an allocator goes child by child
pub text_below-children : (names : List (List (List ℕ × AllocId))) (peaks : ℕ → ℕ) (state : TreeState) (depth n : ℕ) → IsAllocatorTree state.nodes → text_below names peaks state depth n ≡ children_text names peaks state depth n
text_below-children names peaks state depth n tree = lines_among-by names peaks state state.nodes [] state.nodes depth n refl tree.ordered (older_from_tree state.nodes tree)
