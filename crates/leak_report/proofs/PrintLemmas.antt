-- The text of a tree is that of the lines of its open allocators.
use Rattle.std.proofs.Common.{◌≡◌, ℕ, zero, suc, ◌+◌, ◌<◌, List, [], ◌∷◌, ◌++◌, map, get_or, true, false, not, All, Option, Some, None, is_none, refl, sym, ap, ◌∙◌, arith, inl, inr, length, ◌⊎◌}
use Rattle.std.specs.List.{flat_map}
use Rattle.std.proofs.lemmas.Bool.{cases_Bool, eq-eqb, and_left, and_right, and_from, not_from_true, not_from_false}
use Rattle.std.proofs.lemmas.List.{append-nil}
use Rattle.std.proofs.lemmas.List.Concat.{flat_map-append}
use Rattle.std.proofs.lemmas.List.Elements.{All-head, All-tail, All-map, All-filter}
use Rattle.mem_num.specs.declared.alloc_id.AllocId.{AllocId}
use Rattle.mem_model.specs.declared.tree_node.TreeNode.{TreeNode}
use Rattle.mem_model.specs.MeasuredTree.{placed_node}
use Rattle.mem_model.specs.TreeNode.{IsAllocatorTree, is_open_child, is_number}
use Rattle.mem_model.specs.TreeState.{TreeState}
use Rattle.mem_model.proofs.HeldLemmas.{IsOlderTree, older_from_tree}
use Rattle.leak_report.specs.TreeText.{tree_text, placed_text, lines_under}
use Rattle.leak_report.specs.Report.{PrintedAllocator, tree_lines_of, tree_line_of, tree_line_text, has_parent, printed_allocator, open_nodes}
use Rattle.leak_report.proofs.TextLemmas.{HasOlderParent, child_same}

-- what some nodes of a tree are printed as: the open ones, with names and numbers
abbrev pub printed_nodes : List (List (List ℕ × AllocId)) → (ℕ → ℕ) → TreeState → List TreeNode → List PrintedAllocator
printed_nodes names peaks state nodes = map (printed_allocator names peaks state) (open_nodes nodes)

-- the lines of those with this parent, as text
abbrev flat_lines : List PrintedAllocator → ℕ → Option AllocId → List ℕ
flat_lines printed depth parent = flat_map tree_line_text (tree_lines_of printed depth parent)

-- the lines of a child, of those below it, and of the others, as text
flat_lines-child : (a : PrintedAllocator) (later : List PrintedAllocator) (depth : ℕ) (parent : Option AllocId) → has_parent parent a ≡ true
    → flat_lines (a ∷ later) depth parent ≡ (tree_line_text (tree_line_of depth a) ++ flat_lines later (depth + 1) (Some a.number)) ++ flat_lines later depth parent
flat_lines-child a later depth parent child =
    rw child (flat_map-append tree_line_text (tree_line_of depth a ∷ tree_lines_of later (depth + 1) (Some a.number)) (tree_lines_of later depth parent))

-- the lines under an allocator are those of its open children
lines_under-printed : (names : List (List (List ℕ × AllocId))) (peaks : ℕ → ℕ) (state : TreeState) (nodes : List TreeNode) (depth : ℕ) (at : AllocId) → IsOlderTree nodes
    → lines_under names (map (placed_node peaks state) nodes) depth at.0 ≡ flat_lines (printed_nodes names peaks state nodes) depth (Some at)
lines_under-printed names peaks state [] depth at older = refl
lines_under-printed names peaks state (e ∷ nodes) depth at older =
    let older_e : HasOlderParent e = All-head HasOlderParent e nodes older in
    let behind = All-tail HasOlderParent e nodes older in
    let rest = lines_under-printed names peaks state nodes depth at behind in
    let below = lines_under-printed names peaks state nodes (depth + 1) e.number behind in
    let same = child_same peaks state at.0 e older_e in
    let p = printed_allocator names peaks state e in
    let later = printed_nodes names peaks state nodes in
    elim (cases_Bool e.closed) [
      | inl closed ↦ rw (same ∙ and_right (is_number at.0 e.parent) (not e.closed) (not_from_true e.closed closed), closed) rest
      | inr open_ ↦ elim (cases_Bool (is_number at.0 e.parent)) [
        | inl child ↦ (
            let is : is_open_child at.0 e ≡ true = and_from (is_number at.0 e.parent) (not e.closed) child (not_from_false e.closed open_) in
            rw (same ∙ is, open_) (ap (λ xs. (tree_line_text (tree_line_of depth p) ++ xs) ++ lines_under names (map (placed_node peaks state) nodes) depth at.0) below
            ∙ ap (λ ys. (tree_line_text (tree_line_of depth p) ++ flat_lines later (depth + 1) (Some e.number)) ++ ys) rest
            ∙ sym (flat_lines-child p later depth (Some at) child)))
        | inr other ↦ rw (same ∙ and_left (is_number at.0 e.parent) (not e.closed) other, open_, other) rest
      ]
    ]

-- it has a parent or none
cases_parent : (parent : Option AllocId) → (parent ≡ None) ⊎ ((p : AllocId) × (parent ≡ Some p))
cases_parent None = inl refl
cases_parent (Some p) = inr (p, refl)

-- no node of a tree has a smaller number than the first
not_behind : (e : TreeNode) (rest : List TreeNode) → IsAllocatorTree (e ∷ rest) → (k : ℕ) (x : TreeNode) → k < length (e ∷ rest) → get_or (e ∷ rest) k x ≡ x → x.number.0 < e.number.0 → ⊥
not_behind e rest tree zero x within is less = (let same : e.number.0 ≡ x.number.0 = ap (λ (y : TreeNode). y.number.0) is in omega arith)
not_behind e rest tree (suc k) x within is less =
    let behind : e.number.0 < (get_or (e ∷ rest) (suc k) x).number.0 = tree.ordered 0 (suc k) x (omega arith) within in
    let same : (get_or (e ∷ rest) (suc k) x).number.0 ≡ x.number.0 = ap (λ (y : TreeNode). y.number.0) is in
    omega arith

-- the first of a tree is the root
pub first_is_root : (e : TreeNode) (rest : List TreeNode) → IsAllocatorTree (e ∷ rest) → e.number.0 ≡ 0
first_is_root e rest tree = elim (cases_parent e.parent) [
  | inl none ↦ (tree.root 0 e (omega arith)).0 none
  | inr found ↦ (
      let parent = tree.parents 0 e (omega arith) found.0 found.1 in
      absurd (not_behind e rest tree parent.0 parent.1 parent.2 parent.3 parent.4.older))
]

-- where all have a parent, none is the root
no_root_lines : (xs : List PrintedAllocator) (depth : ℕ) → All (λ x. is_none x.parent ≡ false) xs → tree_lines_of xs depth None ≡ []
no_root_lines [] depth some = refl
no_root_lines (x ∷ xs) depth some =
    rw (All-head (λ y. is_none y.parent ≡ false) x xs some) (no_root_lines xs depth (All-tail (λ y. is_none y.parent ≡ false) x xs some))

-- a parent that isn't missing
some_parent : (parent : Option AllocId) → (parent ≡ None → ⊥) → is_none parent ≡ false
some_parent None some = absurd (some refl)
some_parent (Some p) some = refl

-- behind the first of a tree all have a parent
behind_root : (e : TreeNode) (rest : List TreeNode) → IsAllocatorTree (e ∷ rest) → All (λ x. is_none x.parent ≡ false) rest
behind_root e rest tree k d within =
    let behind : e.number.0 < (get_or rest k d).number.0 = tree.ordered 0 (suc k) d (omega arith) (omega arith) in
    some_parent (get_or rest k d).parent (λ none. let zero_ : (get_or rest k d).number.0 ≡ 0 = (tree.root (suc k) d (omega arith)).0 none in omega arith)

-- the text of the root and of the lines below it is that of the lines from the root on
rooted_text : (names : List (List (List ℕ × AllocId))) (peaks : ℕ → ℕ) (state : TreeState) (nodes : List TreeNode) → IsAllocatorTree nodes
    → placed_text names (map (placed_node peaks state) nodes) ≡ flat_lines (printed_nodes names peaks state nodes) 0 None
rooted_text names peaks state [] tree = refl
rooted_text names peaks state (e ∷ rest) tree =
    let is_root : e.number.0 ≡ 0 = first_is_root e rest tree in
    let none : e.parent ≡ None = (tree.root 0 e (omega arith)).1 is_root in
    let older = older_from_tree (e ∷ rest) tree in
    let p = printed_allocator names peaks state e in
    let later = printed_nodes names peaks state rest in
    let no_child : is_open_child e.number.0 e ≡ false = rw none refl in
    let others : All (λ x. is_none x.parent ≡ false) later = All-map (λ x. is_none x.parent ≡ false) (printed_allocator names peaks state) (open_nodes rest)
    (All-filter (λ node. not node.closed) (λ x. is_none x.parent ≡ false) rest (behind_root e rest tree)) in
    let others_text : flat_lines later 0 None ≡ [] = ap (flat_map tree_line_text) (no_root_lines later 0 others) in
    let below = lines_under-printed names peaks state rest 1 e.number (All-tail HasOlderParent e rest older) in
    let same = child_same peaks state e.number.0 e (All-head HasOlderParent e rest older) in
    elim (cases_Bool e.closed) [
      | inl closed ↦ rw (eq-eqb e.number.0 0 is_root, closed) (sym others_text)
      | inr open_ ↦ rw (eq-eqb e.number.0 0 is_root, same ∙ no_child, open_) (
          ap (λ xs. tree_line_text (tree_line_of 0 p) ++ xs) below
          ∙ sym (append-nil (tree_line_text (tree_line_of 0 p) ++ flat_lines later 1 (Some e.number)))
          ∙ ap (λ xs. (tree_line_text (tree_line_of 0 p) ++ flat_lines later 1 (Some e.number)) ++ xs) (sym others_text)
          ∙ sym (flat_lines-child p later 0 None (ap is_none none)))
    ]

-- the text of a tree is that of the lines from the root on
pub tree_text-printed : (names : List (List (List ℕ × AllocId))) (peaks : ℕ → ℕ) (state : TreeState) → IsAllocatorTree state.nodes
    → tree_text names peaks state ≡ flat_lines (printed_nodes names peaks state state.nodes) 0 None
tree_text-printed names peaks state tree = rooted_text names peaks state state.nodes tree
