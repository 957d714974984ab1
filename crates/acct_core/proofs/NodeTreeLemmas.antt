-- The rows that were made, as the list of a tree's allocators.
use Rattle.std.proofs.Common.{◌≡◌, ℕ, zero, suc, ◌+◌, ◌<◌, true, not, List, [], ◌∷◌, Option, Some, None, All, AllPairs, refl, sym, ap, subst, ◌∙◌, arith}
use Rattle.std.specs.List.{Any, Contains, slice_get}
use Rattle.std.specs.Option.{option_map, ForSome}
use Rattle.std.proofs.lemmas.Bool.{true≢false, cond_both, cond-true, not-false}
use Rattle.std.proofs.lemmas.List.Elements.{All-nil, All-cons, All-weaker}
use Rattle.std.proofs.lemmas.List.Kept.{AllPairs-cons}
use Rattle.mem_num.specs.declared.alloc_id.AllocId.{AllocId}
use Rattle.mem_model.specs.declared.tree_node.TreeNode.{TreeNode}
use Rattle.mem_model.specs.TreeNode.{IsParentOf, HasParentUnlessRoot, IsAllocatorTree}
use Rattle.acct_core.specs.declared.row.Row.{Row}
use Rattle.acct_core.specs.Claims.{Account}
use Rattle.acct_core.specs.AtRest.{tree_node, tree_nodes}
use Rattle.acct_core.specs.Lawful.{IsLawfulAccount}
use Rattle.acct_core.specs.NodeTree.{IsOpen, IsNodeTree}
use Rattle.acct_core.specs.Rows.{row, shapes}

-- a node is that of a row that was made, where the first row is that of the number k
record IsNodeOf (k : ℕ) (rows : List Row) (node : TreeNode) : Type 0 where
  place : ℕ
  made : (row rows place).shape.made ≡ true
  is : node ≡ tree_node (k + place) (row rows place)

-- also with one row more before the others
node_behind : (k : ℕ) (r : Row) (rows : List Row) (node : TreeNode) → IsNodeOf (suc k) rows node → IsNodeOf k (r ∷ rows) node
node_behind k r rows node h =
    let i = h.place in
    let number : suc k + i ≡ k + suc i = omega arith in
    record { place = suc i; made = h.made; is = h.is ∙ ap (λ (n : ℕ). tree_node n (row rows i)) number }

-- each node of the list is that of a row that was made
nodes_made : (k : ℕ) (rows : List Row) → All (IsNodeOf k rows) (tree_nodes k rows)
nodes_made k [] = All-nil (IsNodeOf k [])
nodes_made k (r ∷ rows) =
    let rest : All (IsNodeOf k (r ∷ rows)) (tree_nodes (suc k) rows) =
    All-weaker (IsNodeOf (suc k) rows) (IsNodeOf k (r ∷ rows)) (node_behind k r rows) (tree_nodes (suc k) rows)
    (nodes_made (suc k) rows) in
    let first : k ≡ k + 0 = omega arith in
    cond_both r.shape.made (tree_node k r ∷ tree_nodes (suc k) rows) (tree_nodes (suc k) rows) (All (IsNodeOf k (r ∷ rows)))
    (λ made. All-cons (IsNodeOf k (r ∷ rows)) (tree_node k r) (tree_nodes (suc k) rows)
    (record { place = 0; made = made; is = ap (λ (n : ℕ). tree_node n r) first }) rest) (λ _. rest)

-- one number is below another
abbrev Before : TreeNode → TreeNode → Type 0
Before older newer = older.number.0 < newer.number.0

-- numbers rise along the list
nodes_rise : (k : ℕ) (rows : List Row) → AllPairs Before (tree_nodes k rows)
nodes_rise k [] = λ i j d lt within. absurd (omega arith)
nodes_rise k (r ∷ rows) =
    let rest = nodes_rise (suc k) rows in
    let later : All (Before (tree_node k r)) (tree_nodes (suc k) rows) = All-weaker (IsNodeOf (suc k) rows) (Before (tree_node k r))
    (λ (node : TreeNode) h. (let number : node.number.0 ≡ suc k + h.place = ap (λ (x : TreeNode). x.number.0) h.is in omega
    (arith, number))) (tree_nodes (suc k) rows) (nodes_made (suc k) rows) in
    cond_both r.shape.made (tree_node k r ∷ tree_nodes (suc k) rows) (tree_nodes (suc k) rows) (AllPairs Before)
    (λ _. AllPairs-cons Before (tree_node k r) (tree_nodes (suc k) rows) later rest) (λ _. rest)

-- the node of each row that was made is in the list
node_there : (k : ℕ) (rows : List Row) (i : ℕ) → (row rows i).shape.made ≡ true →
    Contains (tree_nodes k rows) (tree_node (k + i) (row rows i))
node_there k [] i made = absurd (true≢false (sym made))
node_there k (r ∷ rows) zero made =
    let first : k + 0 ≡ k = omega arith in
    subst (λ (n : ℕ). Contains (tree_nodes k (r ∷ rows)) (tree_node n r)) (sym first)
    (subst (λ nodes. Contains nodes (tree_node k r))
    (sym (cond-true r.shape.made (tree_node k r ∷ tree_nodes (suc k) rows) (tree_nodes (suc k) rows) made)) (0, omega arith, refl))
node_there k (r ∷ rows) (suc j) made =
    let node = tree_node (suc k + j) (row rows j) in
    let number : suc k + j ≡ k + suc j = omega arith in
    let rest : Contains (tree_nodes (suc k) rows) node = node_there (suc k) rows j made in
    subst (λ (n : ℕ). Contains (tree_nodes k (r ∷ rows)) (tree_node n (row rows j))) number
    (cond_both r.shape.made (tree_node k r ∷ tree_nodes (suc k) rows) (tree_nodes (suc k) rows) (λ nodes. Contains nodes node)
    (λ _. (suc rest.0, omega (arith, rest.1), rest.2)) (λ _. rest))

-- a parent of an allocator, as a number and as a name
name_of : (parent : Option ℕ) (q : AllocId) → option_map (λ p. record { 0 = p }) parent ≡ Some q → parent ≡ Some q.0
name_of None q is = absurd cc
name_of (Some p) q is =
    let id : Some p ≡ Some q.0 = ap (λ (o : Option AllocId). option_map (λ (a : AllocId). a.0) o) is in
    id

no_name : (parent : Option ℕ) (name : Option AllocId) → name ≡ option_map (λ p. record { 0 = p }) parent → name ≡ None → parent ≡ None
no_name None name is none = refl
no_name (Some p) name is none = absurd cc

module _ (rows : List Row) (tree : IsNodeTree (shapes rows)) where
  -- the root has no parent
  root_alone : (parent : Option ℕ) → (row rows 0).shape.parent ≡ parent → parent ≡ None
  root_alone None is = refl
  root_alone (Some p) is = absurd (omega (arith, tree.smaller 0 p is))

  -- a made row has no parent exactly where it is number 0
  node_root : (node : TreeNode) → IsNodeOf 0 rows node → HasParentUnlessRoot node
  node_root node h =
      let i = h.place in
      let number : node.number.0 ≡ i = ap (λ (x : TreeNode). x.number.0) h.is ∙ omega arith in
      let parent : node.parent ≡ option_map (λ p. record { 0 = p }) (row rows i).shape.parent = ap (λ (x : TreeNode). x.parent) h.is in (
        λ none. number ∙ tree.root i h.made (no_name (row rows i).shape.parent node.parent parent none),
        λ zero'. (
            let first : i ≡ 0 = sym number ∙ zero' in
            parent ∙ ap (option_map (λ p. record { 0 = p }))
            (ap (λ (n : ℕ). (row rows n).shape.parent) first ∙ root_alone (row rows 0).shape.parent refl)),
      )

  -- and the node of its parent, if it has one, is in the list
  node_parent : (node : TreeNode) → IsNodeOf 0 rows node → ForSome node.parent (λ _. Any (IsParentOf node) (tree_nodes 0 rows))
  node_parent node h q is =
      let i = h.place in
      let number : node.number.0 ≡ i = ap (λ (x : TreeNode). x.number.0) h.is ∙ omega arith in
      let parent : (row rows i).shape.parent ≡ Some q.0 =
      name_of (row rows i).shape.parent q (sym (ap (λ (x : TreeNode). x.parent) h.is) ∙ is) in
      let above = tree_node (0 + q.0) (row rows q.0) in
      let there : Contains (tree_nodes 0 rows) above = node_there 0 rows q.0 (tree.made_parent i q.0 parent) in
      let same : 0 + q.0 ≡ q.0 = omega arith in
      let smaller : q.0 < i = tree.smaller i q.0 parent in (
        there.0,
        above,
        there.1,
        there.2,
        record {
          number = is ∙ ap (λ (n : ℕ). Some (record { 0 = n })) (sym same);
          older = omega (arith, smaller, number);
          open_ = λ child.
              let opened : IsOpen (shapes rows) i =
              not-false (row rows i).shape.is_open (sym (ap (λ (x : TreeNode). x.closed) h.is) ∙ child) in
              ap not (tree.open_parent i q.0 opened parent);
        },
      )

  -- so the list is a tree
  pub nodes_tree : IsAllocatorTree (tree_nodes 0 rows)
  nodes_tree = record {
    ordered = nodes_rise 0 rows;
    root = All-weaker (IsNodeOf 0 rows) HasParentUnlessRoot node_root (tree_nodes 0 rows) (nodes_made 0 rows);
    parents = All-weaker (IsNodeOf 0 rows) (λ node. ForSome node.parent (λ _. Any (IsParentOf node) (tree_nodes 0 rows))) node_parent
        (tree_nodes 0 rows) (nodes_made 0 rows);
  }

  -- where a number was given, 0 was
  root_made : (fuel n : ℕ) → n < fuel → (row rows n).shape.made ≡ true → (row rows 0).shape.made ≡ true
  root_made zero n less made = absurd (omega (arith, less))
  root_made (suc fuel) n less made =
      let by_parent : (parent : Option ℕ) → (row rows n).shape.parent ≡ parent →
      (row rows 0).shape.made ≡ true =
      λ parent. elim parent as (λ parent. (row rows n).shape.parent ≡ parent → (row rows 0).shape.made ≡ true) [
        | None ↦ λ none. subst (λ (m : ℕ). (row rows m).shape.made ≡ true) (tree.root n made none) made
        | Some p ↦ λ is. root_made fuel p (omega (arith, less, tree.smaller n p is)) (tree.made_parent n p is)
      ] in
      by_parent (row rows n).shape.parent refl

-- the first node is that of the number 0, if that was given
first_node : (rows : List Row) → (row rows 0).shape.made ≡ true → slice_get (tree_nodes 0 rows) 0 ≡ Some (tree_node 0 (row rows 0))
first_node [] made = absurd (true≢false (sym made))
first_node (r ∷ rows) made = ap (λ nodes. slice_get nodes 0)
    (cond-true r.shape.made (tree_node 0 r ∷ tree_nodes 1 rows) (tree_nodes 1 rows) made)

-- the allocators of a lawful account are a tree
pub account_tree : (a : Account) → IsLawfulAccount a → IsAllocatorTree (tree_nodes 0 a.rows)
account_tree a h = nodes_tree a.rows h.tree

-- and the first of them is the root
pub account_root : (a : Account) → IsLawfulAccount a → (n : ℕ) → (shapes a.rows n).made ≡ true → slice_get (tree_nodes 0 a.rows) 0
    ≡ Some (tree_node 0 (row a.rows 0))
account_root a h n made = first_node a.rows (root_made a.rows h.tree (suc n) n (omega arith) made)
