-- A tree of allocators with a child more is a tree.
use Rattle.std.proofs.Common.{◌≡◌, ◌<◌, List, [], ◌∷◌, ◌++◌, get_or, true, sym, ap, subst, ◌∙◌, arith, Some, All, Any}
use Rattle.std.specs.List.{list_any}
use Rattle.std.specs.Option.{ForSome}
use Rattle.std.proofs.lemmas.List.Elements.{All-push, All-weaker}
use Rattle.std.proofs.lemmas.List.Folds.{Any-from_list_any}
use Rattle.std.proofs.lemmas.List.Quantifiers.{all_pairs_push}
use Rattle.mem_num.specs.declared.alloc_id.AllocId.{AllocId}
use Rattle.mem_model.specs.declared.tree_node.TreeNode.{TreeNode}
use Rattle.mem_model.specs.TreeNode.{IsParentOf, HasParentUnlessRoot, IsAllocatorTree}
use Rattle.mem_model.proofs.OpenLemmas.{is_open_at, open_parts, same_id, Any-more}

-- an open allocator is the parent of a younger node that names it
open-parent : (nodes : List TreeNode) (child : TreeNode) (p : AllocId) → child.parent ≡ Some p → list_any (is_open_at p.0) nodes ≡ true
    → All (λ node. node.number.0 < child.number.0) nodes → Any (IsParentOf child) nodes
open-parent nodes child p is open_ older =
    let found : Any (λ node. is_open_at p.0 node ≡ true) nodes = Any-from_list_any (is_open_at p.0) nodes open_ in
    let parts = open_parts p.0 found.1 found.4 in
    let less : (get_or nodes found.0 found.1).number.0 < child.number.0 = older found.0 found.1 found.2 in
    let number : p ≡ found.1.number = same_id p found.1.number (sym parts.0) in (
      found.0,
      found.1,
      found.2,
      found.3,
      record {
        number = is ∙ ap Some number;
        older = subst (λ (x : TreeNode). x.number.0 < child.number.0) found.3 less;
        open_ = λ _. parts.1;
      },
    )

-- a tree grows by a child of an open parent
pub grown-tree : (nodes : List TreeNode) (child : TreeNode) (p : AllocId) → IsAllocatorTree nodes → child.parent ≡ Some p
    → list_any (is_open_at p.0) nodes ≡ true → All (λ node. node.number.0 < child.number.0) nodes → IsAllocatorTree (nodes ++ child ∷ [])
grown-tree nodes child p tree is open_ older =
    let HasParentIn : List TreeNode → TreeNode → Type 0 = λ all node. ForSome node.parent (λ _. Any (IsParentOf node) all) in
    let parent : Any (IsParentOf child) nodes = open-parent nodes child p is open_ older in
    let less : parent.1.number.0 < child.number.0 = parent.4.older in
    record {
      ordered = all_pairs_push (λ (a b : TreeNode). a.number.0 < b.number.0) nodes child tree.ordered older;
      root = All-push HasParentUnlessRoot nodes child tree.root (λ none. absurd cc, λ zero. absurd (omega arith));
      parents = All-push (HasParentIn (nodes ++ child ∷ [])) nodes child
          (All-weaker (HasParentIn nodes) (HasParentIn (nodes ++ child ∷ []))
          (λ node has q at. Any-more (IsParentOf node) nodes (child ∷ []) (has q at)) nodes tree.parents)
          (λ q at. Any-more (IsParentOf child) nodes (child ∷ []) parent);
    }
