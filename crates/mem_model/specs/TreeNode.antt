-- The allocators of a tree, as a list in order of number.
use Rattle.std.specs.Prelude.{◌≡◌, ℕ, ◌<◌, ◌↔◌, Bool, false, not, ◌&&◌, ◌==◌, List, All, AllPairs, Any, Option, Some, None}
use Rattle.std.specs.Option.{ForSome}
use Rattle.mem_num.specs.declared.alloc_id.AllocId.{AllocId}
use Rattle.mem_model.specs.declared.tree_node.TreeNode.{TreeNode}

-- whether this is the number n
abbrev pub is_number : ℕ → Option AllocId → Bool
is_number n None = false
is_number n (Some id) = id.0 == n

-- whether a node is an open child of the allocator n
abbrev pub is_open_child : ℕ → TreeNode → Bool
is_open_child n node = is_number n node.parent && not node.closed

-- one node is the parent of another: it is older, and it is open where the other is
pub record IsParentOf (child parent : TreeNode) : Type 0 where
  pub number : child.parent ≡ Some parent.number
  pub older : parent.number.0 < child.number.0
  pub open_ : child.closed ≡ false → parent.closed ≡ false

-- a node has no parent exactly where it is the root, number 0
abbrev pub HasParentUnlessRoot : TreeNode → Type 0
HasParentUnlessRoot node = (node.parent ≡ None) ↔ (node.number.0 ≡ 0)

-- numbers rise along the list, so they differ; number 0 is the root, which alone has no parent; every other node's parent is in the list
pub record IsAllocatorTree (nodes : List TreeNode) : Type 0 where
  pub ordered : AllPairs (λ older newer. older.number.0 < newer.number.0) nodes
  pub root : All HasParentUnlessRoot nodes
  pub parents : All (λ node. ForSome node.parent (λ _. Any (IsParentOf node) nodes)) nodes
