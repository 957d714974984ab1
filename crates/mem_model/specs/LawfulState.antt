-- What holds of every tree that calls can make.
use Rattle.std.specs.Prelude.{◌≡◌, ℕ, ◌<◌, ◌≤◌, All, None}
use Rattle.mem_num.specs.declared.bounds.TheConstants.{MAX_LIMIT, MAX_RESERVATION, MOST_ALLOCATORS}
use Rattle.mem_model.specs.declared.tree_node.TreeNode.{TreeNode}
use Rattle.mem_model.specs.Chunk.{AreInNumberOrder}
use Rattle.mem_model.specs.LawfulChunk.{IsLawfulChunk}
use Rattle.mem_model.specs.TreeNode.{IsAllocatorTree}
use Rattle.mem_model.specs.TreeState.{TreeState, is_open}

-- a node within the bounds of a tree: its number was given, and its reservation is within its limit; the root reserves nothing
pub record IsWithinBounds (next : ℕ) (node : TreeNode) : Type 0 where
  pub given : node.number.0 < next
  pub few : node.number.0 < MOST_ALLOCATORS
  pub reserves : node.reservation ≤ node.limit
  pub small : node.reservation ≤ MAX_RESERVATION
  pub limited : node.limit ≤ MAX_LIMIT
  pub root : node.parent ≡ None → node.reservation ≡ 0

-- the nodes are a tree, each chunk is lawful and its number was given, and chunks stand in order of number, so that no two have the same
pub record IsLawfulState (state : TreeState) : Type 0 where
  pub tree : IsAllocatorTree state.nodes
  pub nodes : All (IsWithinBounds state.next) state.nodes
  pub in_order : AreInNumberOrder state.chunks
  pub chunks : All (IsLawfulChunk (is_open state)) state.chunks
  pub given : All (λ chunk. chunk.number ≤ state.drawn) state.chunks
