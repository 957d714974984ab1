-- Closing an allocator.
use Rattle.std.specs.Prelude.{ℕ, ◌==◌, true, not, nat_lt, List, [], map, if◌then◌else◌, Result, Ok, Err}
use Rattle.mem_num.specs.declared.alloc_id.AllocId.{AllocId}
use Rattle.mem_num.specs.declared.not_closed.NotClosed.{NotClosed}
use Rattle.mem_num.specs.declared.not_closed.NotClosed.TheVariants.{InUse, Closed}
use Rattle.mem_model.specs.declared.tree_node.TreeNode.{TreeNode}
use Rattle.mem_model.specs.TreeState.{TreeState, CallResult, unchanged, is_open, uses_of}

-- a node, closed where it is the allocator n
abbrev pub closed_where : ℕ → TreeNode → TreeNode
closed_where n node = if node.number.0 == n then record node { closed = true } else node

-- the same allocators, but for the allocator n, which is closed
abbrev pub with_closed : ℕ → List TreeNode → List TreeNode
with_closed n nodes = map (closed_where n) nodes

-- an allocator that nothing uses is closed, and counts no more at its parent, nor does its reservation
unfoldable pub close_result : TreeState → AllocId → CallResult (Result (Unit {0}) NotClosed)
close_result state at =
    if not (is_open state at.0) then unchanged state (Err (Closed 0))
    else if nat_lt 0 (uses_of state at.0) then unchanged state (Err (InUse (uses_of state at.0)))
    else record { answer = Ok tt; state = record state { nodes = with_closed at.0 state.nodes }; samples = [] }
