-- How much more an allocator could hold.
use Rattle.std.specs.Prelude.{ℕ, ◌-◌, ℤ, pos, ◌+ℤ◌, ◌-ℤ◌, Bool, List, [], ◌∷◌, reverse, if◌then◌else◌, Option, Some, Result, Ok, Err}
use Rattle.std.specs.List.{list_any}
use Rattle.std.specs.Int.{int_min}
use Rattle.mem_num.specs.declared.alloc_id.AllocId.{AllocId}
use Rattle.mem_num.specs.declared.closed.Closed.{Closed}
use Rattle.mem_model.specs.declared.tree_node.TreeNode.{TreeNode}
use Rattle.mem_model.specs.TreeNode.{is_number}
use Rattle.mem_model.specs.Request.{is_past_limit}
use Rattle.mem_model.specs.TreeState.{TreeState, charges_in, is_open, held_at, closed_at}

-- an allocator and those above it, up to the root, where newer nodes stand first
abbrev pub path_from : List TreeNode → Option AllocId → List TreeNode
path_from [] at = []
path_from (node ∷ older) at = if is_number node.number.0 at then node ∷ path_from older node.parent else path_from older at

-- the allocator n and those above it, up to the root
abbrev pub path_of : List TreeNode → ℕ → List TreeNode
path_of nodes n = path_from (reverse nodes) (Some (record { 0 = n }))

-- what a node's limit leaves free, less than nothing where it holds more
abbrev pub free_at : (ℕ → ℕ) → TreeNode → ℤ
free_at held node = pos node.limit -ℤ pos (held node.number.0)

-- what of its reservation a node doesn't use
abbrev pub unused_at : (ℕ → ℕ) → TreeNode → ℕ
unused_at held node = node.reservation - held node.number.0

-- the least that a limit on the way up leaves, where a level above counts only what passes the reservations below it
abbrev pub headroom_on : (ℕ → ℕ) → List TreeNode → ℤ
headroom_on held [] = pos 0
headroom_on held (node ∷ []) = free_at held node
headroom_on held (node ∷ parent ∷ above) = int_min (free_at held node) (headroom_on held (parent ∷ above) +ℤ pos (unused_at held node))

abbrev pub headroom_of : TreeState → ℕ → ℤ
headroom_of state n = headroom_on (held_at state) (path_of state.nodes n)

-- the headroom of an open allocator
unfoldable pub headroom_answer : TreeState → AllocId → Result ℤ Closed
headroom_answer state at = if is_open state at.0 then Ok (headroom_of state at.0) else Err (closed_at at)

-- whether the allocator n or one above it holds more than its limit
abbrev pub is_over_limit : TreeState → ℕ → Bool
is_over_limit state n = list_any (is_past_limit state.nodes (charges_in state)) (path_of state.nodes n)

unfoldable pub over_limit_answer : TreeState → AllocId → Result Bool Closed
over_limit_answer state at = if is_open state at.0 then Ok (is_over_limit state at.0) else Err (closed_at at)
