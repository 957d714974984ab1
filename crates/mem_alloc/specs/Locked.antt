-- What the tree under the lock answers, and when a caller asks again.
use Rattle.std.specs.Prelude.{◌≡◌, ℕ, ◌+◌, ◌≤◌, true, Option}
use Rattle.std.specs.Option.{option_map_or}
use Rattle.mem_num.specs.declared.alloc_id.AllocId.{AllocId}
use Rattle.mem_num.specs.declared.node.Node.{Node}
use Rattle.mem_num.specs.declared.placed.Placed.{Placed}
use Rattle.mem_model.specs.MeasuredTree.{MeasuredTree, peak_at, placed_at}
use Rattle.mem_model.specs.TreeState.{is_open}
use Rattle.alloc_tree.specs.Counting.{HasCallsLeft}
use Rattle.mem_alloc.specs.RunningToken.{RunningToken, pins_of}

-- what a token pins is open in the tree
abbrev pub IsOpenIfPinned : RunningToken → MeasuredTree → AllocId → Type 0
IsOpenIfPinned token tree at = 1 ≤ pins_of token at.0 → is_open tree.state at.0 ≡ true

-- the tree can answer a counted call now: what the token pins is open, and a call more can be counted
pub record IsReady (token : RunningToken) (tree : MeasuredTree) (at : AllocId) : Type 0 where
  pub pinned : IsOpenIfPinned token tree at
  pub left : HasCallsLeft tree

-- an allocator with its numbers, if it was made
abbrev pub found_at : MeasuredTree → AllocId → Option Placed
found_at tree at = placed_at (peak_at tree) tree.state at.0

-- the uses that the tree knows of an allocator
abbrev pub known_uses : MeasuredTree → AllocId → ℕ
known_uses tree at = option_map_or (λ placed. placed.node.uses) (found_at tree at) 0

-- the numbers of an allocator whose pins are uses too
abbrev pub pinned_node : ℕ → Node → Node
pinned_node pins node = record node { uses = node.uses + pins }

-- the numbers of an allocator that isn't made: a closed one of zeros
abbrev pub unmade_node : Node
unmade_node = record { reservation = 0; held = 0; peak = 0; limit = 0; uses = 0; closed = true }

-- what is seen of an allocator with so many pins
abbrev pub seen_node : ℕ → Option Placed → Node
seen_node pins found = option_map_or (λ placed. pinned_node pins placed.node) found unmade_node
