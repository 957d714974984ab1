-- The tree of one thread, without held numbers: its allocators, its live chunks, and the numbers to give next.
use Rattle.std.specs.Prelude.{ℕ, ◌+◌, ◌==◌, Bool, false, not, ◌&&◌, List, [], ◌∷◌, None, count_by}
use Rattle.std.specs.List.{list_any}
use Rattle.mem_num.specs.declared.alloc_id.AllocId.{AllocId}
use Rattle.mem_num.specs.declared.closed.Closed.{Closed}
use Rattle.mem_num.specs.declared.rounding.Rounding.{Rounding}
use Rattle.mem_num.specs.declared.rounding.Rounding.TheVariants.{Power}
use Rattle.mem_model.specs.declared.tree_node.TreeNode.{TreeNode}
use Rattle.mem_model.specs.declared.charge.Charge.{Charge}
use Rattle.mem_model.specs.Chunk.{Chunk, charges_of, has_ledger}
use Rattle.mem_model.specs.Held.{held_of}
use Rattle.mem_model.specs.TreeNode.{is_open_child}
use Rattle.mem_model.specs.PeakSample.{PeakSample}

pub record TreeState : Type 0 where
  pub nodes : List TreeNode
  pub chunks : List Chunk
  -- the number of the next allocator
  pub next : ℕ
  -- how many chunk numbers were given; the next one is one more
  pub drawn : ℕ

-- how the allocator n rounds what it is asked for: each allocator to powers of two
abbrev pub rounding_at : TreeState → ℕ → Rounding
rounding_at state n = Power

-- what a call answers, the tree that it leaves, and the moments at which it measured peaks
pub record CallResult (A : Type 0) : Type 0 where
  pub answer : A
  pub state : TreeState
  pub samples : List PeakSample

-- a call that changes nothing and measures nothing
abbrev pub unchanged : {A : Type 0} → TreeState → A → CallResult A
unchanged state answer = record { answer = answer; state = state; samples = [] }

abbrev pub root_node : ℕ → TreeNode
root_node limit = record { number = record { 0 = 0 }; parent = None; reservation = 0; limit = limit; closed = false }

-- a tree with its root alone
abbrev pub opened : ℕ → TreeState
opened limit = record { nodes = root_node limit ∷ []; chunks = []; next = 1; drawn = 0 }

-- what the chunks of a tree charge
abbrev pub charges_in : TreeState → List Charge
charges_in state = charges_of state.chunks

-- whether the allocator n was made and isn't closed
abbrev pub is_open : TreeState → ℕ → Bool
is_open state n = list_any (λ node. (node.number.0 == n) && not node.closed) state.nodes

-- what the allocator n holds
abbrev pub held_at : TreeState → ℕ → ℕ
held_at state n = held_of state.nodes (charges_in state) n

-- how many chunks the allocator n has a ledger on
abbrev pub ledgers_of : TreeState → ℕ → ℕ
ledgers_of state n = count_by (has_ledger n) state.chunks

-- how many open children the allocator n has
abbrev pub children_of : TreeState → ℕ → ℕ
children_of state n = count_by (is_open_child n) state.nodes

-- the uses of the allocator n: its ledgers and its open children
abbrev pub uses_of : TreeState → ℕ → ℕ
uses_of state n = ledgers_of state n + children_of state n

-- the refusal of an allocator that isn't open, which has no use left
abbrev pub closed_at : AllocId → Closed
closed_at at = record { node = at; uses = 0 }
