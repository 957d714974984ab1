-- What the fields of `SoloTree` stand for.
use Rattle.std.specs.Prelude.{◌≡◌, ℕ, List, length, Option}
use Rattle.mem_num.specs.declared.bounds.TheConstants.{MOST_ALLOCATORS}
use Rattle.mem_model.specs.Balance.{Balances}
use Rattle.mem_model.specs.LawfulState.{IsLawfulState}
use Rattle.mem_model.specs.MeasuredTree.{MeasuredTree}
use Rattle.mem_model.specs.TreeState.{TreeState, charges_in, uses_of}
use Rattle.mem_model.specs.Chunk.{Chunk}
use Rattle.alloc_tree.specs.declared.row.Row.{Row}
use Rattle.alloc_tree.specs.declared.solo_tree.SoloTree.TheInside.{Inside}
use Rattle.alloc_tree.specs.Rows.{nodes_in, held_by, peaks_of, uses_in}
use Rattle.alloc_tree.specs.Counting.{CountsCalls}

-- the tree that rows and chunks are
abbrev pub state_with : List (Option Row) → List Chunk → ℕ → ℕ → TreeState
state_with rows chunks next drawn = record { nodes = nodes_in rows; chunks = chunks; next = next; drawn = drawn }

abbrev pub state_of : Inside → TreeState
state_of fields = state_with fields.rows fields.chunks fields.next fields.drawn

abbrev pub tree_of : Inside → MeasuredTree
tree_of fields = record { state = state_of fields; peaks = peaks_of fields.rows; calls = fields.calls }

-- the numbers that rows keep are those of the tree
pub record KeepsNumbers (rows : List (Option Row)) (state : TreeState) : Type 0 where
  pub held : Balances state.nodes (charges_in state) (held_by rows)
  pub uses : (n : ℕ) → uses_in rows n ≡ uses_of state n

-- a row for each number that an allocator may have, and lawful numbers
pub record IsSoundSolo (fields : Inside) : Type 0 where
  pub lawful : IsLawfulState (state_of fields)
  pub numbers : KeepsNumbers fields.rows (state_of fields)
  pub places : length fields.rows ≡ MOST_ALLOCATORS

-- such fields, whose count of calls covers the numbers that were drawn and the references that there are
pub record IsCountedSolo (fields : Inside) : Type 0 where
  pub sound : IsSoundSolo fields
  pub counts : CountsCalls (tree_of fields)
