-- The rows of a tree: the allocator of number n is the row at n, where one was made.
use Rattle.std.specs.Prelude.{◌≡◌, ℕ, suc, false, List, [], ◌∷◌, map, length, slice_index_or, if◌then◌else◌, Option}
use Rattle.std.specs.Prelude.{Some, None}
use Rattle.std.specs.Option.{option_map_or}
use Rattle.mem_model.specs.declared.charge.Charge.{Charge}
use Rattle.mem_model.specs.declared.tree_node.TreeNode.{TreeNode}
use Rattle.mem_model.specs.Balance.{Balances}
use Rattle.alloc_tree.specs.declared.row.Row.{Row}

-- the row of the number n, if its allocator was made
abbrev pub row_at : List (Option Row) → ℕ → Option Row
row_at rows n = slice_index_or rows n None

-- a number that is kept of each allocator; 0 where none was made
abbrev pub kept_of : (Row → ℕ) → List (Option Row) → ℕ → ℕ
kept_of field rows n = option_map_or field (row_at rows n) 0

abbrev pub held_by : List (Option Row) → ℕ → ℕ
held_by rows = kept_of (λ row. row.held) rows

abbrev pub peaks_in : List (Option Row) → ℕ → ℕ
peaks_in rows = kept_of (λ row. row.peak) rows

-- the peaks at the places of their numbers
abbrev pub peaks_of : List (Option Row) → List ℕ
peaks_of rows = map (λ row. option_map_or (λ r. r.peak) row 0) rows

abbrev pub uses_in : List (Option Row) → ℕ → ℕ
uses_in rows = kept_of (λ row. row.uses) rows

-- the allocator of the number n, whose row this is
abbrev pub row_node : ℕ → Row → TreeNode
row_node n row = record {
  number = record { 0 = n };
  parent = row.parent;
  reservation = row.reservation;
  limit = row.limit;
  closed = row.closed;
}

-- the allocators that were made, in order of number, where the first row is that of n
unfoldable pub nodes_from : ℕ → List (Option Row) → List TreeNode
nodes_from n [] = []
nodes_from n (None ∷ rows) = nodes_from (suc n) rows
nodes_from n (Some row ∷ rows) = row_node n row ∷ nodes_from (suc n) rows

abbrev pub nodes_in : List (Option Row) → List TreeNode
nodes_in rows = nodes_from 0 rows

-- the rows hold these charges: each number is what its allocator is charged and what its open children count for
abbrev pub HoldCharges : List (Option Row) → List Charge → Type 0
HoldCharges rows charges = Balances (nodes_in rows) charges (held_by rows)

-- a row, if it is there and isn't closed
abbrev pub if_open : Option Row → Option Row
if_open None = None
if_open (Some row) = if row.closed then None else Some row

-- the allocator n was made and isn't closed
abbrev pub IsOpenAt : List (Option Row) → ℕ → Type 0
IsOpenAt rows n = (row : Row) × (row_at rows n ≡ Some row) × (row.closed ≡ false)

-- nothing changed but how many uses each allocator has
pub record ChangesUses (old new : List (Option Row)) (counts : ℕ → ℕ) : Type 0 where
  pub nodes : nodes_in new ≡ nodes_in old
  pub held : held_by new ≡ held_by old
  pub peaks : peaks_in new ≡ peaks_in old
  pub uses : uses_in new ≡ counts
  pub length : length new ≡ length old
