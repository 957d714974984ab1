-- A tree with the peaks that were measured on it.
use Rattle.std.specs.Prelude.{◌≡◌, ℕ, max, ◌==◌, List, map, filter, fold, slice_index_or, Option}
use Rattle.std.specs.List.{find}
use Rattle.std.specs.Option.{option_map, unwrap_or}
use Rattle.mem_num.specs.declared.node.Node.{Node}
use Rattle.mem_num.specs.declared.placed.Placed.{Placed}
use Rattle.mem_model.specs.declared.tree_node.TreeNode.{TreeNode}
use Rattle.mem_model.specs.PeakSample.{PeakSample, held_in, is_counted}
use Rattle.mem_model.specs.TreeState.{TreeState, CallResult, opened, held_at, uses_of}

-- a tree, the peak of each allocator at the place of its number, and how many calls have drawn a number or added a reference
pub record MeasuredTree : Type 0 where
  pub state : TreeState
  pub peaks : List ℕ
  pub calls : ℕ

-- the peak of the allocator n, 0 where none was measured
abbrev pub peak_at : MeasuredTree → ℕ → ℕ
peak_at tree n = slice_index_or tree.peaks n 0

-- peaks as samples raise them
abbrev pub raised_peaks : (ℕ → ℕ) → List PeakSample → ℕ → ℕ
raised_peaks peaks samples n = fold max (peaks n) (map (held_in n) (filter (is_counted n) samples))

-- a tree with its root alone, on which nothing was measured and no call was counted
pub record IsOpened (limit : ℕ) (tree : MeasuredTree) : Type 0 where
  pub state : tree.state ≡ opened limit
  pub peaks : (n : ℕ) → peak_at tree n ≡ 0
  pub calls : tree.calls ≡ 0

-- the tree that a call leaves, with the peaks that its samples raise
pub record IsAfterCall {A : Type 0} (old : MeasuredTree) (call : CallResult A) (new : MeasuredTree) : Type 0 where
  pub state : new.state ≡ call.state
  pub peaks : (n : ℕ) → peak_at new n ≡ raised_peaks (peak_at old) call.samples n

-- the numbers of a node, by the peak of each allocator
abbrev pub numbers_of : (ℕ → ℕ) → TreeState → TreeNode → Node
numbers_of peaks state node = record {
  reservation = node.reservation;
  held = held_at state node.number.0;
  peak = peaks node.number.0;
  limit = node.limit;
  uses = uses_of state node.number.0;
  closed = node.closed;
}

-- a node with its numbers; the root's parent is the root
abbrev pub placed_node : (ℕ → ℕ) → TreeState → TreeNode → Placed
placed_node peaks state node = record { at = node.number; parent = unwrap_or node.parent node.number; node = numbers_of peaks state node }

-- the allocator n, if it was made
abbrev pub placed_at : (ℕ → ℕ) → TreeState → ℕ → Option Placed
placed_at peaks state n = option_map (placed_node peaks state) (find (λ node. node.number.0 == n) state.nodes)
