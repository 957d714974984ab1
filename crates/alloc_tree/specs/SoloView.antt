-- What a tree of one thread shows as a caller's token.
use Rattle.std.specs.Prelude.{ℕ, ◌-◌, ◌^◌, ◌==◌, if◌then◌else◌, List, Option, Some}
use Rattle.std.specs.List.{find}
use Rattle.std.specs.Option.{option_map}
use Rattle.mem_model.specs.declared.tree_node.TreeNode.{TreeNode}
use Rattle.mem_model.specs.MeasuredTree.{MeasuredTree}
use Rattle.mem_model.specs.TreeState.{is_open, rounding_at}
use Rattle.mem_buf.specs.TokenView.{TokenView}
use Rattle.alloc_tree.specs.Counting.{most_calls}

-- the limit of the allocator n, if it was made
abbrev pub limit_at : List TreeNode → ℕ → Option ℕ
limit_at nodes n = option_map (λ node. node.limit) (find (λ node. node.number.0 == n) nodes)

-- how many more calls are counted, but for one
abbrev pub turns_left : ℕ → ℕ
turns_left calls = most_calls - 1 - calls

-- bytes that never fall, a turn for each call that may still be counted, the open allocators as pins, and every allocator by its
-- name and its limit
abbrev pub solo_view : MeasuredTree → TokenView
solo_view tree = record {
  bytes = 2 ^ 61;
  turns = turns_left tree.calls;
  pins = λ n. if is_open tree.state n then 1 else 0;
  rounding = λ n. Some (rounding_at tree.state n);
  limit = λ n. limit_at tree.state.nodes n;
}
