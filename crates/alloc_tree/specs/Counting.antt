-- How many calls of a tree have drawn a number or added a reference.
use Rattle.std.specs.Prelude.{ℕ, zero, suc, ◌+◌, ◌-◌, ◌<◌, ◌≤◌, min}
use Rattle.mem_num.specs.Rounded.{rounded_size}
use Rattle.mem_num.specs.declared.alloc_id.AllocId.{AllocId}
use Rattle.mem_num.specs.declared.bounds.TheConstants.{LARGEST, MOST_NUMBERS}
use Rattle.mem_model.specs.Calls.{references_in}
use Rattle.mem_model.specs.MeasuredTree.{MeasuredTree}
use Rattle.mem_model.specs.TreeState.{TreeState, rounding_at}

-- the most that is counted
abbrev pub most_calls : ℕ
most_calls = MOST_NUMBERS - 1

-- the count after a call that drew so many: one more where it drew any, until the count stands still
abbrev pub count_after : ℕ → ℕ → ℕ
count_after calls zero = calls
count_after calls (suc n) = min (calls + 1) most_calls

-- a count that doesn't stand still covers the chunk numbers that were drawn, those of allocators, of which the root had one from
-- the start, and the references that there are
pub record CountsCalls (tree : MeasuredTree) : Type 0 where
  pub drawn : tree.calls < most_calls → tree.state.drawn ≤ tree.calls
  pub next : tree.calls < most_calls → tree.state.next ≤ tree.calls + 1
  pub references : tree.calls < most_calls → references_in tree.state ≤ tree.calls

-- a call more may be counted, after which the count doesn't stand still
abbrev pub HasCallsLeft : MeasuredTree → Type 0
HasCallsLeft tree = tree.calls + 1 < most_calls

-- a request that charges bytes, and so draws a number: it is rounded to some, and not to too many
pub record ChargesBytes (state : TreeState) (at : AllocId) (request : ℕ) : Type 0 where
  pub some : 1 ≤ rounded_size (rounding_at state at.0) request
  pub few : rounded_size (rounding_at state at.0) request ≤ LARGEST
