-- The end of a query: the references that are left, and the closing of its allocators.
use Rattle.std.specs.Prelude.{◌≡◌, ℕ, ◌+◌, ◌≤◌, false, List, [], ◌∷◌, map, Some}
use Rattle.mem_num.specs.declared.alloc_id.AllocId.{AllocId}
use Rattle.mem_num.specs.declared.buffer_ref.Ref.{Ref}
use Rattle.mem_model.specs.declared.tree_node.TreeNode.{TreeNode}
use Rattle.mem_model.specs.Calls.{Close, one_if_ok, state_after}
use Rattle.mem_model.specs.Close.{close_result}
use Rattle.mem_model.specs.CountedReferences.{references_to}
use Rattle.mem_model.specs.TreeState.{TreeState, root_node}
use Rattle.query_model.specs.Requests.{root_id, scan_id, filter_id, project_id, sums_id, result_id}
use Rattle.pipeline.specs.Holding.{held_count}

-- each reference to a live chunk is one that is held
abbrev pub AreCounted : List Ref → TreeState → Type 0
AreCounted held state = (k n : ℕ) → 1 ≤ k → references_to state k n ≡ held_count held k n

-- the allocators of a query in the order in which they close: the root last
abbrev pub closing_order : List AllocId
closing_order = result_id ∷ sums_id ∷ project_id ∷ filter_id ∷ scan_id ∷ root_id ∷ []

-- how many of these allocators close, one after the other
abbrev pub closings_done : TreeState → List AllocId → ℕ
closings_done state [] = 0
closings_done state (at ∷ later) = one_if_ok (close_result state at).answer + closings_done (close_result state at).state later

-- the state that their closings leave
abbrev pub after_closings : TreeState → List AllocId → TreeState
after_closings state order = state_after state (map Close order)

-- an open child of the root
abbrev pub child_of_root : ℕ → ℕ → ℕ → TreeNode
child_of_root number limit reservation =
    record { number = record { 0 = number }; parent = Some root_id; reservation = reservation; limit = limit; closed = false }

-- one for each reservation with the limit beside it, numbered from here on
abbrev pub child_nodes : ℕ → List ℕ → List ℕ → List TreeNode
child_nodes number (limit ∷ limits) (reservation ∷ reserves) =
    child_of_root number limit reservation ∷ child_nodes (number + 1) limits reserves
child_nodes number limits reserves = []

-- the allocators of a query, none of which is closed
abbrev pub query_nodes : ℕ → List ℕ → List ℕ → List TreeNode
query_nodes root_limit limits reserves = root_node root_limit ∷ child_nodes 1 limits reserves
