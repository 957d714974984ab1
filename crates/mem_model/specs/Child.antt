-- Making a child.
use Rattle.std.specs.Prelude.{ℕ, ◌+◌, not, nat_le, nat_lt, [], ◌∷◌, ◌++◌, if◌then◌else◌, Option, Some, None, Result, Ok, Err, false}
use Rattle.mem_num.specs.declared.bounds.TheConstants.{MOST_ALLOCATORS}
use Rattle.mem_num.specs.declared.alloc_id.AllocId.{AllocId}
use Rattle.mem_num.specs.declared.child_refused.ChildRefused.{ChildRefused}
use Rattle.mem_num.specs.declared.child_refused.ChildRefused.TheVariants.{ReserveAboveLimit, Closed, Nodes, Full}
use Rattle.mem_model.specs.declared.charge.Charge.{Charge}
use Rattle.mem_model.specs.declared.tree_node.TreeNode.{TreeNode}
use Rattle.mem_model.specs.Request.{refusing_level, refusal_of}
use Rattle.mem_model.specs.PeakSample.{request_sample}
use Rattle.mem_model.specs.TreeState.{TreeState, CallResult, unchanged, charges_in, is_open, closed_at}

-- the child that gets the next number
abbrev pub child_node : TreeState → AllocId → ℕ → ℕ → TreeNode
child_node state parent reservation limit =
    record { number = record { 0 = state.next }; parent = Some parent; reservation = reservation; limit = limit; closed = false }

-- what a child is answered, by the level that refuses its reservation
abbrev pub child_answer : TreeState → Charge → Option TreeNode → Result AllocId ChildRefused
child_answer state request None = Ok (record { 0 = state.next })
child_answer state request (Some level) = Err (Full (refusal_of state.nodes (charges_in state) request level))

-- a child stands last; a refused one has spent its number
abbrev pub after_child : TreeState → TreeNode → Option TreeNode → TreeState
after_child state child None = record state { nodes = state.nodes ++ child ∷ []; next = state.next + 1 }
after_child state child (Some level) = record state { next = state.next + 1 }

-- the reservation is requested at the parent; one of 0 bytes has no level that could refuse it or whose peak it could raise
abbrev pub made_result : TreeState → AllocId → ℕ → ℕ → CallResult (Result AllocId ChildRefused)
made_result state parent reservation limit =
    let request : Charge = record { at = parent; amount = reservation } in
    let refusing = refusing_level state.nodes (charges_in state) request in
    record {
      answer = child_answer state request refusing;
      state = after_child state (child_node state parent reservation limit) refusing;
      samples = request_sample state.nodes (charges_in state) request ∷ [];
    }

-- a child of some reservation and limit, by the first cause that stands
unfoldable pub child_result : TreeState → AllocId → ℕ → ℕ → CallResult (Result AllocId ChildRefused)
child_result state parent reservation limit =
    if nat_lt limit reservation then unchanged state (Err (ReserveAboveLimit reservation limit))
    else if not (is_open state parent.0) then unchanged state (Err (Closed (closed_at parent)))
    else if nat_le MOST_ALLOCATORS state.next then record { answer = Err (Nodes state.next); state = record state { next = state.next + 1 }; samples = [] }
    else made_result state parent reservation limit
