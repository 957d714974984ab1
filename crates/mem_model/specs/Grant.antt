-- Asking for a buffer.
use Rattle.std.specs.Prelude.{ℕ, ◌+◌, ◌==◌, not, nat_lt, [], ◌∷◌, ◌++◌, if◌then◌else◌, Option, Some, None, Result, Ok, Err}
use Rattle.mem_num.specs.Rounded.{rounded_size}
use Rattle.mem_num.specs.declared.bounds.TheConstants.{LARGEST}
use Rattle.mem_num.specs.declared.alloc_id.AllocId.{AllocId}
use Rattle.mem_num.specs.declared.buffer_ref.Ref.{Ref}
use Rattle.mem_num.specs.declared.buffer_refused.BufferRefused.{BufferRefused}
use Rattle.mem_num.specs.declared.buffer_refused.BufferRefused.TheVariants.{TooLarge, Closed, Full}
use Rattle.mem_model.specs.declared.charge.Charge.{Charge}
use Rattle.mem_model.specs.Chunk.{new_chunk}
use Rattle.mem_model.specs.declared.tree_node.TreeNode.{TreeNode}
use Rattle.mem_model.specs.Request.{refusing_level, refusal_of}
use Rattle.mem_model.specs.PeakSample.{request_sample}
use Rattle.mem_model.specs.TreeState.{TreeState, CallResult, rounding_at, unchanged, charges_in, is_open, closed_at}

-- what a charge is answered, by the level that refuses it
abbrev pub charge_answer : TreeState → Charge → Option TreeNode → Result Ref BufferRefused
charge_answer state request None = Ok (record { chunk = state.drawn + 1; alloc = request.at; size = request.amount })
charge_answer state request (Some level) = Err (Full (refusal_of state.nodes (charges_in state) request level))

-- a charge makes a chunk; a refused one has spent its number
abbrev pub after_charge : TreeState → Charge → Option TreeNode → TreeState
after_charge state request None =
    record state { chunks = state.chunks ++ new_chunk (state.drawn + 1) request.amount request.at ∷ []; drawn = state.drawn + 1 }
after_charge state request (Some level) = record state { drawn = state.drawn + 1 }

abbrev pub charge_result : TreeState → Charge → CallResult (Result Ref BufferRefused)
charge_result state request =
    let refusing = refusing_level state.nodes (charges_in state) request in
    record { answer = charge_answer state request refusing; state = after_charge state request refusing; samples = request_sample state.nodes (charges_in state) request ∷ [] }

-- a request for a buffer, by the first cause that stands
unfoldable pub grant_result : TreeState → AllocId → ℕ → CallResult (Result Ref BufferRefused)
grant_result state at request =
    let size = rounded_size (rounding_at state at.0) request in
    if nat_lt LARGEST size then unchanged state (Err (TooLarge (record { request = request })))
    else if not (is_open state at.0) then unchanged state (Err (Closed (closed_at at)))
    else if size == 0 then unchanged state (Ok (record { chunk = 0; alloc = at; size = 0 }))
    else charge_result state (record { at = at; amount = size })
