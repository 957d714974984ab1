-- Taking the charge for a chunk over.
use Rattle.std.specs.Prelude.{true, Bool, [], ◌∷◌, if◌then◌else◌}
use Rattle.std.specs.Option.{option_map_or}
use Rattle.mem_num.specs.declared.alloc_id.AllocId.{AllocId}
use Rattle.mem_num.specs.declared.buffer_ref.Ref.{Ref}
use Rattle.mem_model.specs.declared.charge.Charge.{Charge}
use Rattle.mem_model.specs.Chunk.{Chunk, with_chunk, chunk_at}
use Rattle.mem_model.specs.Force.{force_sample, is_within_limits}
use Rattle.mem_model.specs.Transfer.{moves_charge}
use Rattle.mem_model.specs.TreeState.{TreeState, CallResult, unchanged}

-- the charge for a chunk is forced onto the target, and then goes at the owner
abbrev pub taken_over : TreeState → AllocId → Chunk → CallResult Bool
taken_over state target chunk =
    let force : Charge = record { at = target; amount = chunk.size } in
    record {
      answer = is_within_limits state force;
      state = record state { chunks = with_chunk (record chunk { owner = target }) state.chunks };
      samples = force_sample state force ∷ [];
    }

abbrev pub take_over_from : TreeState → AllocId → AllocId → Chunk → CallResult Bool
take_over_from state source target chunk = if moves_charge source target chunk then taken_over state target chunk else unchanged state true

-- a target that refers to the chunk of a reference already takes its charge over, where the source is charged
abbrev pub take_over_result : TreeState → Ref → AllocId → CallResult Bool
take_over_result state of target = option_map_or (take_over_from state of.alloc target) (chunk_at state.chunks of.chunk)
    (unchanged state true)
