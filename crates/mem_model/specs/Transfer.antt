-- Moving the charge for a chunk to another allocator.
use Rattle.std.specs.Prelude.{◌==◌, Bool, true, ◌&&◌, not, [], ◌∷◌, if◌then◌else◌, Result, Ok, Err}
use Rattle.std.specs.Option.{option_map_or}
use Rattle.mem_num.specs.declared.alloc_id.AllocId.{AllocId}
use Rattle.mem_num.specs.declared.buffer_ref.Ref.{Ref}
use Rattle.mem_num.specs.declared.solo_refused.SoloRefused.{SoloRefused}
use Rattle.mem_num.specs.declared.solo_refused.SoloRefused.TheVariants.{Released, Closed}
use Rattle.mem_model.specs.declared.charge.Charge.{Charge}
use Rattle.mem_model.specs.Chunk.{Chunk, retained, with_chunk}
use Rattle.mem_model.specs.Force.{force_sample, is_within_limits}
use Rattle.mem_model.specs.References.{referred_chunk, reference_to, released_at}
use Rattle.mem_model.specs.TreeState.{TreeState, CallResult, unchanged, is_open, closed_at}

-- whether a transfer moves the charge: the source is charged for the chunk, and isn't the target
abbrev pub moves_charge : AllocId → AllocId → Chunk → Bool
moves_charge source target chunk = (chunk.owner.0 == source.0) && not (target.0 == source.0)

-- the charge is forced onto the target, and then goes at the source
abbrev pub moved_result : TreeState → AllocId → Chunk → CallResult (Result (Ref × Bool) SoloRefused)
moved_result state target chunk =
    let force : Charge = record { at = target; amount = chunk.size } in
    record {
      answer = Ok (reference_to chunk target, is_within_limits state force);
      state = record state { chunks = with_chunk (record (retained target.0 chunk) { owner = target }) state.chunks };
      samples = force_sample state force ∷ [];
    }

-- no charge moves
abbrev pub kept_result : TreeState → AllocId → Chunk → CallResult (Result (Ref × Bool) SoloRefused)
kept_result state target chunk = record {
  answer = Ok (reference_to chunk target, true);
  state = record state { chunks = with_chunk (retained target.0 chunk) state.chunks };
  samples = [];
}

-- the target refers to the chunk once more, and the source's reference stays
abbrev pub transfer_from : TreeState → AllocId → AllocId → Chunk → CallResult (Result (Ref × Bool) SoloRefused)
transfer_from state source target chunk =
    if not (is_open state target.0) then unchanged state (Err (Closed (closed_at target)))
    else if moves_charge source target chunk then moved_result state target chunk
    else kept_result state target chunk

-- a reference that was given back is refused first; else the answer tells whether every level of the charge is within its limit
unfoldable pub transfer_result : TreeState → Ref → AllocId → CallResult (Result (Ref × Bool) SoloRefused)
transfer_result state of target = option_map_or (transfer_from state of.alloc target) (referred_chunk state of) (unchanged state (Err (Released (released_at of))))
