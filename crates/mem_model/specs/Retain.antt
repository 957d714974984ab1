-- Referring to a chunk from one allocator more.
use Rattle.std.specs.Prelude.{[], not, if◌then◌else◌, Result, Ok, Err}
use Rattle.std.specs.Option.{option_map_or}
use Rattle.mem_num.specs.declared.alloc_id.AllocId.{AllocId}
use Rattle.mem_num.specs.declared.buffer_ref.Ref.{Ref}
use Rattle.mem_num.specs.declared.solo_refused.SoloRefused.{SoloRefused}
use Rattle.mem_num.specs.declared.solo_refused.SoloRefused.TheVariants.{Released, Closed}
use Rattle.mem_model.specs.Chunk.{Chunk, retained, with_chunk}
use Rattle.mem_model.specs.References.{referred_chunk, reference_to, released_at}
use Rattle.mem_model.specs.TreeState.{TreeState, CallResult, unchanged, is_open, closed_at}

-- the target refers to the chunk once more, and no charge moves
abbrev pub retain_from : TreeState → AllocId → Chunk → CallResult (Result Ref SoloRefused)
retain_from state target chunk =
    if not (is_open state target.0) then unchanged state (Err (Closed (closed_at target)))
    else record { answer = Ok (reference_to chunk target); state = record state { chunks = with_chunk (retained target.0 chunk) state.chunks }; samples = [] }

-- a reference that was given back is refused first
unfoldable pub retain_result : TreeState → Ref → AllocId → CallResult (Result Ref SoloRefused)
retain_result state of target = option_map_or (retain_from state target) (referred_chunk state of) (unchanged state (Err (Released (released_at of))))
