-- References to chunks.
use Rattle.std.specs.Prelude.{◌+◌, ◌<◌, ◌==◌, Bool, ◌&&◌, Option}
use Rattle.std.specs.List.{find}
use Rattle.std.specs.Option.{ForSome}
use Rattle.mem_num.specs.declared.bounds.TheConstants.{MOST_NUMBERS}
use Rattle.mem_num.specs.declared.alloc_id.AllocId.{AllocId}
use Rattle.mem_num.specs.declared.buffer_ref.Ref.{Ref}
use Rattle.mem_num.specs.declared.released.Released.{Released}
use Rattle.mem_model.specs.Chunk.{Chunk, chunk_at, has_ledger}
use Rattle.mem_model.specs.Ledgers.{total_of}
use Rattle.mem_model.specs.TreeState.{TreeState}

-- whether a reference is to this chunk, on a ledger that is there
abbrev pub refers_to : Ref → Chunk → Bool
refers_to of chunk = (chunk.number == of.chunk) && has_ledger of.alloc.0 chunk

-- the chunk that a reference is to, if it wasn't given back
abbrev pub referred_chunk : TreeState → Ref → Option Chunk
referred_chunk state of = find (refers_to of) state.chunks

-- a reference of an allocator to a chunk
abbrev pub reference_to : Chunk → AllocId → Ref
reference_to chunk at = record { chunk = chunk.number; alloc = at; size = chunk.size }

-- the chunk of a reference can have one more, where 32 bits hold how many it has
abbrev pub HasRoomFor : TreeState → Ref → Type 0
HasRoomFor state of = ForSome (chunk_at state.chunks of.chunk) (λ chunk. total_of chunk.ledgers + 1 < MOST_NUMBERS)

-- the refusal of a reference that was given back
abbrev pub released_at : Ref → Released
released_at of = record { chunk = of.chunk; alloc = of.alloc }
