-- The live chunks of a tree, as entries of a map.
use Rattle.std.specs.Prelude.{ℕ, List}
use Rattle.std.specs.List.{find}
use Rattle.std.specs.Option.{option_map_or}
use Rattle.mem_num.specs.declared.alloc_id.AllocId.{AllocId}
use Rattle.mem_num.specs.declared.buffer_ref.Ref.{Ref}
use Rattle.mem_model.specs.Chunk.{Chunk, chunk_at, released, with_chunk}
use Rattle.mem_model.specs.References.{refers_to}
use Rattle.mem_model.specs.Release.{after_release}
use Rattle.ledger_map.specs.declared.after.After.{After}
use Rattle.ledger_map.specs.LedgerState.{LedgerState}
use Rattle.ledger_map.specs.Release.{after_of}

-- the chunk of this number, which has these ledgers
abbrev pub chunk_of : ℕ × LedgerState → Chunk
chunk_of entry = record { number = entry.0; size = entry.1.size; owner = entry.1.owner; ledgers = entry.1.ledgers }

-- the chunks with a change to the one of the number n, if it is live
abbrev pub with_changed : (Chunk → Chunk) → ℕ → List Chunk → List Chunk
with_changed change n chunks = option_map_or (λ chunk. with_chunk (change chunk) chunks) (chunk_at chunks n) chunks

-- what the release of a reference at an allocator leaves of a chunk, with the chunk's size
abbrev pub after_of_release : AllocId → Chunk → After × ℕ
after_of_release at chunk = (after_of at.0 chunk.owner (released at.0 chunk).ledgers, chunk.size)

-- the chunks without a reference, if it is there, and without the chunk of the last one
abbrev pub without_reference : Ref → List Chunk → List Chunk
without_reference of chunks = option_map_or (λ chunk. after_release (released of.alloc.0 chunk) chunks) (find (refers_to of) chunks) chunks
