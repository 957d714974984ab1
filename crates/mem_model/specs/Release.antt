-- Giving a reference back.
use Rattle.std.specs.Prelude.{ℕ, ◌==◌, Bool, not, [], ◌∷◌, List, filter, if◌then◌else◌, Result, Ok, Err}
use Rattle.std.specs.Option.{option_map_or}
use Rattle.mem_num.specs.declared.alloc_id.AllocId.{AllocId}
use Rattle.mem_num.specs.declared.buffer_ref.Ref.{Ref}
use Rattle.mem_num.specs.declared.released.Released.{Released}
use Rattle.mem_model.specs.Chunk.{Chunk, has_ledger, released, with_chunk}
use Rattle.mem_model.specs.Force.{force_sample}
use Rattle.mem_model.specs.PeakSample.{PeakSample}
use Rattle.mem_model.specs.References.{referred_chunk, released_at}
use Rattle.mem_model.specs.TreeState.{TreeState, CallResult, unchanged}

-- the chunks but for the one of the number n
abbrev pub without_chunk : ℕ → List Chunk → List Chunk
without_chunk n chunks = filter (λ chunk. not (chunk.number == n)) chunks

-- the chunks with one of them as a release left it: without a ledger it is gone
abbrev pub after_release : Chunk → List Chunk → List Chunk
after_release left chunks = if has_ledger left.owner.0 left then with_chunk left chunks else without_chunk left.number chunks

-- a charge that moves to the next owner is forced onto it, before it goes at the old one
abbrev pub release_samples : TreeState → AllocId → Chunk → List PeakSample
release_samples state owner left = if left.owner.0 == owner.0 then [] else force_sample state (record { at = left.owner; amount = left.size }) ∷ []

-- a reference goes, and the answer tells whether its ledger went
abbrev pub release_from : TreeState → Ref → Chunk → CallResult (Result Bool Released)
release_from state of chunk =
    let left = released of.alloc.0 chunk in
    record {
      answer = Ok (not (has_ledger of.alloc.0 left));
      state = record state { chunks = after_release left state.chunks };
      samples = release_samples state chunk.owner left;
    }

-- a reference that was given back before is refused
unfoldable pub release_result : TreeState → Ref → CallResult (Result Bool Released)
release_result state of = option_map_or (release_from state of) (referred_chunk state of) (unchanged state (Err (released_at of)))
