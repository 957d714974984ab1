-- The references of a trace: those that were given and not given back.
use Rattle.std.specs.Prelude.{◌≡◌, ℕ, ◌≤◌, ◌==◌, Bool, true, not, ◌&&◌, All, count_by, is_some}
use Rattle.mem_model.specs.Calls.{references_in}
use Rattle.mem_model.specs.CountedReferences.{is_reference_to, references_to}
use Rattle.mem_model.specs.References.{referred_chunk}
use Rattle.script.specs.declared.buffer.GivenRef.{GivenRef}
use Rattle.script.specs.Trace.{TraceState}

-- whether a reference wasn't given back; that of the empty buffer is to no chunk
abbrev pub is_live : GivenRef → Bool
is_live given = not given.given_back && not (given.reference.chunk == 0)

-- whether it is one of the allocator n to the chunk k
abbrev pub is_live_to : ℕ → ℕ → GivenRef → Bool
is_live_to k n given = not given.given_back && is_reference_to k n given.reference

-- each allocator has as many references to each chunk as it was given there and didn't give back, and so are all references
-- together; and each live one is to a live chunk, so that no call answers that it was released
pub record KeepsReferences (state : TraceState) : Type 0 where
  pub counts : (k n : ℕ) → 1 ≤ k → references_to state.tree k n ≡ count_by (is_live_to k n) state.buffers.given
  pub all : references_in state.tree ≡ count_by is_live state.buffers.given
  pub live : All (λ given. is_live given ≡ true → is_some (referred_chunk state.tree given.reference) ≡ true) state.buffers.given
