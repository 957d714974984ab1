-- Calls on references to chunks, over the plain tree.
use Rattle.std.proofs.Common.{◌≡◌, ℕ, ◌+◌, ◌-◌, ◌<◌, ◌^◌, ◌==◌, List, ◌++◌, get_or, not, sym, ap, ◌∙◌, arith, All, Option, Some, None}
use Rattle.std.specs.List.{find}
use Rattle.std.specs.Option.{option_map, IfSome}
use Rattle.std.proofs.lemmas.Bool.{cond_both}
use Rattle.std.proofs.lemmas.List.Elements.{All-map, All-filter}
use Rattle.mem_num.specs.declared.buffer_ref.Ref.{Ref}
use Rattle.mem_model.specs.Chunk.{Chunk, has_ledger, retained, released, in_place_of, with_chunk}
use Rattle.mem_model.specs.Ledgers.{count_of, total_of}
use Rattle.mem_model.specs.LawfulChunk.{IsLawfulChunk}
use Rattle.mem_model.specs.LawfulState.{IsLawfulState}
use Rattle.mem_model.specs.PeakSample.{PeakSample}
use Rattle.plain_tree.specs.PlainTree.{SampledTree, MeetsCall, HasFewReferences, IsReferred, IsSoundTree}
use Rattle.mem_model.specs.References.{HasRoomFor, refers_to, referred_chunk}
use Rattle.mem_model.specs.Release.{without_chunk, after_release}
use Rattle.mem_model.specs.TreeState.{TreeState, CallResult, is_open}
use Rattle.mem_model.proofs.LedgerCountLemmas.{total_of-with_count, count_of-le-total_of}
use Rattle.mem_model.proofs.ReferenceLemmas.{found, referred_lawful, referred_is_numbered}

-- what a search of a sound tree finds
pub is_referred : (tree : SampledTree) (of : Ref) (chunk : Chunk) → IsSoundTree tree → referred_chunk tree.state of ≡ Some chunk → IsReferred tree.state of chunk
is_referred tree of chunk sound is =
    let both = referred_lawful tree.state of chunk sound.lawful is in
    record { is = is; lawful = both.0; some = both.1; few = (found HasFewReferences (refers_to of) tree.state.chunks chunk sound.references is).0 }

pub all_referred : {R : Type 0} (now : R → Chunk) (tree : SampledTree) (of : Ref) (result : Option R) → IsSoundTree tree → option_map now result ≡ referred_chunk tree.state of → IfSome result (λ r. IsReferred tree.state of (now r))
all_referred now tree of None sound is = tt
all_referred now tree of (Some r) sound is = is_referred tree of (now r) sound (sym is)

-- a chunk that is found by its number has few references
pub all_few : {R : Type 0} (now : R → Chunk) (tree : SampledTree) (n : ℕ) (result : Option R) → IsSoundTree tree → option_map now result ≡ find (λ chunk. chunk.number == n) tree.state.chunks → IfSome result (λ r. HasFewReferences (now r))
all_few now tree n None sound is = tt
all_few now tree n (Some r) sound is = (found HasFewReferences (λ (chunk : Chunk). chunk.number == n) tree.state.chunks (now r) sound.references (sym is)).0

-- 32 bits hold a reference more
pub room-total : (state : TreeState) (of : Ref) (chunk : Chunk) → IsLawfulState state → HasRoomFor state of → referred_chunk state of ≡ Some chunk → total_of chunk.ledgers + 1 < 2 ^ 32
room-total state of chunk lawful room is = room chunk (referred_is_numbered state of chunk lawful is)

-- so 64 bits hold any count of it
pub room-count : (chunk : Chunk) (n : ℕ) → total_of chunk.ledgers + 1 < 2 ^ 32 → count_of chunk.ledgers n + 1 < 2 ^ 64
room-count chunk n room = omega (arith, room, count_of-le-total_of chunk.ledgers n)

pub few-count : (chunk : Chunk) (n : ℕ) → HasFewReferences chunk → count_of chunk.ledgers n < 2 ^ 64
few-count chunk n few = omega (arith, few, count_of-le-total_of chunk.ledgers n)

-- a chunk with a reference more has few
pub few-retained : (state : TreeState) (chunk : Chunk) (n : ℕ) → IsLawfulChunk (is_open state) chunk → total_of chunk.ledgers + 1 < 2 ^ 32 → HasFewReferences (retained n chunk)
few-retained state chunk n lawful room =
    omega (arith, room, total_of-with_count chunk.ledgers n (count_of chunk.ledgers n + 1) lawful.in_order)

-- and one with a reference less
pub few-released : (state : TreeState) (chunk : Chunk) (n : ℕ) → IsLawfulChunk (is_open state) chunk → HasFewReferences chunk → HasFewReferences (released n chunk)
few-released state chunk n lawful few =
    omega (arith, few, total_of-with_count chunk.ledgers n (count_of chunk.ledgers n - 1) lawful.in_order)

-- chunks where one stands in another's place
pub few-with_chunk : (new : Chunk) (chunks : List Chunk) → HasFewReferences new → All HasFewReferences chunks → All HasFewReferences (with_chunk new chunks)
few-with_chunk new chunks few all =
    All-map HasFewReferences (in_place_of new) chunks (λ k d within.
    let old = get_or chunks k d in
    cond_both (old.number == new.number) new old HasFewReferences (λ _. few) (λ _. all k d within))

-- chunks as a release leaves them
pub few-after_release : (left : Chunk) (chunks : List Chunk) → HasFewReferences left → All HasFewReferences chunks → All HasFewReferences (after_release left chunks)
few-after_release left chunks few all =
    cond_both (has_ledger left.owner.0 left) (with_chunk left chunks) (without_chunk left.number chunks) (All HasFewReferences)
    (λ _. few-with_chunk left chunks few all) (λ _. All-filter (λ (chunk : Chunk). not (chunk.number == left.number)) HasFewReferences chunks all)

-- a call that measured some moments
pub answers-measured : {A : Type 0} (call : CallResult A) (old new : SampledTree) (told : A) (state : TreeState) (samples : List PeakSample) → call ≡ record { answer = told; state = state; samples = samples }
    → new ≡ record { state = state; samples = old.samples ++ samples } → MeetsCall call old new told
answers-measured call old new told state samples is after = record {
  answer = sym (ap (λ c. c.answer) is);
  state = ap (λ t. t.state) after ∙ sym (ap (λ c. c.state) is);
  samples = ap (λ t. t.samples) after ∙ sym (ap (λ c. old.samples ++ c.samples) is);
}
