-- Calls on references keep the law of the tree's state.
use Rattle.std.proofs.Common.{◌≡◌, ℕ, ◌+◌, ◌-◌, ◌<◌, ◌≤◌, ◌==◌, get_or, true, not, refl, sym, arith, inl, inr, Option, Some, None, Err}
use Rattle.std.specs.Option.{option_map_or}
use Rattle.std.proofs.lemmas.Bool.{cases_eq, cond_both, eqb-true, not-false, ltb-true}
use Rattle.std.proofs.lemmas.List.Elements.{All-map}
use Rattle.mem_num.specs.declared.alloc_id.AllocId.{AllocId}
use Rattle.mem_num.specs.declared.buffer_ref.Ref.{Ref}
use Rattle.mem_num.specs.declared.solo_refused.SoloRefused.TheVariants.{Released as RefusedRelease}
use Rattle.mem_model.specs.declared.ledger.Ledger.{Ledger}
use Rattle.mem_model.specs.Chunk.{Chunk, has_ledger, retained, released, in_place_of, with_chunk}
use Rattle.mem_model.specs.Ledgers.{count_of}
use Rattle.mem_model.specs.LawfulChunk.{IsLawfulChunk}
use Rattle.mem_model.specs.LawfulState.{IsLawfulState}
use Rattle.mem_model.specs.References.{referred_chunk, released_at}
use Rattle.mem_model.specs.Release.{without_chunk, after_release, release_from, release_result}
use Rattle.mem_model.specs.Retain.{retain_from, retain_result}
use Rattle.mem_model.specs.Transfer.{moves_charge, transfer_from, transfer_result}
use Rattle.mem_model.specs.TreeState.{TreeState, CallResult, unchanged, is_open}
use Rattle.mem_model.proofs.LawfulLemmas.{lawful-without_chunk}
use Rattle.mem_model.proofs.LedgerCountLemmas.{count_of-with_count, count_of-with_count_other, AreInOrder-with_count, All-with_count}
use Rattle.mem_model.proofs.OpenLemmas.{AllPairs-map}
use Rattle.mem_model.proofs.ReferenceLemmas.{referred_lawful, referrer_open}

-- what a call leaves is lawful
abbrev LeavesLawful : {A : Type 0} → CallResult A → Type 0
LeavesLawful result = IsLawfulState result.state

-- a chunk in another's place has its number
pub number_kept : (new old : Chunk) → (in_place_of new old).number ≡ old.number
number_kept new old = cond_both (old.number == new.number) new old (λ chunk. chunk.number ≡ old.number) (λ same. sym (eqb-true old.number new.number same)) (λ _. refl)

-- a lawful chunk in the place of the one of its number
pub lawful-with_chunk : (state : TreeState) (new : Chunk) → IsLawfulState state → IsLawfulChunk (is_open state) new → IsLawfulState (record state { chunks = with_chunk new state.chunks })
lawful-with_chunk state new h lawful =
    let after : TreeState = record state { chunks = with_chunk new state.chunks } in
    record {
      tree = h.tree;
      nodes = h.nodes;
      in_order = AllPairs-map (λ (older newer : Chunk). older.number < newer.number) (in_place_of new) state.chunks (λ i j d lt within.
          let less : (get_or state.chunks i d).number < (get_or state.chunks j d).number = h.in_order i j d lt within in
          omega (arith, less, number_kept new (get_or state.chunks i d), number_kept new (get_or state.chunks j d)));
      chunks = All-map (IsLawfulChunk (is_open after)) (in_place_of new) state.chunks (λ k d within.
          let old = get_or state.chunks k d in
          cond_both (old.number == new.number) new old (IsLawfulChunk (is_open after)) (λ _. lawful) (λ _. h.chunks k d within));
      given = All-map (λ (chunk : Chunk). chunk.number ≤ state.drawn) (in_place_of new) state.chunks (λ k d within.
          let given : (get_or state.chunks k d).number ≤ state.drawn = h.given k d within in
          omega (arith, given, number_kept new (get_or state.chunks k d)));
    }

-- a chunk to which an open allocator refers once more
pub lawful-retained : (state : TreeState) (chunk : Chunk) (n : ℕ) → IsLawfulChunk (is_open state) chunk → is_open state n ≡ true → IsLawfulChunk (is_open state) (retained n chunk)
lawful-retained state chunk n h open_ = record {
  some = h.some;
  some_bytes = h.some_bytes;
  few_bytes = h.few_bytes;
  in_order = AreInOrder-with_count chunk.ledgers n (count_of chunk.ledgers n + 1) h.in_order;
  owner = elim (cases_eq chunk.owner.0 n) [
    | inl same ↦ rw same (omega (arith, count_of-with_count chunk.ledgers n (count_of chunk.ledgers n + 1) h.in_order))
    | inr other ↦ omega (arith, h.owner, count_of-with_count_other chunk.ledgers n (count_of chunk.ledgers n + 1) chunk.owner.0 h.in_order other)
  ];
  open_ = All-with_count (λ (ledger : Ledger). is_open state ledger.at.0 ≡ true) chunk.ledgers n (count_of chunk.ledgers n + 1) h.open_ open_;
}

-- and is charged for it
pub lawful-moved : (state : TreeState) (chunk : Chunk) (target : AllocId) → IsLawfulChunk (is_open state) chunk → is_open state target.0 ≡ true → IsLawfulChunk (is_open state) (record (retained target.0 chunk) { owner = target })
lawful-moved state chunk target h open_ =
    let more = lawful-retained state chunk target.0 h open_ in
    record {
      some = more.some;
      some_bytes = more.some_bytes;
      few_bytes = more.few_bytes;
      in_order = more.in_order;
      owner = omega (arith, count_of-with_count chunk.ledgers target.0 (count_of chunk.ledgers target.0 + 1) h.in_order);
      open_ = more.open_;
    }

-- a chunk to which an allocator refers once less, while its owner refers to it
pub lawful-released : (state : TreeState) (chunk : Chunk) (n : ℕ) → IsLawfulChunk (is_open state) chunk → is_open state n ≡ true → has_ledger (released n chunk).owner.0 (released n chunk) ≡ true → IsLawfulChunk (is_open state) (released n chunk)
lawful-released state chunk n h open_ owns = record {
  some = h.some;
  some_bytes = h.some_bytes;
  few_bytes = h.few_bytes;
  in_order = AreInOrder-with_count chunk.ledgers n (count_of chunk.ledgers n - 1) h.in_order;
  owner = ltb-true 0 (count_of (released n chunk).ledgers (released n chunk).owner.0) owns;
  open_ = All-with_count (λ (ledger : Ledger). is_open state ledger.at.0 ≡ true) chunk.ledgers n (count_of chunk.ledgers n - 1) h.open_ open_;
}

-- the chunks as a release leaves them
pub lawful-after_release : (state : TreeState) (chunk : Chunk) (n : ℕ) → IsLawfulState state → IsLawfulChunk (is_open state) chunk → is_open state n ≡ true → IsLawfulState (record state { chunks = after_release (released n chunk) state.chunks })
lawful-after_release state chunk n h lawful open_ =
    let left = released n chunk in
    cond_both (has_ledger left.owner.0 left) (with_chunk left state.chunks) (without_chunk left.number state.chunks) (λ chunks. IsLawfulState (record state { chunks = chunks }))
    (λ owns. lawful-with_chunk state left h (lawful-released state chunk n lawful open_ owns)) (λ _. lawful-without_chunk state left.number h)

-- retaining keeps the law
lawful-retain_from : (state : TreeState) (of : Ref) (target : AllocId) (found : Option Chunk) → IsLawfulState state → referred_chunk state of ≡ found → LeavesLawful (option_map_or (retain_from state target) found (unchanged state (Err (RefusedRelease (released_at of)))))
lawful-retain_from state of target None h is = h
lawful-retain_from state of target (Some chunk) h is =
    let lawful = (referred_lawful state of chunk h is).0 in
    cond_both (not (is_open state target.0)) _ _ LeavesLawful (λ _. h)
    (λ open_. lawful-with_chunk state (retained target.0 chunk) h (lawful-retained state chunk target.0 lawful (not-false (is_open state target.0) open_)))

pub lawful-retain_call : (state : TreeState) (of : Ref) (target : AllocId) → IsLawfulState state → IsLawfulState (retain_result state of target).state
unfolding retain_result
lawful-retain_call state of target h = lawful-retain_from state of target (referred_chunk state of) h refl

-- and so does transferring
lawful-transfer_from : (state : TreeState) (of : Ref) (target : AllocId) (found : Option Chunk) → IsLawfulState state → referred_chunk state of ≡ found → LeavesLawful (option_map_or (transfer_from state of.alloc target) found (unchanged state (Err (RefusedRelease (released_at of)))))
lawful-transfer_from state of target None h is = h
lawful-transfer_from state of target (Some chunk) h is =
    let lawful = (referred_lawful state of chunk h is).0 in
    cond_both (not (is_open state target.0)) _ _ LeavesLawful (λ _. h) (λ open_.
    let opened = not-false (is_open state target.0) open_ in
    cond_both (moves_charge of.alloc target chunk) _ _ LeavesLawful (λ _. lawful-with_chunk state (record (retained target.0 chunk) { owner = target }) h (lawful-moved state chunk target lawful opened))
    (λ _. lawful-with_chunk state (retained target.0 chunk) h (lawful-retained state chunk target.0 lawful opened)))

pub lawful-transfer_call : (state : TreeState) (of : Ref) (target : AllocId) → IsLawfulState state → IsLawfulState (transfer_result state of target).state
unfolding transfer_result
lawful-transfer_call state of target h = lawful-transfer_from state of target (referred_chunk state of) h refl

-- and giving back
lawful-release_from : (state : TreeState) (of : Ref) (found : Option Chunk) → IsLawfulState state → referred_chunk state of ≡ found → LeavesLawful (option_map_or (release_from state of) found (unchanged state (Err (released_at of))))
lawful-release_from state of None h is = h
lawful-release_from state of (Some chunk) h is =
    let both = referred_lawful state of chunk h is in
    lawful-after_release state chunk of.alloc.0 h both.0 (referrer_open state chunk of.alloc.0 both.0 both.1)

pub lawful-release_call : (state : TreeState) (of : Ref) → IsLawfulState state → IsLawfulState (release_result state of).state
unfolding release_result
lawful-release_call state of h = lawful-release_from state of (referred_chunk state of) h refl
