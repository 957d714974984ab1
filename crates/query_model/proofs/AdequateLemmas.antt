-- Calls on a tree whose limits carry all that is asked for: none is refused for want of room.
use Rattle.std.specs.Prelude.{◌≡◌, ◌≤◌, ◌+◌, ℕ, ◌==◌, Bool, not, List, [], ◌∷◌, get_or, sum_by, All, Option, Some, None, Result, Err, refl}
use Rattle.std.specs.Option.{option_map_or}
use Rattle.std.proofs.Common.{arith, sym, ap, subst, ◌∙◌}
use Rattle.std.proofs.lemmas.Bool.{cond_both, eqb-true}
use Rattle.std.proofs.lemmas.List.Elements.{All-head, All-tail, All-filter, All-map}
use Rattle.std.proofs.lemmas.List.Sums.{sum_by-cons}
use Rattle.mem_num.specs.declared.alloc_id.AllocId.{AllocId}
use Rattle.mem_num.specs.declared.buffer_ref.Ref.{Ref}
use Rattle.mem_num.specs.declared.solo_refused.SoloRefused.{SoloRefused}
use Rattle.mem_num.specs.declared.solo_refused.SoloRefused.TheVariants.{Released as RefusedRelease}
use Rattle.mem_model.specs.Calls.{Child, Close, Grant, Retain, Transfer, Release, TreeCall, CallAnswer, ToRetain, ToTransfer, ToRelease}
use Rattle.mem_model.specs.Calls.{answered, call_result, after_call, answers_of}
use Rattle.mem_model.specs.Chunk.{Chunk, has_ledger, retained, released, in_place_of, with_chunk}
use Rattle.mem_model.specs.References.{referred_chunk, refers_to, released_at}
use Rattle.mem_model.specs.Release.{without_chunk, release_from, release_result}
use Rattle.mem_model.specs.Retain.{retain_from, retain_result}
use Rattle.mem_model.specs.Transfer.{moves_charge, transfer_from, transfer_result}
use Rattle.mem_model.specs.TreeState.{TreeState, CallResult, unchanged, is_open}
use Rattle.mem_model.proofs.ReferenceLemmas.{found}
use Rattle.query_model.specs.SequentialCalls.{full_or, first_full}
use Rattle.query_model.proofs.RoomLemmas.{asked_by, IsRoomy, IsSized, IsWithin, Fits, grant-fits, child-fits}
use Rattle.query_model.proofs.WithinLemmas.{sum_by-passing}

-- a chunk in the place of one of its size
same-size : (size_at : ℕ → ℕ) (drawn : ℕ) (new old : Chunk) → IsSized size_at drawn new → IsSized size_at drawn old
    → (in_place_of new old).size ≡ old.size
same-size size_at drawn new old sized h = cond_both (old.number == new.number) new old (λ chunk. chunk.size ≡ old.size)
    (λ same. sized.size ∙ ap size_at (sym (eqb-true old.number new.number same)) ∙ sym h.size) (λ _. refl)

-- so the sizes stay
sum-with_chunk : (size_at : ℕ → ℕ) (drawn : ℕ) (new : Chunk) (chunks : List Chunk) → IsSized size_at drawn new
    → All (IsSized size_at drawn) chunks
    → sum_by (λ chunk. chunk.size) (with_chunk new chunks) ≡ sum_by (λ chunk. chunk.size) chunks
sum-with_chunk size_at drawn new [] sized all = refl
sum-with_chunk size_at drawn new (old ∷ chunks) sized all =
    let a = sum_by-cons (λ (c : Chunk). c.size) (in_place_of new old) (with_chunk new chunks) in
    let b = sum_by-cons (λ (c : Chunk). c.size) old chunks in
    let c = same-size size_at drawn new old sized (All-head (IsSized size_at drawn) old chunks all) in
    let d = sum-with_chunk size_at drawn new chunks sized (All-tail (IsSized size_at drawn) old chunks all) in
    omega (arith, a, b, c, d)

-- the tree with such a chunk
within-replaced : (size_at : ℕ → ℕ) (most done : ℕ) (state : TreeState) (new : Chunk) → IsSized size_at state.drawn new
    → IsWithin size_at most done state → IsWithin size_at most done (record state { chunks = with_chunk new state.chunks })
within-replaced size_at most done state new sized h = record {
  tree = h.tree;
  numbers = h.numbers;
  limits = h.limits;
  chunks = All-map (IsSized size_at state.drawn) (in_place_of new) state.chunks (λ k d within.
      let old = get_or state.chunks k d in
      cond_both (old.number == new.number) new old (IsSized size_at state.drawn) (λ _. sized) (λ _. h.chunks k d within));
  sums = (let a = sum-with_chunk size_at state.drawn new state.chunks sized h.chunks in omega (arith, a, h.sums));
}

-- the tree without a chunk
within-gone : (size_at : ℕ → ℕ) (most done : ℕ) (state : TreeState) (n : ℕ) → IsWithin size_at most done state
    → IsWithin size_at most done (record state { chunks = without_chunk n state.chunks })
within-gone size_at most done state n h = record {
  tree = h.tree;
  numbers = h.numbers;
  limits = h.limits;
  chunks = All-filter (λ (chunk : Chunk). not (chunk.number == n)) (IsSized size_at state.drawn) state.chunks h.chunks;
  sums = (let a = sum_by-passing (λ (c : Chunk). c.size) (λ chunk. not (chunk.number == n)) state.chunks in omega (arith, a, h.sums));
}

-- the chunk of a reference
referred-sized : (size_at : ℕ → ℕ) (most done : ℕ) (state : TreeState) (of : Ref) (chunk : Chunk) → IsWithin size_at most done state
    → referred_chunk state of ≡ Some chunk → IsSized size_at state.drawn chunk
referred-sized size_at most done state of chunk h is = (found (IsSized size_at state.drawn) (refers_to of) state.chunks chunk h.chunks is).0

-- a reference more
retain_from-fits : (size_at : ℕ → ℕ) (most done : ℕ) (state : TreeState) (of : Ref) (target : AllocId) (referred : Option Chunk)
    → referred_chunk state of ≡ referred → IsWithin size_at most done state
    → let refused = unchanged state (Err (RefusedRelease (released_at of))) in
    Fits most done (answered ToRetain (option_map_or (retain_from state target) referred refused))
retain_from-fits size_at most done state of target None is h = record { answer = refl; size_at = size_at; after = h }
retain_from-fits size_at most done state of target (Some chunk) is h =
    let sized = referred-sized size_at most done state of chunk h is in
    cond_both (not (is_open state target.0)) _ _ (λ result. Fits most done (answered ToRetain result))
    (λ _. record { answer = refl; size_at = size_at; after = h })
    (λ _. record {
      answer = refl;
      size_at = size_at;
      after = within-replaced size_at most done state (retained target.0 chunk) (record { given = sized.given; size = sized.size }) h;
    })

-- retaining
retain-fits : (size_at : ℕ → ℕ) (most done : ℕ) (state : TreeState) (of : Ref) (target : AllocId) → IsWithin size_at most done state
    → Fits most done (answered ToRetain (retain_result state of target))
unfolding retain_result
retain-fits size_at most done state of target h = retain_from-fits size_at most done state of target (referred_chunk state of) refl h

-- a reference that moves
transfer_from-fits : (size_at : ℕ → ℕ) (most done : ℕ) (state : TreeState) (of : Ref) (target : AllocId) (referred : Option Chunk)
    → referred_chunk state of ≡ referred → IsWithin size_at most done state
    → let refused = unchanged state (Err (RefusedRelease (released_at of))) in
    Fits most done (answered ToTransfer (option_map_or (transfer_from state of.alloc target) referred refused))
transfer_from-fits size_at most done state of target None is h = record { answer = refl; size_at = size_at; after = h }
transfer_from-fits size_at most done state of target (Some chunk) is h =
    let sized = referred-sized size_at most done state of chunk h is in
    let P : CallResult (Result (Ref × Bool) SoloRefused) → Type 0 = λ result. Fits most done (answered ToTransfer result) in
    cond_both (not (is_open state target.0)) _ _ P (λ _. record { answer = refl; size_at = size_at; after = h }) (λ _.
    cond_both (moves_charge of.alloc target chunk) _ _ P
    (λ _. record {
      answer = refl;
      size_at = size_at;
      after = within-replaced size_at most done state (record (retained target.0 chunk) { owner = target })
          (record { given = sized.given; size = sized.size }) h;
    })
    (λ _. record {
      answer = refl;
      size_at = size_at;
      after = within-replaced size_at most done state (retained target.0 chunk) (record { given = sized.given; size = sized.size }) h;
    }))

-- transferring
transfer-fits : (size_at : ℕ → ℕ) (most done : ℕ) (state : TreeState) (of : Ref) (target : AllocId) → IsWithin size_at most done state
    → Fits most done (answered ToTransfer (transfer_result state of target))
unfolding transfer_result
transfer-fits size_at most done state of target h = transfer_from-fits size_at most done state of target (referred_chunk state of) refl h

-- a reference that is given back
release_from-fits : (size_at : ℕ → ℕ) (most done : ℕ) (state : TreeState) (of : Ref) (referred : Option Chunk)
    → referred_chunk state of ≡ referred → IsWithin size_at most done state
    → Fits most done (answered ToRelease (option_map_or (release_from state of) referred (unchanged state (Err (released_at of)))))
release_from-fits size_at most done state of None is h = record { answer = refl; size_at = size_at; after = h }
release_from-fits size_at most done state of (Some chunk) is h =
    let sized = referred-sized size_at most done state of chunk h is in
    let left = released of.alloc.0 chunk in
    record {
      answer = refl;
      size_at = size_at;
      after = cond_both (has_ledger left.owner.0 left) (with_chunk left state.chunks) (without_chunk left.number state.chunks)
          (λ chunks. IsWithin size_at most done (record state { chunks = chunks }))
          (λ _. within-replaced size_at most done state left (record { given = sized.given; size = sized.size }) h)
          (λ _. within-gone size_at most done state left.number h);
    }

-- giving back
release-fits : (size_at : ℕ → ℕ) (most done : ℕ) (state : TreeState) (of : Ref) → IsWithin size_at most done state
    → Fits most done (answered ToRelease (release_result state of))
unfolding release_result
release-fits size_at most done state of h = release_from-fits size_at most done state of (referred_chunk state of) refl h

-- a call that asks for nothing
nothing-more : (most done : ℕ) (result : CallResult CallAnswer) → Fits most done result → Fits most (done + 0) result
nothing-more most done result h = subst (λ n. Fits most n result) (omega arith) h

-- each call of a query
call-fits : (size_at : ℕ → ℕ) (most done : ℕ) (state : TreeState) (call : TreeCall) → IsWithin size_at most done state
    → done + asked_by call ≤ most → IsRoomy most call → Fits most (done + asked_by call) (call_result state call)
call-fits size_at most done state (Child parent reservation limit) h room roomy =
    child-fits size_at most done state parent reservation limit h room roomy
call-fits size_at most done state (Close at) h room roomy = absurd roomy
call-fits size_at most done state (Grant at request) h room roomy = grant-fits size_at most done state at request h room
call-fits size_at most done state (Retain of target) h room roomy =
    nothing-more most done (call_result state (Retain of target)) (retain-fits size_at most done state of target h)
call-fits size_at most done state (Transfer of target) h room roomy =
    nothing-more most done (call_result state (Transfer of target)) (transfer-fits size_at most done state of target h)
call-fits size_at most done state (Release of) h room roomy =
    nothing-more most done (call_result state (Release of)) (release-fits size_at most done state of h)

-- calls one after the other
pub calls-fit : (size_at : ℕ → ℕ) (most done : ℕ) (state : TreeState) (calls : List TreeCall) → IsWithin size_at most done state
    → done + sum_by asked_by calls ≤ most → All (IsRoomy most) calls
    → (batches : List ℕ) → first_full batches (answers_of state calls) ≡ None
calls-fit size_at most done state [] h room roomy [] = refl
calls-fit size_at most done state [] h room roomy (batch ∷ batches) = refl
calls-fit size_at most done state (call ∷ calls) h room roomy [] = refl
calls-fit size_at most done state (call ∷ calls) h room roomy (batch ∷ batches) =
    let all = sum_by-cons asked_by call calls in
    let first = call-fits size_at most done state call h (omega (arith, all, room)) (All-head (IsRoomy most) call calls roomy) in
    let rest = first_full batches (answers_of (after_call state call) calls) in
    ap (λ full. full_or batch full rest) first.answer
    ∙ calls-fit first.size_at most (done + asked_by call) (after_call state call) calls first.after (omega (arith, all, room))
    (All-tail (IsRoomy most) call calls roomy) batches
