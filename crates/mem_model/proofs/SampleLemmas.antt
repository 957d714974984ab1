-- What is held in the samples of a call stays below 2 ^ 63, and so do peaks.
use Rattle.std.proofs.Common.{◌≡◌, ℕ, ◌+◌, ◌<◌, ◌≤◌, ◌^◌, max, List, [], ◌∷◌, not, nat_lt, nat_le, ◌==◌, length, map, filter, refl, arith, inl, inr, All, Option, Some, None, Err}
use Rattle.std.specs.List.{fold}
use Rattle.std.specs.Option.{option_map_or}
use Rattle.std.proofs.lemmas.Bool.{cases_Bool, cond_both, ltb-false}
use Rattle.std.proofs.lemmas.List.Elements.{All-append, All-cons, All-head, All-nil, All-tail}
use Rattle.mem_num.specs.declared.alloc_id.AllocId.{AllocId}
use Rattle.mem_num.specs.declared.buffer_ref.Ref.{Ref}
use Rattle.mem_num.specs.declared.bounds.TheConstants.{LARGEST, MAX_RESERVATION, MOST_ALLOCATORS}
use Rattle.mem_num.specs.declared.solo_refused.SoloRefused.TheVariants.{Released as RefusedRelease}
use Rattle.mem_num.specs.Rounded.{rounded_size}
use Rattle.mem_model.specs.declared.charge.Charge.{Charge}
use Rattle.mem_model.specs.Calls.{TreeCall, Child, Close, Grant, Retain, Transfer, Release, IsBoundedCall, AreBoundedCalls, after_call, call_result, samples_of}
use Rattle.mem_model.specs.Child.{child_result}
use Rattle.mem_model.specs.Chunk.{Chunk, released}
use Rattle.mem_model.specs.Close.{close_result}
use Rattle.mem_model.specs.Force.{force_sample}
use Rattle.mem_model.specs.Grant.{grant_result}
use Rattle.mem_model.specs.LawfulState.{IsLawfulState}
use Rattle.mem_model.specs.PeakSample.{PeakSample, held_in, is_counted, peak_of, request_sample}
use Rattle.mem_model.specs.References.{referred_chunk, released_at}
use Rattle.mem_model.specs.Release.{release_from, release_result}
use Rattle.mem_model.specs.Retain.{retain_from, retain_result}
use Rattle.mem_model.specs.Transfer.{moves_charge, transfer_from, transfer_result}
use Rattle.mem_model.specs.TreeState.{TreeState, CallResult, rounding_at, unchanged, charges_in, is_open, uses_of}
use Rattle.mem_model.proofs.DrawnLemmas.{call_draws}
use Rattle.mem_model.proofs.LawfulBoundLemmas.{held_of-trial}
use Rattle.mem_model.proofs.ReferenceLemmas.{referred_lawful}
use Rattle.mem_model.proofs.CallsLemmas.{lawful-after_call}

-- nobody holds 2 ^ 63 bytes in a sample
abbrev pub IsSmall : PeakSample → Type 0
IsSmall sample = (n : ℕ) → held_in n sample < 2 ^ 63

-- nor in any of some
abbrev pub AreSmall : List PeakSample → Type 0
AreSmall samples = All IsSmall samples

-- the samples of a call are small
abbrev SamplesSmall : {A : Type 0} → CallResult A → Type 0
SamplesSmall result = AreSmall result.samples

no_samples : AreSmall []
no_samples = All-nil IsSmall

one_sample : (sample : PeakSample) → IsSmall sample → AreSmall (sample ∷ [])
one_sample sample small = All-cons IsSmall sample [] small no_samples

-- that of a request
request_small : (state : TreeState) (request : Charge) → IsLawfulState state → state.drawn < 2 ^ 32 → request.amount ≤ MAX_RESERVATION → AreSmall (request_sample state.nodes (charges_in state) request ∷ [])
request_small state request h few small = one_sample (request_sample state.nodes (charges_in state) request) (λ n. held_of-trial state request n h few small)

-- and of a forced charge
force_small : (state : TreeState) (force : Charge) → IsLawfulState state → state.drawn < 2 ^ 32 → force.amount ≤ MAX_RESERVATION → AreSmall (force_sample state force ∷ [])
force_small state force h few small = one_sample (force_sample state force) (λ n. held_of-trial state force n h few small)

child_small : (state : TreeState) (parent : AllocId) (reservation limit : ℕ) → IsLawfulState state → state.drawn < 2 ^ 32 → reservation ≤ MAX_RESERVATION → SamplesSmall (child_result state parent reservation limit)
unfolding child_result
child_small state parent reservation limit h few small =
    cond_both (nat_lt limit reservation) _ _ SamplesSmall (λ _. no_samples) (λ _.
    cond_both (not (is_open state parent.0)) _ _ SamplesSmall (λ _. no_samples) (λ _.
    cond_both (nat_le MOST_ALLOCATORS state.next) _ _ SamplesSmall (λ _. no_samples) (λ _. request_small state (record { at = parent; amount = reservation }) h few small)))

close_small : (state : TreeState) (at : AllocId) → SamplesSmall (close_result state at)
unfolding close_result
close_small state at =
    cond_both (not (is_open state at.0)) _ _ SamplesSmall (λ _. no_samples) (λ _.
    cond_both (nat_lt 0 (uses_of state at.0)) _ _ SamplesSmall (λ _. no_samples) (λ _. no_samples))

grant_small : (state : TreeState) (at : AllocId) (request : ℕ) → IsLawfulState state → state.drawn < 2 ^ 32 → SamplesSmall (grant_result state at request)
unfolding grant_result
grant_small state at request h few =
    let size = rounded_size (rounding_at state at.0) request in
    cond_both (nat_lt LARGEST size) _ _ SamplesSmall (λ _. no_samples) (λ fits.
    cond_both (not (is_open state at.0)) _ _ SamplesSmall (λ _. no_samples) (λ _.
    cond_both (size == 0) _ _ SamplesSmall (λ _. no_samples) (λ _. request_small state (record { at = at; amount = size }) h few (omega (arith, ltb-false LARGEST size fits)))))

retained_small : (state : TreeState) (of : Ref) (target : AllocId) (found : Option Chunk) → SamplesSmall (option_map_or (retain_from state target) found (unchanged state (Err (RefusedRelease (released_at of)))))
retained_small state of target None = no_samples
retained_small state of target (Some chunk) = cond_both (not (is_open state target.0)) _ _ SamplesSmall (λ _. no_samples) (λ _. no_samples)

retain_small : (state : TreeState) (of : Ref) (target : AllocId) → SamplesSmall (retain_result state of target)
unfolding retain_result
retain_small state of target = retained_small state of target (referred_chunk state of)

transferred_small : (state : TreeState) (of : Ref) (target : AllocId) (found : Option Chunk) → IsLawfulState state → state.drawn < 2 ^ 32 → referred_chunk state of ≡ found
    → SamplesSmall (option_map_or (transfer_from state of.alloc target) found (unchanged state (Err (RefusedRelease (released_at of)))))
transferred_small state of target None h few is = no_samples
transferred_small state of target (Some chunk) h few is =
    let lawful = (referred_lawful state of chunk h is).0 in
    cond_both (not (is_open state target.0)) _ _ SamplesSmall (λ _. no_samples) (λ _.
    cond_both (moves_charge of.alloc target chunk) _ _ SamplesSmall (λ _. force_small state (record { at = target; amount = chunk.size }) h few (omega (arith, lawful.few_bytes))) (λ _. no_samples))

transfer_small : (state : TreeState) (of : Ref) (target : AllocId) → IsLawfulState state → state.drawn < 2 ^ 32 → SamplesSmall (transfer_result state of target)
unfolding transfer_result
transfer_small state of target h few = transferred_small state of target (referred_chunk state of) h few refl

released_small : (state : TreeState) (of : Ref) (found : Option Chunk) → IsLawfulState state → state.drawn < 2 ^ 32 → referred_chunk state of ≡ found
    → SamplesSmall (option_map_or (release_from state of) found (unchanged state (Err (released_at of))))
released_small state of None h few is = no_samples
released_small state of (Some chunk) h few is =
    let lawful = (referred_lawful state of chunk h is).0 in
    let left = released of.alloc.0 chunk in
    cond_both (left.owner.0 == chunk.owner.0) _ _ AreSmall (λ _. no_samples) (λ _. force_small state (record { at = left.owner; amount = left.size }) h few (omega (arith, lawful.few_bytes)))

release_small : (state : TreeState) (of : Ref) → IsLawfulState state → state.drawn < 2 ^ 32 → SamplesSmall (release_result state of)
unfolding release_result
release_small state of h few = released_small state of (referred_chunk state of) h few refl

-- those of any call whose numbers are within bounds
pub call_small : (state : TreeState) (call : TreeCall) → IsLawfulState state → state.drawn < 2 ^ 32 → IsBoundedCall call → AreSmall (call_result state call).samples
call_small state (Child parent reservation limit) h few bounds = child_small state parent reservation limit h few bounds.0
call_small state (Close at) h few bounds = close_small state at
call_small state (Grant at request) h few bounds = grant_small state at request h few
call_small state (Retain of target) h few bounds = retain_small state of target
call_small state (Transfer of target) h few bounds = transfer_small state of target h few
call_small state (Release of) h few bounds = release_small state of h few

-- and of calls one after the other, where 32 bits hold as many chunk numbers
pub samples_small : (state : TreeState) (calls : List TreeCall) → IsLawfulState state → state.drawn + length calls < 2 ^ 32 → AreBoundedCalls calls → AreSmall (samples_of state calls)
samples_small state [] h few bounds = no_samples
samples_small state (call ∷ calls) h few bounds =
    let first = All-head IsBoundedCall call calls bounds in
    All-append IsSmall (call_result state call).samples (samples_of (after_call state call) calls) (call_small state call h (omega (arith, few)) first)
    (samples_small (after_call state call) calls (lawful-after_call state call h first) (omega (arith, few, (call_draws state call).chunks)) (All-tail IsBoundedCall call calls bounds))

-- the greatest of some numbers below a bound is below it
fold_max-below : (b start : ℕ) (samples : List PeakSample) (n : ℕ) → start < b → All (λ s. held_in n s < b) samples → fold max start (map (held_in n) (filter (is_counted n) samples)) < b
fold_max-below b start [] n below all = below
fold_max-below b start (s ∷ samples) n below all =
    let here : held_in n s < b = All-head (λ (x : PeakSample). held_in n x < b) s samples all in
    let rest = All-tail (λ (x : PeakSample). held_in n x < b) s samples all in
    elim (cases_Bool (is_counted n s)) [
      | inl counts ↦ rw counts (fold_max-below b (max start (held_in n s)) samples n (omega (arith, below, here)) rest)
      | inr skips ↦ rw skips (fold_max-below b start samples n below rest)
    ]

-- a peak over small samples is small
pub peak_of-small : (samples : List PeakSample) (n : ℕ) → AreSmall samples → peak_of samples n < 2 ^ 63
peak_of-small samples n small = fold_max-below (2 ^ 63) 0 samples n (omega arith) (λ k d within. small k d within n)
