-- References to each chunk, of each allocator: those before a call and those that it gives are those after and those that it takes back.
use Rattle.std.proofs.Common.{◌≡◌, ℕ, ◌+◌, ◌-◌, ◌≤◌, List, [], ◌∷◌, Bool, true, false, not, nat_lt, ◌==◌, refl, sym, ap, ◌∙◌, arith, inl, inr, add-zero, Option, Some, None, Result, Err}
use Rattle.std.specs.List.{find, sum_by}
use Rattle.std.specs.Option.{option_map_or}
use Rattle.std.proofs.lemmas.Bool.{cases_Bool, cases_eq, cases_lt, cond_both, false≢true, eq-eqb, ne_eqb, lt-ltb}
use Rattle.std.proofs.lemmas.List.Sums.{sum_by-cons, sum_by_push}
use Rattle.mem_num.specs.declared.alloc_id.AllocId.{AllocId}
use Rattle.mem_num.specs.declared.buffer_ref.Ref.{Ref}
use Rattle.mem_num.specs.declared.buffer_refused.BufferRefused.{BufferRefused}
use Rattle.mem_num.specs.declared.solo_refused.SoloRefused.TheVariants.{Released as RefusedRelease}
use Rattle.mem_num.specs.Rounded.{rounded_size}
use Rattle.mem_num.specs.declared.bounds.TheConstants.{LARGEST}
use Rattle.mem_num.specs.declared.rounding.Rounding.TheVariants.{Power}
use Rattle.mem_model.specs.declared.charge.Charge.{Charge}
use Rattle.mem_model.specs.declared.tree_node.TreeNode.{TreeNode}
use Rattle.mem_model.specs.Calls.{TreeCall, Child, Close, Grant, Retain, Transfer, Release, after_call}
use Rattle.mem_model.specs.Chunk.{Chunk, has_ledger, new_chunk, released, retained, with_chunk}
use Rattle.mem_model.specs.CountedReferences.{count_on, references_to, one_to, one_given, one_moved, one_taken, given_to, taken_from}
use Rattle.mem_model.specs.Grant.{charge_answer, after_charge, grant_result}
use Rattle.mem_model.specs.LawfulState.{IsLawfulState}
use Rattle.mem_model.specs.Ledgers.{AreInOrder, count_of, with_count}
use Rattle.mem_model.specs.References.{referred_chunk, reference_to, refers_to, released_at}
use Rattle.mem_model.specs.Release.{after_release, release_from, release_result, without_chunk}
use Rattle.mem_model.specs.Request.{refusing_level}
use Rattle.mem_model.specs.Retain.{retain_from, retain_result}
use Rattle.mem_model.specs.Transfer.{moves_charge, transfer_from, transfer_result}
use Rattle.mem_model.specs.TreeState.{TreeState, CallResult, unchanged, is_open, charges_in}
use Rattle.mem_model.proofs.CallBalanceLemmas.{chunks-child, chunks-close}
use Rattle.mem_model.proofs.ChunkSumLemmas.{sum_by-with_chunk, sum_by-without_chunk}
use Rattle.mem_model.proofs.LedgerCountLemmas.{count_of-le-total_of, count_of-with_count, count_of-with_count_other, AreInOrder-with_count}
use Rattle.mem_model.proofs.ReferenceLemmas.{referred_lawful, referred_number, referred_is_numbered}
use Rattle.mem_model.proofs.ReferenceSumLemmas.{total-unowned}

-- a chunk to which an allocator refers once more
count-retained : (chunk : Chunk) (target : AllocId) (k n : ℕ) → AreInOrder chunk.ledgers → count_on k n (retained target.0 chunk) ≡ count_on k n chunk + one_to k n (reference_to chunk target)
count-retained chunk target k n order =
    let more = count_of chunk.ledgers target.0 + 1 in
    elim (cases_Bool (chunk.number == k)) [
      | inl same ↦ elim (cases_eq target.0 n) [
        | inl own ↦ rw (same, eq-eqb target.0 n own) (omega (arith, count_of-with_count chunk.ledgers target.0 more order, ap (count_of chunk.ledgers) own, ap (count_of (with_count chunk.ledgers target.0 more)) own))
        | inr other ↦ rw (same, ne_eqb target.0 n other) (count_of-with_count_other chunk.ledgers target.0 more n order (λ e. other (sym e)) ∙ sym (add-zero (count_of chunk.ledgers n)))
      ]
      | inr apart ↦ rw apart refl
    ]

-- and once less
count-released : (chunk : Chunk) (of : Ref) (k n : ℕ) → AreInOrder chunk.ledgers → chunk.number ≡ of.chunk → 1 ≤ count_of chunk.ledgers of.alloc.0
    → count_on k n chunk ≡ count_on k n (released of.alloc.0 chunk) + one_to k n of
count-released chunk of k n order number some =
    let less = count_of chunk.ledgers of.alloc.0 - 1 in
    let same_number : (of.chunk == k) ≡ (chunk.number == k) = ap (λ m. m == k) (sym number) in
    elim (cases_Bool (chunk.number == k)) [
      | inl same ↦ elim (cases_eq of.alloc.0 n) [
        | inl own ↦ rw (same_number, same, eq-eqb of.alloc.0 n own) (omega (arith, some, count_of-with_count chunk.ledgers of.alloc.0 less order, ap (count_of chunk.ledgers) own, ap (count_of (with_count chunk.ledgers of.alloc.0 less)) own))
        | inr other ↦ rw (same_number, same, ne_eqb of.alloc.0 n other) (sym (count_of-with_count_other chunk.ledgers of.alloc.0 less n order (λ e. other (sym e))) ∙ sym (add-zero (count_of (with_count chunk.ledgers of.alloc.0 less) n)))
      ]
      | inr apart ↦ rw (same_number, apart) refl
    ]

-- a chunk that counts so many more, in its own place
counted-more : (state : TreeState) (of : Ref) (chunk new : Chunk) (k n more : ℕ) → IsLawfulState state → referred_chunk state of ≡ Some chunk → new.number ≡ chunk.number
    → count_on k n new ≡ count_on k n chunk + more → references_to state k n + more ≡ references_to (record state { chunks = with_chunk new state.chunks }) k n
counted-more state of chunk new k n more h is number counts =
    omega (arith, counts, sum_by-with_chunk (count_on k n) of.chunk new chunk state.chunks (number ∙ referred_number state of chunk h is) h.in_order (referred_is_numbered state of chunk h is))

-- a chunk without references counts for nobody
count-none : (chunk : Chunk) (k n : ℕ) → count_of chunk.ledgers n ≡ 0 → count_on k n chunk ≡ 0
count-none chunk k n none = cond_both (chunk.number == k) (count_of chunk.ledgers n) 0 (λ c. c ≡ 0) (λ _. none) (λ _. refl)

-- the chunks as a release leaves them count the reference no more
counted-less : (state : TreeState) (of : Ref) (chunk : Chunk) (k n : ℕ) → IsLawfulState state → referred_chunk state of ≡ Some chunk
    → references_to state k n ≡ references_to (record state { chunks = after_release (released of.alloc.0 chunk) state.chunks }) k n + one_to k n of
counted-less state of chunk k n h is =
    let left = released of.alloc.0 chunk in
    let both = referred_lawful state of chunk h is in
    let number : chunk.number ≡ of.chunk = referred_number state of chunk h is in
    let less = count-released chunk of k n both.0.in_order number both.1 in
    let order : AreInOrder left.ledgers = AreInOrder-with_count chunk.ledgers of.alloc.0 (count_of chunk.ledgers of.alloc.0 - 1) both.0.in_order in
    cond_both (has_ledger left.owner.0 left) (with_chunk left state.chunks) (without_chunk left.number state.chunks) (λ chunks. references_to state k n ≡ references_to (record state { chunks = chunks }) k n + one_to k n of)
    (λ _. omega (arith, less, sum_by-with_chunk (count_on k n) of.chunk left chunk state.chunks number h.in_order (referred_is_numbered state of chunk h is)))
    (λ none. omega (
      arith,
      less,
      count-none left k n (omega (arith, count_of-le-total_of left.ledgers n, total-unowned chunk.owner left.ledgers order.counted none)),
      ap (λ m. sum_by (count_on k n) (without_chunk m state.chunks)) number,
      sum_by-without_chunk (count_on k n) of.chunk chunk state.chunks h.in_order (referred_is_numbered state of chunk h is),
    ))

-- what a request for a buffer gives is counted in the state that it leaves
abbrev GrantsTo : TreeState → ℕ → ℕ → CallResult (Result Ref BufferRefused) → Type 0
GrantsTo state k n result = references_to state k n + one_given k n result.answer ≡ references_to result.state k n

-- a new chunk has the reference of its owner
count-new : (number size : ℕ) (at : AllocId) (k n : ℕ) → count_on k n (new_chunk number size at) ≡ one_to k n (record { chunk = number; alloc = at; size = size })
count-new number size at k n = elim (cases_Bool (number == k)) [
  | inl same ↦ elim (cases_Bool (at.0 == n)) [ inl own ↦ rw (same, own) refl | inr other ↦ rw (same, other) refl ]
  | inr apart ↦ rw apart refl
]

granted-charge : (state : TreeState) (request : Charge) (refusing : Option TreeNode) (k n : ℕ) → references_to state k n + one_given k n (charge_answer state request refusing) ≡ references_to (after_charge state request refusing) k n
granted-charge state request None k n =
    omega (arith, count-new (state.drawn + 1) request.amount request.at k n, sum_by_push (count_on k n) state.chunks (new_chunk (state.drawn + 1) request.amount request.at))
granted-charge state request (Some level) k n = add-zero (references_to state k n)

granted-grant : (state : TreeState) (at : AllocId) (request k n : ℕ) → 1 ≤ k → GrantsTo state k n (grant_result state at request)
unfolding grant_result
granted-grant state at request k n some =
    let size = rounded_size Power request in
    let none : (0 == k) ≡ false = ne_eqb 0 k (λ e. omega (arith, some, e)) in
    cond_both (nat_lt LARGEST size) _ _ (GrantsTo state k n) (λ _. add-zero (references_to state k n)) (λ _.
    cond_both (not (is_open state at.0)) _ _ (GrantsTo state k n) (λ _. add-zero (references_to state k n)) (λ _.
    cond_both (size == 0) _ _ (GrantsTo state k n) (λ _. rw none (add-zero (references_to state k n))) (λ _.
    granted-charge state (record { at = at; amount = size }) (refusing_level state.nodes (charges_in state) (record { at = at; amount = size })) k n)))

-- retaining a chunk that may be found
retained-from : (state : TreeState) (of : Ref) (target : AllocId) (found : Option Chunk) (k n : ℕ) → IsLawfulState state → referred_chunk state of ≡ found
    → let result = option_map_or (retain_from state target) found (unchanged state (Err (RefusedRelease (released_at of)))) in
    references_to state k n + one_given k n result.answer ≡ references_to result.state k n
retained-from state of target None k n h is = add-zero (references_to state k n)
retained-from state of target (Some chunk) k n h is =
    let more = counted-more state of chunk (retained target.0 chunk) k n (one_to k n (reference_to chunk target)) h is refl (count-retained chunk target k n (referred_lawful state of chunk h is).0.in_order) in
    cond_both (not (is_open state target.0)) _ _ (λ (result : CallResult (Result Ref _)). references_to state k n + one_given k n result.answer ≡ references_to result.state k n) (λ _. add-zero (references_to state k n)) (λ _. more)

counted-retain : (state : TreeState) (of : Ref) (target : AllocId) (k n : ℕ) → IsLawfulState state
    → references_to state k n + one_given k n (retain_result state of target).answer ≡ references_to (retain_result state of target).state k n
unfolding retain_result
counted-retain state of target k n h = retained-from state of target (referred_chunk state of) k n h refl

-- and transferring one
transferred-from : (state : TreeState) (of : Ref) (target : AllocId) (found : Option Chunk) (k n : ℕ) → IsLawfulState state → referred_chunk state of ≡ found
    → let result = option_map_or (transfer_from state of.alloc target) found (unchanged state (Err (RefusedRelease (released_at of)))) in
    references_to state k n + one_moved k n result.answer ≡ references_to result.state k n
transferred-from state of target None k n h is = add-zero (references_to state k n)
transferred-from state of target (Some chunk) k n h is =
    let counts = count-retained chunk target k n (referred_lawful state of chunk h is).0.in_order in
    let one = one_to k n (reference_to chunk target) in
    cond_both (not (is_open state target.0)) _ _ (λ (result : CallResult (Result (Ref × Bool) _)). references_to state k n + one_moved k n result.answer ≡ references_to result.state k n) (λ _. add-zero (references_to state k n)) (λ _.
    cond_both (moves_charge of.alloc target chunk) _ _ (λ (result : CallResult (Result (Ref × Bool) _)). references_to state k n + one_moved k n result.answer ≡ references_to result.state k n)
    (λ _. counted-more state of chunk (record (retained target.0 chunk) { owner = target }) k n one h is refl counts)
    (λ _. counted-more state of chunk (retained target.0 chunk) k n one h is refl counts))

counted-transfer : (state : TreeState) (of : Ref) (target : AllocId) (k n : ℕ) → IsLawfulState state
    → references_to state k n + one_moved k n (transfer_result state of target).answer ≡ references_to (transfer_result state of target).state k n
unfolding transfer_result
counted-transfer state of target k n h = transferred-from state of target (referred_chunk state of) k n h refl

-- and giving one back
released-from : (state : TreeState) (of : Ref) (found : Option Chunk) (k n : ℕ) → IsLawfulState state → referred_chunk state of ≡ found
    → let result = option_map_or (release_from state of) found (unchanged state (Err (released_at of))) in
    references_to state k n ≡ references_to result.state k n + one_taken k n of result.answer
released-from state of None k n h is = sym (add-zero (references_to state k n))
released-from state of (Some chunk) k n h is = counted-less state of chunk k n h is

counted-release : (state : TreeState) (of : Ref) (k n : ℕ) → IsLawfulState state
    → references_to state k n ≡ references_to (release_result state of).state k n + one_taken k n of (release_result state of).answer
unfolding release_result
counted-release state of k n h = released-from state of (referred_chunk state of) k n h refl

-- the balance of the references of an allocator to a chunk, of each call
pub counted-call : (state : TreeState) (call : TreeCall) (k n : ℕ) → IsLawfulState state → 1 ≤ k
    → references_to state k n + given_to state call k n ≡ references_to (after_call state call) k n + taken_from state call k n
counted-call state (Child parent reservation limit) k n h some = ap (λ chunks. sum_by (count_on k n) chunks + 0) (sym (chunks-child state parent reservation limit))
counted-call state (Close at) k n h some = ap (λ chunks. sum_by (count_on k n) chunks + 0) (sym (chunks-close state at))
counted-call state (Grant at request) k n h some = omega (arith, granted-grant state at request k n some)
counted-call state (Retain of target) k n h some = omega (arith, counted-retain state of target k n h)
counted-call state (Transfer of target) k n h some = omega (arith, counted-transfer state of target k n h)
counted-call state (Release of) k n h some = omega (arith, counted-release state of k n h)

-- where something is counted there is something that counts
find_counted : {X : Type 0} (f : X → ℕ) (test : X → Bool) (xs : List X) → ((x : X) → 1 ≤ f x → test x ≡ true) → 1 ≤ sum_by f xs → (x : X) × (find test xs ≡ Some x)
find_counted f test [] counts some = absurd (omega (arith, some))
find_counted f test (x ∷ xs) counts some = elim (cases_Bool (test x)) [
  | inl pass ↦ (x, rw pass refl)
  | inr fail ↦ (
      let none : f x ≡ 0 = elim (cases_lt (f x) 1) [ inl less ↦ omega arith | inr more ↦ absurd (false≢true (sym fail ∙ counts x more)) ] in
      let later = find_counted f test xs counts (omega (arith, some, none, sum_by-cons f x xs)) in
      (later.0, rw fail later.1))
]

-- a reference that is counted is to a live chunk, on a ledger that is there
pub referred-counted : (state : TreeState) (of : Ref) → 1 ≤ references_to state of.chunk of.alloc.0 → (chunk : Chunk) × (referred_chunk state of ≡ Some chunk)
referred-counted state of some = find_counted (count_on of.chunk of.alloc.0) (refers_to of) state.chunks
    (λ chunk counts. elim (cases_Bool (chunk.number == of.chunk)) [
      | inl same ↦ (let counted : 1 ≤ count_of chunk.ledgers of.alloc.0 = rw same at counts in rw (same, lt-ltb 0 (count_of chunk.ledgers of.alloc.0) (omega (arith, counted))) refl)
      | inr apart ↦ absurd (let none : 1 ≤ 0 = rw apart at counts in omega (arith, none))
    ]) some
