-- The balance of references of each call: those before and those given are those after and those given back.
use Rattle.std.proofs.Common.{◌≡◌, ℕ, ◌+◌, ◌≤◌, not, nat_lt, nat_le, ◌==◌, refl, sym, ap, arith, add-zero, Option, Some, None, Result, Err}
use Rattle.std.specs.List.{sum_by}
use Rattle.std.specs.Option.{option_map_or}
use Rattle.std.proofs.lemmas.Bool.{cond_both, cond-false, ne_eqb, eqb-false}
use Rattle.std.proofs.lemmas.List.Sums.{sum_by_push}
use Rattle.mem_num.specs.declared.alloc_id.AllocId.{AllocId}
use Rattle.mem_num.specs.declared.buffer_ref.Ref.{Ref}
use Rattle.mem_num.specs.declared.solo_refused.SoloRefused.TheVariants.{Released as RefusedRelease}
use Rattle.mem_num.specs.Rounded.{rounded_size}
use Rattle.mem_num.specs.declared.bounds.TheConstants.{LARGEST, MOST_ALLOCATORS}
use Rattle.mem_num.specs.declared.rounding.Rounding.TheVariants.{Power}
use Rattle.mem_num.specs.declared.buffer_refused.BufferRefused.{BufferRefused}
use Rattle.mem_model.specs.declared.charge.Charge.{Charge}
use Rattle.mem_model.specs.declared.tree_node.TreeNode.{TreeNode}
use Rattle.mem_model.specs.Calls.{TreeCall, Child, Close, Grant, Retain, Transfer, Release, after_call, one_if_ok, granted_by, given_by, returned_by, references_in}
use Rattle.mem_model.specs.Chunk.{Chunk, new_chunk, retained}
use Rattle.mem_model.specs.LawfulState.{IsLawfulState}
use Rattle.mem_model.specs.References.{referred_chunk, released_at}
use Rattle.mem_model.specs.Release.{release_from, release_result}
use Rattle.mem_model.specs.Child.{child_node, after_child, child_result}
use Rattle.mem_model.specs.Close.{close_result}
use Rattle.mem_model.specs.Grant.{charge_answer, after_charge, grant_result}
use Rattle.mem_model.specs.Request.{refusing_level}
use Rattle.mem_model.specs.Retain.{retain_from, retain_result}
use Rattle.mem_model.specs.Transfer.{moves_charge, transfer_from, transfer_result}
use Rattle.mem_model.specs.TreeState.{TreeState, CallResult, unchanged, is_open, charges_in, uses_of}
use Rattle.mem_model.proofs.ReferenceLemmas.{referred_lawful}
use Rattle.mem_model.proofs.ReferenceSumLemmas.{total_on, references-more, total-retained, references-less}

-- a call leaves the chunks as they were
abbrev pub KeepsChunks : {A : Type 0} → TreeState → CallResult A → Type 0
KeepsChunks state result = result.state.chunks ≡ state.chunks

-- the child that a call makes, if any, leaves them
chunks-after_child : (state : TreeState) (child : TreeNode) (refusing : Option TreeNode) → (after_child state child refusing).chunks ≡ state.chunks
chunks-after_child state child None = refl
chunks-after_child state child (Some level) = refl

-- so making a child does
pub chunks-child : (state : TreeState) (parent : AllocId) (reservation limit : ℕ) → KeepsChunks state (child_result state parent reservation limit)
unfolding child_result
chunks-child state parent reservation limit =
    cond_both (nat_lt limit reservation) _ _ (KeepsChunks state) (λ _. refl) (λ _.
    cond_both (not (is_open state parent.0)) _ _ (KeepsChunks state) (λ _. refl) (λ _.
    cond_both (nat_le MOST_ALLOCATORS state.next) _ _ (KeepsChunks state) (λ _. refl) (λ _.
    chunks-after_child state (child_node state parent reservation limit) (refusing_level state.nodes (charges_in state) (record { at = parent; amount = reservation })))))

-- and closing
pub chunks-close : (state : TreeState) (at : AllocId) → KeepsChunks state (close_result state at)
unfolding close_result
chunks-close state at =
    cond_both (not (is_open state at.0)) _ _ (KeepsChunks state) (λ _. refl) (λ _.
    cond_both (nat_lt 0 (uses_of state at.0)) _ _ (KeepsChunks state) (λ _. refl) (λ _. refl))

-- as many references more as a request for a buffer is granted
abbrev GrantsReferences : TreeState → CallResult (Result Ref BufferRefused) → Type 0
GrantsReferences state result = references_in state + granted_by result.answer ≡ references_in result.state

-- a charge makes a chunk with one reference, whichever level refuses it
granted-charge : (state : TreeState) (request : Charge) (refusing : Option TreeNode) → 1 ≤ request.amount → references_in state + granted_by (charge_answer state request refusing) ≡ references_in (after_charge state request refusing)
granted-charge state request None some =
    let one : granted_by (charge_answer state request None) ≡ 1 = cond-false (request.amount == 0) 0 1 (ne_eqb request.amount 0 (λ e. omega (arith, some, e))) in
    omega (arith, one, sum_by_push total_on state.chunks (new_chunk (state.drawn + 1) request.amount request.at))
granted-charge state request (Some level) some = add-zero (references_in state)

-- so does a request
granted-grant : (state : TreeState) (at : AllocId) (request : ℕ) → GrantsReferences state (grant_result state at request)
unfolding grant_result
granted-grant state at request =
    let size = rounded_size Power request in
    cond_both (nat_lt LARGEST size) _ _ (GrantsReferences state) (λ _. add-zero (references_in state)) (λ _.
    cond_both (not (is_open state at.0)) _ _ (GrantsReferences state) (λ _. add-zero (references_in state)) (λ _.
    cond_both (size == 0) _ _ (GrantsReferences state) (λ _. add-zero (references_in state)) (λ some.
    granted-charge state (record { at = at; amount = size }) (refusing_level state.nodes (charges_in state) (record { at = at; amount = size })) (omega (arith, eqb-false size 0 some)))))

-- one reference more where a call answers Ok
abbrev AddsReference : {A E : Type 0} → TreeState → CallResult (Result A E) → Type 0
AddsReference state result = references_in state + one_if_ok result.answer ≡ references_in result.state

-- retaining a chunk that may be found adds one
added-retain_from : (state : TreeState) (of : Ref) (target : AllocId) (found : Option Chunk) → IsLawfulState state → referred_chunk state of ≡ found → AddsReference state (option_map_or (retain_from state target) found (unchanged state (Err (RefusedRelease (released_at of)))))
added-retain_from state of target None h is = add-zero (references_in state)
added-retain_from state of target (Some chunk) h is =
    let more = references-more state of chunk (retained target.0 chunk) h is refl (total-retained state chunk target.0 (referred_lawful state of chunk h is).0) in
    cond_both (not (is_open state target.0)) _ _ (AddsReference state) (λ _. add-zero (references_in state)) (λ _. more)

-- so does the call
added-retain : (state : TreeState) (of : Ref) (target : AllocId) → IsLawfulState state → AddsReference state (retain_result state of target)
unfolding retain_result
added-retain state of target h = added-retain_from state of target (referred_chunk state of) h refl

-- transferring one adds one, whether its charge moves or not
added-transfer_from : (state : TreeState) (of : Ref) (target : AllocId) (found : Option Chunk) → IsLawfulState state → referred_chunk state of ≡ found → AddsReference state (option_map_or (transfer_from state of.alloc target) found (unchanged state (Err (RefusedRelease (released_at of)))))
added-transfer_from state of target None h is = add-zero (references_in state)
added-transfer_from state of target (Some chunk) h is =
    let total = total-retained state chunk target.0 (referred_lawful state of chunk h is).0 in
    cond_both (not (is_open state target.0)) _ _ (AddsReference state) (λ _. add-zero (references_in state)) (λ _.
    cond_both (moves_charge of.alloc target chunk) _ _ (AddsReference state)
    (λ _. references-more state of chunk (record (retained target.0 chunk) { owner = target }) h is refl total)
    (λ _. references-more state of chunk (retained target.0 chunk) h is refl total))

-- so does the call
added-transfer : (state : TreeState) (of : Ref) (target : AllocId) → IsLawfulState state → AddsReference state (transfer_result state of target)
unfolding transfer_result
added-transfer state of target h = added-transfer_from state of target (referred_chunk state of) h refl

-- one reference less where a call answers Ok
abbrev RemovesReference : {A E : Type 0} → TreeState → CallResult (Result A E) → Type 0
RemovesReference state result = references_in state ≡ references_in result.state + one_if_ok result.answer

-- giving back a reference to a chunk that may be found removes one
removed-release_from : (state : TreeState) (of : Ref) (found : Option Chunk) → IsLawfulState state → referred_chunk state of ≡ found → RemovesReference state (option_map_or (release_from state of) found (unchanged state (Err (released_at of))))
removed-release_from state of None h is = sym (add-zero (references_in state))
removed-release_from state of (Some chunk) h is = references-less state of chunk h is

-- so does the call
removed-release : (state : TreeState) (of : Ref) → IsLawfulState state → RemovesReference state (release_result state of)
unfolding release_result
removed-release state of h = removed-release_from state of (referred_chunk state of) h refl

-- the balance of references of each call
pub references-call : (state : TreeState) (call : TreeCall) → IsLawfulState state → references_in state + given_by state call ≡ references_in (after_call state call) + returned_by state call
references-call state (Child parent reservation limit) h = ap (λ chunks. sum_by total_on chunks + 0) (sym (chunks-child state parent reservation limit))
references-call state (Close at) h = ap (λ chunks. sum_by total_on chunks + 0) (sym (chunks-close state at))
references-call state (Grant at request) h = omega (arith, granted-grant state at request)
references-call state (Retain of target) h = omega (arith, added-retain state of target h)
references-call state (Transfer of target) h = omega (arith, added-transfer state of target h)
references-call state (Release of) h = omega (arith, removed-release state of h)
