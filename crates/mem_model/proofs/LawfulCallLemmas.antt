-- Each call keeps the law of the tree's state.
use Rattle.std.proofs.Common.{◌≡◌, ℕ, ◌<◌, ◌≤◌, true, not, ◌==◌, nat_lt, nat_le, arith, Option, Some, None}
use Rattle.std.proofs.lemmas.Bool.{cond_both, not-false, eqb-false, ltb-false, leb-false}
use Rattle.mem_num.specs.Rounded.{rounded_size}
use Rattle.mem_num.specs.declared.bounds.TheConstants.{LARGEST, MAX_LIMIT, MAX_RESERVATION, MOST_ALLOCATORS}
use Rattle.mem_num.specs.declared.rounding.Rounding.TheVariants.{Power}
use Rattle.mem_num.specs.declared.alloc_id.AllocId.{AllocId}
use Rattle.mem_model.specs.declared.charge.Charge.{Charge}
use Rattle.mem_model.specs.declared.tree_node.TreeNode.{TreeNode}
use Rattle.mem_model.specs.Request.{refusing_level}
use Rattle.mem_model.specs.TreeState.{TreeState, CallResult, charges_in, is_open, uses_of}
use Rattle.mem_model.specs.Grant.{after_charge, grant_result}
use Rattle.mem_model.specs.Child.{child_node, after_child, child_result}
use Rattle.mem_model.specs.Close.{close_result}
use Rattle.mem_model.specs.LawfulState.{IsLawfulState}
use Rattle.mem_model.proofs.LawfulLemmas.{lawful-spend_chunk, lawful-push_chunk, lawful-spend_number, lawful-push_child}
use Rattle.mem_model.proofs.LawfulCloseLemmas.{lawful-close}

-- what a call leaves is lawful
abbrev LeavesLawful : {A : Type 0} → CallResult A → Type 0
LeavesLawful result = IsLawfulState result.state

-- a charge keeps the law, whichever level refuses it
lawful-after_charge : (state : TreeState) (request : Charge) (refusing : Option TreeNode) → IsLawfulState state → 1 ≤ request.amount → request.amount ≤ LARGEST → is_open state request.at.0 ≡ true → IsLawfulState (after_charge state request refusing)
lawful-after_charge state request None h some few open_ = lawful-push_chunk state request.amount request.at h some few open_
lawful-after_charge state request (Some level) h some few open_ = lawful-spend_chunk state h

-- a request for a buffer keeps the law
pub lawful-grant : (state : TreeState) (at : AllocId) (request : ℕ) → IsLawfulState state → IsLawfulState (grant_result state at request).state
unfolding grant_result
lawful-grant state at request h =
    let size = rounded_size Power request in
    cond_both (nat_lt LARGEST size) _ _ LeavesLawful (λ _. h) (λ fits.
    cond_both (not (is_open state at.0)) _ _ LeavesLawful (λ _. h) (λ open_.
    cond_both (size == 0) _ _ LeavesLawful (λ _. h) (λ some.
    lawful-after_charge state (record { at = at; amount = size }) (refusing_level state.nodes (charges_in state) (record { at = at; amount = size })) h
    (omega (arith, eqb-false size 0 some)) (omega (arith, ltb-false LARGEST size fits)) (not-false (is_open state at.0) open_))))

-- and so does a child
lawful-after_child : (state : TreeState) (parent : AllocId) (reservation limit : ℕ) (refusing : Option TreeNode) → IsLawfulState state → is_open state parent.0 ≡ true → state.next < MOST_ALLOCATORS → reservation ≤ limit → reservation ≤ MAX_RESERVATION → limit ≤ MAX_LIMIT
    → IsLawfulState (after_child state (child_node state parent reservation limit) refusing)
lawful-after_child state parent reservation limit None h open_ room reserves small limited = lawful-push_child state parent reservation limit h open_ room reserves small limited
lawful-after_child state parent reservation limit (Some level) h open_ room reserves small limited = lawful-spend_number state h

-- making a child keeps the law
pub lawful-child : (state : TreeState) (parent : AllocId) (reservation limit : ℕ) → IsLawfulState state → reservation ≤ MAX_RESERVATION → limit ≤ MAX_LIMIT → IsLawfulState (child_result state parent reservation limit).state
unfolding child_result
lawful-child state parent reservation limit h small limited =
    cond_both (nat_lt limit reservation) _ _ LeavesLawful (λ _. h) (λ reserves.
    cond_both (not (is_open state parent.0)) _ _ LeavesLawful (λ _. h) (λ open_.
    cond_both (nat_le MOST_ALLOCATORS state.next) _ _ LeavesLawful (λ _. lawful-spend_number state h) (λ room.
    lawful-after_child state parent reservation limit (refusing_level state.nodes (charges_in state) (record { at = parent; amount = reservation })) h
    (not-false (is_open state parent.0) open_) (leb-false MOST_ALLOCATORS state.next room) (ltb-false limit reservation reserves) small limited)))

-- closing an allocator keeps the law
pub lawful-close_call : (state : TreeState) (at : AllocId) → IsLawfulState state → IsLawfulState (close_result state at).state
unfolding close_result
lawful-close_call state at h =
    cond_both (not (is_open state at.0)) _ _ LeavesLawful (λ _. h) (λ open_.
    cond_both (nat_lt 0 (uses_of state at.0)) _ _ LeavesLawful (λ _. h) (λ unused.
    lawful-close state at.0 h (omega (arith, ltb-false 0 (uses_of state at.0) unused))))
