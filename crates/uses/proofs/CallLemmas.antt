-- What the definitions of calls tell of their answers.
use Rattle.std.proofs.Common.{◌≡◌, ◌≢◌, ℕ, not, ◌==◌, ◌&&◌, ◌||◌, Bool, false, nat_lt, nat_le, List, [], ◌∷◌, Option, Some, None, Result}
use Rattle.std.proofs.Common.{Ok, Err, IfOk, OnOk, OnErr, refl, sym, ap, subst, ◌∙◌}
use Rattle.std.specs.List.{list_any}
use Rattle.std.specs.Option.{option_map_or}
use Rattle.std.proofs.lemmas.Bool.{cond_both}
use Rattle.mem_num.specs.Rounded.{rounded_size}
use Rattle.mem_num.specs.declared.bounds.TheConstants.{LARGEST, MOST_ALLOCATORS}
use Rattle.mem_num.specs.declared.alloc_id.AllocId.{AllocId}
use Rattle.mem_num.specs.declared.buffer_ref.Ref.{Ref}
use Rattle.mem_num.specs.declared.buffer_refused.BufferRefused.{BufferRefused}
use Rattle.mem_num.specs.declared.buffer_refused.BufferRefused.TheVariants.{NoMemory}
use Rattle.mem_num.specs.declared.child_refused.ChildRefused.{ChildRefused}
use Rattle.mem_num.specs.declared.not_closed.NotClosed.{NotClosed}
use Rattle.mem_num.specs.declared.solo_refused.SoloRefused.{SoloRefused}
use Rattle.mem_num.specs.declared.solo_refused.SoloRefused.TheVariants.{Released}
use Rattle.mem_model.specs.declared.charge.Charge.{Charge}
use Rattle.mem_model.specs.declared.tree_node.TreeNode.{TreeNode}
use Rattle.mem_model.specs.Child.{child_answer, child_result}
use Rattle.mem_model.specs.Chunk.{Chunk}
use Rattle.mem_model.specs.Close.{close_result, closed_where, with_closed}
use Rattle.mem_model.specs.Grant.{charge_answer, grant_result}
use Rattle.mem_model.specs.References.{referred_chunk, released_at}
use Rattle.mem_model.specs.Request.{refusing_level}
use Rattle.mem_model.specs.Transfer.{moves_charge, transfer_from, transfer_result}
use Rattle.mem_model.specs.TreeState.{TreeState, CallResult, rounding_at, unchanged, charges_in, is_open, uses_of}

-- a call that gives a reference gives one of the target, and one that is refused changes nothing
record PassesOrRefuses (state : TreeState) (target : AllocId) (call : CallResult (Result (Ref × Bool) SoloRefused)) : Type 0 where
  pub gives : IfOk call.answer (λ passed. passed.0.alloc ≡ target)
  pub refuses : OnErr call.answer (call.state ≡ state)

-- so does a transfer of a chunk
passes-from : (state : TreeState) (source target : AllocId) (chunk : Chunk)
    → PassesOrRefuses state target (transfer_from state source target chunk)
passes-from state source target chunk =
    cond_both (not (is_open state target.0)) _ _ (PassesOrRefuses state target) (λ _. record { gives = tt; refuses = refl })
    (λ _. cond_both (moves_charge source target chunk) _ _ (PassesOrRefuses state target)
    (λ _. record { gives = refl; refuses = tt }) (λ _. record { gives = refl; refuses = tt }))

-- and one of a chunk that may be found
passes-found : (state : TreeState) (of : Ref) (target : AllocId) (found : Option Chunk)
    → PassesOrRefuses state target (option_map_or (transfer_from state of.alloc target) found
    (unchanged state (Err (Released (released_at of)))))
passes-found state of target None = record { gives = tt; refuses = refl }
passes-found state of target (Some chunk) = passes-from state of.alloc target chunk

-- so does the call
passes : (state : TreeState) (of : Ref) (target : AllocId) → PassesOrRefuses state target (transfer_result state of target)
unfolding transfer_result
passes state of target = passes-found state of target (referred_chunk state of)

-- a transfer that is answered Ok gives a reference of its target
pub transfer_gives : (state : TreeState) (of : Ref) (target : AllocId) (passed : Ref) (fits : Bool)
    → (transfer_result state of target).answer ≡ Ok (passed, fits) → passed.alloc ≡ target
transfer_gives state of target passed fits told = subst (λ answer. IfOk answer (λ passed. passed.0.alloc ≡ target)) told
    (passes state of target).gives

-- a refused one leaves the state as it was
pub transfer_refused : (state : TreeState) (of : Ref) (target : AllocId) (refused : SoloRefused)
    → (transfer_result state of target).answer ≡ Err refused → (transfer_result state of target).state ≡ state
transfer_refused state of target refused told = subst (λ answer. OnErr answer ((transfer_result state of target).state ≡ state)) told
    (passes state of target).refuses

-- a charge that no level refuses gives a reference of its allocator
charge-at : (state : TreeState) (request : Charge) (level : Option TreeNode)
    → IfOk (charge_answer state request level) (λ given. given.alloc ≡ request.at)
charge-at state request None = refl
charge-at state request (Some level) = tt

-- so does a request for a buffer
grant-at : (state : TreeState) (at : AllocId) (request : ℕ) → IfOk (grant_result state at request).answer (λ given. given.alloc ≡ at)
unfolding grant_result
grant-at state at request =
    let size = rounded_size (rounding_at state at.0) request in
    let IsAt : CallResult (Result Ref BufferRefused) → Type 0 = λ call. IfOk call.answer (λ given. given.alloc ≡ at) in
    cond_both (nat_lt LARGEST size) _ _ IsAt (λ _. tt) (λ _.
    cond_both (not (is_open state at.0)) _ _ IsAt (λ _. tt) (λ _.
    cond_both (size == 0) _ _ IsAt (λ _. refl)
    (λ _. charge-at state (record { at = at; amount = size })
    (refusing_level state.nodes (charges_in state) (record { at = at; amount = size })))))

-- an answer that is that of the definition unless memory ran out gives a reference of the allocator that was asked
pub grant_gives : (state : TreeState) (at : AllocId) (request : ℕ) (answer : Result Ref BufferRefused)
    → (answer ≢ Err NoMemory → answer ≡ (grant_result state at request).answer) → IfOk answer (λ given. given.alloc ≡ at)
grant_gives state at request (Ok given) told =
    subst (λ answer. IfOk answer (λ given. given.alloc ≡ at)) (sym (told (λ same. absurd cc))) (grant-at state at request)
grant_gives state at request (Err refused) told = tt

-- a child whose reservation no level refuses has the number that stood next
child-number : (state : TreeState) (request : Charge) (level : Option TreeNode)
    → IfOk (child_answer state request level) (λ child. child.0 ≡ state.next)
child-number state request None = refl
child-number state request (Some level) = tt

-- so has any that is made
pub child_gives : (state : TreeState) (parent : AllocId) (reservation limit : ℕ)
    → IfOk (child_result state parent reservation limit).answer (λ child. child.0 ≡ state.next)
unfolding child_result
child_gives state parent reservation limit =
    let HasNext : CallResult (Result AllocId ChildRefused) → Type 0 = λ call. IfOk call.answer (λ child. child.0 ≡ state.next) in
    cond_both (nat_lt limit reservation) _ _ HasNext (λ _. tt) (λ _.
    cond_both (not (is_open state parent.0)) _ _ HasNext (λ _. tt) (λ _.
    cond_both (nat_le MOST_ALLOCATORS state.next) _ _ HasNext (λ _. tt)
    (λ _. child-number state (record { at = parent; amount = reservation })
    (refusing_level state.nodes (charges_in state) (record { at = parent; amount = reservation })))))

-- whether an allocator is the open one of a number
abbrev is_open_at : ℕ → TreeNode → Bool
is_open_at n node = (node.number.0 == n) && not node.closed

-- a closed one isn't
closed-node : (n : ℕ) (node : TreeNode) → is_open_at n (closed_where n node) ≡ false
closed-node n node = cond_both (node.number.0 == n) _ _ (λ found. is_open_at n found ≡ false)
    (λ same. ap (λ b. b && false) same) (λ other. ap (λ b. b && not node.closed) other)

-- so no allocator is
closed-nodes : (n : ℕ) (nodes : List TreeNode) → list_any (is_open_at n) (with_closed n nodes) ≡ false
closed-nodes n [] = refl
closed-nodes n (node ∷ rest) = ap (λ b. b || list_any (is_open_at n) (with_closed n rest)) (closed-node n node) ∙ closed-nodes n rest

-- what closing answers with Ok isn't open
pub close_closes : (state : TreeState) (at : AllocId) → OnOk (close_result state at).answer
    (is_open (close_result state at).state at.0 ≡ false)
unfolding close_result
close_closes state at =
    let Closes : CallResult (Result (Unit {0}) NotClosed) → Type 0 = λ call. OnOk call.answer (is_open call.state at.0 ≡ false) in
    cond_both (not (is_open state at.0)) _ _ Closes (λ _. tt) (λ _.
    cond_both (nat_lt 0 (uses_of state at.0)) _ _ Closes (λ _. tt) (λ _. closed-nodes at.0 state.nodes))
