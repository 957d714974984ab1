-- What the making of a child tells besides what every memory does.
use Rattle.std.proofs.Common.{◌≡◌, ℕ, ◌<◌, ◌≤◌, true, false, not, nat_lt, nat_le, arith, Option, Some, None}
use Rattle.std.proofs.lemmas.Bool.{cond_both, leb-false, not-true}
use Rattle.std.specs.Prelude.{IfOk, Result, Err}
use Rattle.mem_num.specs.declared.alloc_id.AllocId.{AllocId}
use Rattle.mem_num.specs.declared.bounds.TheConstants.{MOST_ALLOCATORS}
use Rattle.mem_num.specs.declared.child_refused.ChildRefused.{ChildRefused}
use Rattle.mem_num.specs.declared.child_refused.ChildRefused.TheVariants as child
use Rattle.mem_num.specs.declared.closed.Closed.{Closed}
use Rattle.mem_model.specs.declared.charge.Charge.{Charge}
use Rattle.mem_model.specs.declared.tree_node.TreeNode.{TreeNode}
use Rattle.mem_model.specs.Child.{child_answer, child_result}
use Rattle.mem_model.specs.Request.{refusing_level}
use Rattle.mem_model.specs.TreeState.{TreeState, CallResult, charges_in, is_open}
use Rattle.mem_alloc.proofs.OpenLemmas.{unpinned}

-- a child that was made has one of the numbers, and its parent is refused as closed only where it isn't open
pub record TellsChild (state : TreeState) (parent : AllocId) (answer : Result AllocId ChildRefused) : Type 0 where
  pub number : IfOk answer (λ made. made.0 < MOST_ALLOCATORS)
  pub closed : (closed : Closed) → answer ≡ Err (child.Closed closed) → is_open state parent.0 ≡ false

tells-made : (state : TreeState) (parent : AllocId) (request : Charge) (refusing : Option TreeNode) → state.next < MOST_ALLOCATORS
    → TellsChild state parent (child_answer state request refusing)
tells-made state parent request None few = record { number = few; closed = λ closed e. absurd cc }
tells-made state parent request (Some level) few = record { number = tt; closed = λ closed e. absurd cc }

pub tells-child : (state : TreeState) (parent : AllocId) (reservation limit : ℕ)
    → TellsChild state parent (child_result state parent reservation limit).answer
unfolding child_result
tells-child state parent reservation limit =
    let P : CallResult (Result AllocId ChildRefused) → Type 0 = λ result. TellsChild state parent result.answer in
    cond_both (nat_lt limit reservation) _ _ P
    (λ _. record { number = tt; closed = λ closed e. absurd cc }) (λ _.
    cond_both (not (is_open state parent.0)) _ _ P
    (λ shut. record { number = tt; closed = λ closed e. not-true (is_open state parent.0) shut }) (λ _.
    cond_both (nat_le MOST_ALLOCATORS state.next) _ _ P
    (λ _. record { number = tt; closed = λ closed e. absurd cc }) (λ few.
    tells-made state parent (record { at = parent; amount = reservation })
    (refusing_level state.nodes (charges_in state) (record { at = parent; amount = reservation }))
    (omega (arith, leb-false MOST_ALLOCATORS state.next few)))))

-- so it isn't refused as closed under a pin
pub unpinned-child : (pins : ℕ) (state : TreeState) (parent : AllocId) (answer : Result AllocId ChildRefused)
    → TellsChild state parent answer → (1 ≤ pins → is_open state parent.0 ≡ true) → (closed : Closed)
    → answer ≡ Err (child.Closed closed) → pins ≡ 0
unpinned-child pins state parent answer tells held closed e = unpinned pins state parent held (tells.closed closed e)
