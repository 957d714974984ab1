-- The numbers that lines have left, and the sizes that they are given.
use Rattle.std.proofs.Common.{◌≡◌, ◌≢◌, ℕ, ◌+◌, ◌-◌, ◌<◌, ◌≤◌, not, Option, Some, None, subst, sym, arith, Result, Ok, Err, IfOk}
use Rattle.std.specs.Bool.{◌==◌, nat_lt}
use Rattle.std.proofs.lemmas.Bool.{cond_both, ltb-false}
use Rattle.mem_num.specs.declared.buffer_refused.BufferRefused.{BufferRefused}
use Rattle.mem_num.specs.declared.buffer_refused.BufferRefused.TheVariants as buffer
use Rattle.mem_num.specs.Rounded.{rounded_size}
use Rattle.mem_num.specs.declared.bounds.TheConstants.{LARGEST}
use Rattle.mem_num.specs.declared.alloc_id.AllocId.{AllocId}
use Rattle.mem_num.specs.declared.buffer_ref.Ref.{Ref}
use Rattle.mem_model.specs.declared.charge.Charge.{Charge}
use Rattle.mem_model.specs.declared.tree_node.TreeNode.{TreeNode}
use Rattle.mem_model.specs.Chunk.{Chunk}
use Rattle.mem_model.specs.Ledgers.{total_of}
use Rattle.mem_model.specs.References.{HasRoomFor}
use Rattle.mem_model.specs.TreeState.{TreeState, CallResult, rounding_at, charges_in, is_open}
use Rattle.mem_model.specs.DrawnNumbers.{DrawsNumbers, HaveReferences}
use Rattle.mem_model.specs.Grant.{charge_answer, grant_result}
use Rattle.mem_model.specs.Request.{refusing_level}
use Rattle.mem_model.proofs.ReferenceLemmas.{found}
use Rattle.script.specs.Shown.{HasNumbers}

-- the numbers that are left once some lines have drawn theirs
pub numbers-left : (old new : TreeState) (lines left whole : ℕ) → HasNumbers old whole → DrawsNumbers old new lines → lines + left ≤ whole → HasNumbers new left
numbers-left old new lines left whole has draws within = record {
  chunks = omega (arith, has.chunks, draws.chunks, within);
  allocators = omega (arith, has.allocators, draws.allocators, within);
  references = λ k d inside.
      let few : HaveReferences (4294967295 - whole) old.chunks = λ i e there. omega (arith, has.references i e there) in
      omega (arith, draws.references (4294967295 - whole) few k d inside, within, has.chunks);
}

-- so the chunk of a reference can have one more
pub numbers-room : (tree : TreeState) (of : Ref) → HasNumbers tree 1 → HasRoomFor tree of
numbers-room tree of has chunk is =
    (found (λ (c : Chunk). total_of c.ledgers + 1 < 4294967296) (λ (c : Chunk). c.number == of.chunk) tree.chunks chunk has.references is).0

-- a charge's answer has the size that was charged
charge_small : (state : TreeState) (request : Charge) (refusing : Option TreeNode) → request.amount ≤ 1073741824 → IfOk (charge_answer state request refusing) (λ reference. reference.size < 9223372036854775808)
charge_small state request None small = omega (arith, small)
charge_small state request (Some level) small = tt

-- a buffer that is given isn't large
pub grant_small : (state : TreeState) (at : AllocId) (request : ℕ) → IfOk (grant_result state at request).answer (λ reference. reference.size < 9223372036854775808)
unfolding grant_result
grant_small state at request =
    let size = rounded_size (rounding_at state at.0) request in
    let Small : CallResult (Result Ref BufferRefused) → Type 0 = λ call. IfOk call.answer (λ reference. reference.size < 9223372036854775808) in
    cond_both (nat_lt LARGEST size) _ _ Small (λ _. tt) (λ fits.
    cond_both (not (is_open state at.0)) _ _ Small (λ _. tt) (λ _.
    cond_both (size == 0) _ _ Small (λ _. omega arith) (λ _.
    charge_small state (record { at = at; amount = size }) (refusing_level state.nodes (charges_in state) (record { at = at; amount = size })) (omega (arith, ltb-false LARGEST size fits)))))

-- nor is what is answered, which may be want of memory
pub granted_small : (state : TreeState) (at : AllocId) (request : ℕ) (answer : Result Ref BufferRefused) → (answer ≢ Err buffer.NoMemory → answer ≡ (grant_result state at request).answer) → IfOk answer (λ reference. reference.size < 9223372036854775808)
granted_small state at request (Ok reference) is =
    let same : Ok reference ≡ (grant_result state at request).answer = is (λ e. absurd cc) in
    subst (λ (a : Result Ref BufferRefused). IfOk a (λ r. r.size < 9223372036854775808)) (sym same) (grant_small state at request)
granted_small state at request (Err refused) is = tt
