-- A request for a buffer, as a call of the memory of one thread.
use Rattle.std.proofs.Common.{◌≡◌, ◌≢◌, ℕ, ◌+◌, ◌≤◌, not, ◌==◌, nat_lt, refl, sym, ◌∙◌, subst, arith, Option, Some, None}
use Rattle.std.proofs.lemmas.Bool.{cond_both, cond-false, not-true, eqb-true, eqb-false, ne_eqb, ltb-true, ltb-false}
use Rattle.std.specs.Prelude.{Result, Ok, Err}
use Rattle.mem_num.specs.Rounded.{rounded_size}
use Rattle.mem_num.specs.declared.bounds.TheConstants.{LARGEST}
use Rattle.mem_num.specs.declared.rounding.Rounding.TheVariants.{Power}
use Rattle.mem_num.specs.declared.alloc_id.AllocId.{AllocId}
use Rattle.mem_num.specs.declared.buffer_ref.Ref.{Ref}
use Rattle.mem_num.specs.declared.buffer_refused.BufferRefused.{BufferRefused}
use Rattle.mem_num.specs.declared.buffer_refused.BufferRefused.TheVariants.{TooLarge, Closed, Full, NoMemory}
use Rattle.mem_model.specs.declared.charge.Charge.{Charge}
use Rattle.mem_model.specs.declared.tree_node.TreeNode.{TreeNode}
use Rattle.mem_model.specs.Grant.{charge_answer, after_charge, grant_result}
use Rattle.mem_model.specs.LawfulState.{IsLawfulState}
use Rattle.mem_model.specs.MeasuredTree.{MeasuredTree, IsAfterCall}
use Rattle.mem_model.specs.Request.{refusing_level}
use Rattle.mem_model.specs.TreeState.{TreeState, CallResult, charges_in, is_open}
use Rattle.mem_buf.specs.Answers.{IsGrantAnswer}
use Rattle.mem_buf.specs.MemoryCall.{Grant}
use Rattle.mem_buf.specs.TokenView.{charged_for}
use Rattle.alloc_tree.specs.SoloMeaning.{SoloMeans}
use Rattle.alloc_tree.specs.SoloView.{solo_view}
use Rattle.alloc_tree.proofs.SoloRefusalLemmas.{refusal-past}

-- what a charge is answered
answer-charge : (tree : MeasuredTree) (at : AllocId) (request size : ℕ) (refusing : Option TreeNode) → IsLawfulState tree.state
    → size ≤ LARGEST → 1 ≤ size → refusing_level tree.state.nodes (charges_in tree.state) (record { at = at; amount = size }) ≡ refusing
    → IsGrantAnswer (solo_view tree) at request size (charge_answer tree.state (record { at = at; amount = size }) refusing)
answer-charge tree at request size None lawful fits some is = (
  fits,
  record {
    place = refl;
    charged = refl;
    empty = ne_eqb (tree.state.drawn + 1) 0 (λ e. omega (arith, e)) ∙ sym (ne_eqb size 0 (λ e. omega (arith, e, some)));
  },
)
answer-charge tree at request size (Some level) lawful fits some is =
    (fits, some, refusal-past tree (record { at = at; amount = size }) level lawful is)

-- what the definition answers is an answer that a memory may give
answer-result : (tree : MeasuredTree) (at : AllocId) (request : ℕ) → IsLawfulState tree.state
    → IsGrantAnswer (solo_view tree) at request (rounded_size Power request) (grant_result tree.state at request).answer
unfolding grant_result
answer-result tree at request lawful =
    let size = rounded_size Power request in
    let state = tree.state in
    let P : CallResult (Result Ref BufferRefused) → Type 0 = λ result. IsGrantAnswer (solo_view tree) at request size result.answer in
    cond_both (nat_lt LARGEST size) _ _ P (λ large. (ltb-true LARGEST size large, refl)) (λ small.
    let fits : size ≤ LARGEST = omega (arith, ltb-false LARGEST size small) in
    cond_both (not (is_open state at.0)) _ _ P
    (λ shut. (fits, refl, cond-false (is_open state at.0) 1 0 (not-true (is_open state at.0) shut))) (λ open_.
    cond_both (size == 0) _ _ P
    (λ none. (fits, record { place = refl; charged = sym (eqb-true size 0 none); empty = sym none })) (λ some.
    answer-charge tree at request size (refusing_level state.nodes (charges_in state) (record { at = at; amount = size }))
    lawful fits (omega (arith, eqb-false size 0 some)) refl)))

-- the allocators stay
nodes-charge : (state : TreeState) (request : Charge) (refusing : Option TreeNode)
    → (after_charge state request refusing).nodes ≡ state.nodes
nodes-charge state request None = refl
nodes-charge state request (Some level) = refl

nodes-result : (state : TreeState) (at : AllocId) (request : ℕ) → (grant_result state at request).state.nodes ≡ state.nodes
unfolding grant_result
nodes-result state at request =
    let size = rounded_size Power request in
    let P : CallResult (Result Ref BufferRefused) → Type 0 = λ result. result.state.nodes ≡ state.nodes in
    cond_both (nat_lt LARGEST size) _ _ P (λ _. refl) (λ _.
    cond_both (not (is_open state at.0)) _ _ P (λ _. refl) (λ _.
    cond_both (size == 0) _ _ P (λ _. refl) (λ _.
    nodes-charge state (record { at = at; amount = size })
    (refusing_level state.nodes (charges_in state) (record { at = at; amount = size })))))

-- a request that is charged nothing draws no number
undrawn-result : (state : TreeState) (at : AllocId) (request : ℕ) → charged_for (rounded_size Power request) ≡ 0
    → (grant_result state at request).state.drawn ≡ state.drawn
unfolding grant_result
undrawn-result state at request free =
    let size = rounded_size Power request in
    let P : CallResult (Result Ref BufferRefused) → Type 0 = λ result. result.state.drawn ≡ state.drawn in
    cond_both (nat_lt LARGEST size) _ _ P (λ _. refl) (λ small.
    cond_both (not (is_open state at.0)) _ _ P (λ _. refl) (λ _.
    cond_both (size == 0) _ _ P (λ _. refl) (λ some.
    absurd (omega (arith, eqb-false size 0 some, free, cond-false (nat_lt LARGEST size) 0 size small)))))

-- a request of a tree, by the clauses of its call
pub record IsGrantCall (at : AllocId) (request : ℕ) (answer : Result Ref BufferRefused) (old new : MeasuredTree) : Type 0 where
  pub told : answer ≢ Err NoMemory → answer ≡ (grant_result old.state at request).answer
  pub after : answer ≢ Err NoMemory → IsAfterCall old (grant_result old.state at request) new
  pub same : answer ≡ Err NoMemory → new ≡ old

module _ (at : AllocId) (request : ℕ) where
  -- its meaning
  pub means-grant : (answer : Result Ref BufferRefused) (old new : MeasuredTree) → IsGrantCall at request answer old new
      → SoloMeans (Grant at request answer) old new
  means-grant (Ok given) old new call = record { answer_is = call.told (λ e. cc); after = call.after (λ e. cc) }
  means-grant (Err (TooLarge refused)) old new call = record { answer_is = call.told (λ e. cc); after = call.after (λ e. cc) }
  means-grant (Err (Closed refused)) old new call = record { answer_is = call.told (λ e. cc); after = call.after (λ e. cc) }
  means-grant (Err (Full full)) old new call = record { answer_is = call.told (λ e. cc); after = call.after (λ e. cc) }
  means-grant (Err NoMemory) old new call = call.same refl

  -- what holds of the tree before, and of the one that the definition leaves, holds of the tree after
  left-grant : (P : TreeState → Type 0) (answer : Result Ref BufferRefused) (old new : MeasuredTree) → IsGrantCall at request answer old new
      → P old.state → P (grant_result old.state at request).state → P new.state
  left-grant P (Ok given) old new call before left = subst P (sym (call.after (λ e. cc)).state) left
  left-grant P (Err (TooLarge refused)) old new call before left = subst P (sym (call.after (λ e. cc)).state) left
  left-grant P (Err (Closed refused)) old new call before left = subst P (sym (call.after (λ e. cc)).state) left
  left-grant P (Err (Full full)) old new call before left = subst P (sym (call.after (λ e. cc)).state) left
  left-grant P (Err NoMemory) old new call before left = subst (λ (tree : MeasuredTree). P tree.state) (sym (call.same refl)) before

  pub nodes-grant : (answer : Result Ref BufferRefused) (old new : MeasuredTree) → IsGrantCall at request answer old new
      → new.state.nodes ≡ old.state.nodes
  nodes-grant answer old new call =
      left-grant (λ state. state.nodes ≡ old.state.nodes) answer old new call refl (nodes-result old.state at request)

  pub undrawn-grant : (answer : Result Ref BufferRefused) (old new : MeasuredTree) → IsGrantCall at request answer old new
      → charged_for (rounded_size Power request) ≡ 0 → new.state.drawn ≡ old.state.drawn
  undrawn-grant answer old new call free =
      left-grant (λ state. state.drawn ≡ old.state.drawn) answer old new call refl (undrawn-result old.state at request free)

  -- its answer is one that a memory may give
  pub answer-grant : (answer : Result Ref BufferRefused) (old new : MeasuredTree) → IsLawfulState old.state
      → IsGrantCall at request answer old new
      → IsGrantAnswer (solo_view old) at request (rounded_size Power request) answer
  answer-grant (Err NoMemory) old new lawful call = tt
  answer-grant (Ok given) old new lawful call =
      subst (IsGrantAnswer (solo_view old) at request (rounded_size Power request)) (sym (call.told (λ e. cc)))
      (answer-result old at request lawful)
  answer-grant (Err (TooLarge refused)) old new lawful call =
      subst (IsGrantAnswer (solo_view old) at request (rounded_size Power request)) (sym (call.told (λ e. cc)))
      (answer-result old at request lawful)
  answer-grant (Err (Closed refused)) old new lawful call =
      subst (IsGrantAnswer (solo_view old) at request (rounded_size Power request)) (sym (call.told (λ e. cc)))
      (answer-result old at request lawful)
  answer-grant (Err (Full full)) old new lawful call =
      subst (IsGrantAnswer (solo_view old) at request (rounded_size Power request)) (sym (call.told (λ e. cc)))
      (answer-result old at request lawful)
