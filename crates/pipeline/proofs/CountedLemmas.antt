-- Calls for buffers, on the memory of one thread: the allocators stay, and each reference to a live chunk is one that is held.
use Rattle.std.proofs.Common.{◌≡◌, ℕ, ◌+◌, ◌≤◌, ◌==◌, List, [], ◌∷◌, Bool, false, not, nat_lt, refl, sym, ap, ◌∙◌, subst, arith}
use Rattle.std.proofs.Common.{inl, inr, All, Option, Some, None, Result, Ok, Err}
use Rattle.std.specs.Option.{option_map_or}
use Rattle.std.proofs.lemmas.Bool.{cases_eq, cond_both, eq-eqb, ne_eqb}
use Rattle.std.proofs.lemmas.List.Elements.{All-head, All-tail}
use Rattle.std.proofs.lemmas.List.Sums.{sum_by-cons}
use Rattle.mem_num.specs.Rounded.{rounded_size}
use Rattle.mem_num.specs.declared.bounds.TheConstants.{LARGEST}
use Rattle.mem_num.specs.declared.rounding.Rounding.TheVariants.{Power}
use Rattle.mem_num.specs.declared.alloc_id.AllocId.{AllocId}
use Rattle.mem_num.specs.declared.buffer_ref.Ref.{Ref}
use Rattle.mem_num.specs.declared.buffer_refused.BufferRefused.{BufferRefused}
use Rattle.mem_num.specs.declared.buffer_refused.BufferRefused.TheVariants as buffer
use Rattle.mem_num.specs.declared.ref_refused.RefRefused.{RefRefused}
use Rattle.mem_num.specs.declared.ref_refused.RefRefused.TheVariants as sharing
use Rattle.mem_num.specs.declared.solo_refused.SoloRefused.{SoloRefused}
use Rattle.mem_num.specs.declared.solo_refused.SoloRefused.TheVariants as solo
use Rattle.mem_model.specs.Calls as tree
use Rattle.mem_model.specs.Chunk.{Chunk}
use Rattle.mem_model.specs.CountedReferences.{references_to, one_to, one_given, one_moved, one_taken}
use Rattle.mem_model.specs.declared.charge.Charge.{Charge}
use Rattle.mem_model.specs.declared.tree_node.TreeNode.{TreeNode}
use Rattle.mem_model.specs.Grant.{after_charge, grant_result}
use Rattle.mem_model.specs.LawfulState.{IsLawfulState}
use Rattle.mem_model.specs.MeasuredTree.{MeasuredTree}
use Rattle.mem_model.specs.PlannedCalls.{no_reference}
use Rattle.mem_model.specs.References.{referred_chunk, released_at}
use Rattle.mem_model.specs.Release.{release_from, release_result}
use Rattle.mem_model.specs.Request.{refusing_level}
use Rattle.mem_model.specs.Retain.{retain_from, retain_result}
use Rattle.mem_model.specs.Transfer.{moves_charge, transfer_from, transfer_result}
use Rattle.mem_model.specs.TreeState.{TreeState, CallResult, unchanged, charges_in, is_open}
use Rattle.mem_model.proofs.CallResultLemmas.{release-given}
use Rattle.mem_model.proofs.CountedLemmas.{counted-call, referred-counted}
use Rattle.mem_model.proofs.LawfulCallLemmas.{lawful-grant}
use Rattle.mem_model.proofs.LawfulReferenceLemmas.{lawful-retain_call, lawful-transfer_call, lawful-release_call}
use Rattle.mem_buf.specs.Chain.{MakesCalls}
use Rattle.mem_buf.specs.MemoryCall.{MemoryCall, Child, Unpin, Close, Grant, Retain, Transfer, Release}
use Rattle.alloc_tree.specs.SoloMeaning.{IsTreeCall, SoloMeans, solo_model, empty_at, told_further, told_moved}
use Rattle.alloc_tree.specs.SoloPlanned.{reference_by}
use Rattle.pipeline.specs.Closing.{AreCounted}
use Rattle.pipeline.specs.Holding.{AreSame, released_by, Leaves, IsBufferCall}

-- a reference to no chunk is counted nowhere
one_to-none : (k n : ℕ) (of : Ref) → 1 ≤ k → of.chunk ≡ 0 → one_to k n of ≡ 0
one_to-none k n of some none =
    let other : (of.chunk == k) ≡ false = ne_eqb of.chunk k (λ same. omega (arith, some, none, same)) in
    rw other refl

-- and any other by its own chunk and allocator
one_to-own : (of : Ref) → one_to of.chunk of.alloc.0 of ≡ 1
one_to-own of = rw (eq-eqb of.chunk of.chunk refl, eq-eqb of.alloc.0 of.alloc.0 refl) refl

-- a request for a buffer leaves the allocators
nodes-charge : (state : TreeState) (request : Charge) (refusing : Option TreeNode)
    → (after_charge state request refusing).nodes ≡ state.nodes
nodes-charge state request None = refl
nodes-charge state request (Some level) = refl

nodes-grant : (state : TreeState) (at : AllocId) (request : ℕ) → (grant_result state at request).state.nodes ≡ state.nodes
unfolding grant_result
nodes-grant state at request =
    let size = rounded_size Power request in
    let charge : Charge = record { at = at; amount = size } in
    let P : CallResult (Result Ref BufferRefused) → Type 0 = λ result. result.state.nodes ≡ state.nodes in
    cond_both (nat_lt LARGEST size) _ _ P (λ _. refl) (λ _.
    cond_both (not (is_open state at.0)) _ _ P (λ _. refl) (λ _.
    cond_both (size == 0) _ _ P (λ _. refl) (λ _.
    nodes-charge state charge (refusing_level state.nodes (charges_in state) charge))))

-- so does a further reference
nodes-retain_from : (state : TreeState) (of : Ref) (target : AllocId) (found : Option Chunk)
    → (option_map_or (retain_from state target) found (unchanged state (Err (solo.Released (released_at of))))).state.nodes ≡ state.nodes
nodes-retain_from state of target None = refl
nodes-retain_from state of target (Some chunk) =
    cond_both (not (is_open state target.0)) _ _ (λ (result : CallResult (Result Ref SoloRefused)). result.state.nodes ≡ state.nodes)
    (λ _. refl) (λ _. refl)

nodes-retain : (state : TreeState) (of : Ref) (target : AllocId) → (retain_result state of target).state.nodes ≡ state.nodes
unfolding retain_result
nodes-retain state of target = nodes-retain_from state of target (referred_chunk state of)

-- a transfer
nodes-transfer_from : (state : TreeState) (of : Ref) (target : AllocId) (found : Option Chunk)
    → (option_map_or (transfer_from state of.alloc target) found (unchanged state (Err (solo.Released (released_at of))))).state.nodes
    ≡ state.nodes
nodes-transfer_from state of target None = refl
nodes-transfer_from state of target (Some chunk) =
    let P : CallResult (Result (Ref × Bool) SoloRefused) → Type 0 = λ result. result.state.nodes ≡ state.nodes in
    cond_both (not (is_open state target.0)) _ _ P (λ _. refl) (λ _.
    cond_both (moves_charge of.alloc target chunk) _ _ P (λ _. refl) (λ _. refl))

nodes-transfer : (state : TreeState) (of : Ref) (target : AllocId) → (transfer_result state of target).state.nodes ≡ state.nodes
unfolding transfer_result
nodes-transfer state of target = nodes-transfer_from state of target (referred_chunk state of)

-- and a release
nodes-release_from : (state : TreeState) (of : Ref) (found : Option Chunk)
    → (option_map_or (release_from state of) found (unchanged state (Err (released_at of)))).state.nodes ≡ state.nodes
nodes-release_from state of None = refl
nodes-release_from state of (Some chunk) = refl

nodes-release : (state : TreeState) (of : Ref) → (release_result state of).state.nodes ≡ state.nodes
unfolding release_result
nodes-release state of = nodes-release_from state of (referred_chunk state of)

-- the reference that a call of the tree takes back, counted
abbrev taken_by : TreeState → MemoryCall → ℕ → ℕ → ℕ
taken_by state (Release of answer) k n = one_taken k n of (release_result state of).answer
taken_by state _ k n = 0

-- a call leaves the allocators and the law, and references are counted with what it gives and takes back
record Keeps (call : MemoryCall) (old new : MeasuredTree) : Type 0 where
  pub nodes : new.state.nodes ≡ old.state.nodes
  pub lawful : IsLawfulState old.state → IsLawfulState new.state
  pub counted : IsLawfulState old.state → (k n : ℕ) → 1 ≤ k
      → references_to old.state k n + one_to k n (reference_by call) ≡ references_to new.state k n + taken_by old.state call k n

-- a tree that stands still, where the call gives and takes back nothing
keeps-still : (call : MemoryCall) (old new : MeasuredTree) → new ≡ old → reference_by call ≡ no_reference
    → ((k n : ℕ) → taken_by old.state call k n ≡ 0) → Keeps call old new
keeps-still call old new same given taken = record {
  nodes = ap (λ (tree : MeasuredTree). tree.state.nodes) same;
  lawful = λ h. subst (λ (tree : MeasuredTree). IsLawfulState tree.state) (sym same) h;
  counted = λ h k n some. omega (
    arith,
    ap (λ (tree : MeasuredTree). references_to tree.state k n) same,
    ap (one_to k n) given,
    one_to-none k n no_reference some refl,
    taken k n,
  );
}

-- a request for a buffer, which the tree answered
keeps-grant : (at : AllocId) (request : ℕ) (answer : Result Ref BufferRefused) (old new : MeasuredTree)
    → ((k n : ℕ) → 1 ≤ k → one_to k n (reference_by (Grant at request answer)) ≡ one_given k n answer)
    → IsTreeCall (λ a. a) answer (grant_result old.state at request) old new → Keeps (Grant at request answer) old new
keeps-grant at request answer old new given call = record {
  nodes = ap (λ (state : TreeState). state.nodes) call.after.state ∙ nodes-grant old.state at request;
  lawful = λ h. subst IsLawfulState (sym call.after.state) (lawful-grant old.state at request h);
  counted = λ h k n some. omega (
    arith,
    given k n some,
    ap (one_given k n) call.answer_is,
    ap (λ state. references_to state k n) call.after.state,
    counted-call old.state (tree.Grant at request) k n h some,
  );
}

-- what a refusal gives is counted nowhere
refused-none : (k n : ℕ) → 1 ≤ k → one_to k n no_reference ≡ 0
refused-none k n some = one_to-none k n no_reference some refl

grant-step : (at : AllocId) (request : ℕ) (answer : Result Ref BufferRefused) (old new : MeasuredTree)
    → SoloMeans (Grant at request answer) old new → Keeps (Grant at request answer) old new
grant-step at request (Ok given) old new means = keeps-grant at request (Ok given) old new (λ k n some. refl) means
grant-step at request (Err (buffer.TooLarge refused)) old new means = keeps-grant at request _ old new refused-none means
grant-step at request (Err (buffer.Closed refused)) old new means = keeps-grant at request _ old new refused-none means
grant-step at request (Err (buffer.Full full)) old new means = keeps-grant at request _ old new refused-none means
grant-step at request (Err buffer.NoMemory) old new means = keeps-still _ old new means refl (λ k n. refl)

-- a further reference, which the tree answered
module _ (of : Ref) (target : AllocId) where
  given-retain : (told : Result Ref SoloRefused) (answer : Result Ref RefRefused) (k n : ℕ) → 1 ≤ k → answer ≡ told_further target told
      → one_to k n (reference_by (Retain of target answer)) ≡ one_given k n told
  given-retain (Ok given) answer k n some is = ap (λ a. one_to k n (reference_by (Retain of target a))) is
  given-retain (Err (solo.Released refused)) answer k n some is =
      ap (λ a. one_to k n (reference_by (Retain of target a))) is ∙ one_to-none k n (empty_at target) some refl
  given-retain (Err (solo.Closed refused)) answer k n some is =
      ap (λ a. one_to k n (reference_by (Retain of target a))) is ∙ refused-none k n some
  given-retain (Err solo.NoMemory) answer k n some is =
      ap (λ a. one_to k n (reference_by (Retain of target a))) is ∙ refused-none k n some

  keeps-retain : (answer : Result Ref RefRefused) (old new : MeasuredTree)
      → IsTreeCall (told_further target) answer (retain_result old.state of target) old new → Keeps (Retain of target answer) old new
  keeps-retain answer old new call = record {
    nodes = ap (λ (state : TreeState). state.nodes) call.after.state ∙ nodes-retain old.state of target;
    lawful = λ h. subst IsLawfulState (sym call.after.state) (lawful-retain_call old.state of target h);
    counted = λ h k n some. omega (
      arith,
      given-retain (retain_result old.state of target).answer answer k n some call.answer_is,
      ap (λ state. references_to state k n) call.after.state,
      counted-call old.state (tree.Retain of target) k n h some,
    );
  }

  retain-step : (answer : Result Ref RefRefused) (old new : MeasuredTree) → SoloMeans (Retain of target answer) old new
      → Keeps (Retain of target answer) old new
  retain-step (Ok given) old new means = keeps-retain (Ok given) old new means.tree_call
  retain-step (Err (sharing.Closed refused)) old new means = keeps-retain _ old new means.tree_call
  retain-step (Err sharing.NoMemory) old new means = keeps-still _ old new means refl (λ k n. refl)

  -- and a transfer
  given-transfer : (told : Result (Ref × Bool) SoloRefused) (answer : Result (Ref × Bool) RefRefused) (k n : ℕ) → 1 ≤ k
      → answer ≡ told_moved target told → one_to k n (reference_by (Transfer of target answer)) ≡ one_moved k n told
  given-transfer (Ok given) answer k n some is = ap (λ a. one_to k n (reference_by (Transfer of target a))) is
  given-transfer (Err (solo.Released refused)) answer k n some is =
      ap (λ a. one_to k n (reference_by (Transfer of target a))) is ∙ one_to-none k n (empty_at target) some refl
  given-transfer (Err (solo.Closed refused)) answer k n some is =
      ap (λ a. one_to k n (reference_by (Transfer of target a))) is ∙ refused-none k n some
  given-transfer (Err solo.NoMemory) answer k n some is =
      ap (λ a. one_to k n (reference_by (Transfer of target a))) is ∙ refused-none k n some

  keeps-transfer : (answer : Result (Ref × Bool) RefRefused) (old new : MeasuredTree)
      → IsTreeCall (told_moved target) answer (transfer_result old.state of target) old new → Keeps (Transfer of target answer) old new
  keeps-transfer answer old new call = record {
    nodes = ap (λ (state : TreeState). state.nodes) call.after.state ∙ nodes-transfer old.state of target;
    lawful = λ h. subst IsLawfulState (sym call.after.state) (lawful-transfer_call old.state of target h);
    counted = λ h k n some. omega (
      arith,
      given-transfer (transfer_result old.state of target).answer answer k n some call.answer_is,
      ap (λ state. references_to state k n) call.after.state,
      counted-call old.state (tree.Transfer of target) k n h some,
    );
  }

  transfer-step : (answer : Result (Ref × Bool) RefRefused) (old new : MeasuredTree) → SoloMeans (Transfer of target answer) old new
      → Keeps (Transfer of target answer) old new
  transfer-step (Ok moved) old new means = keeps-transfer (Ok moved) old new means.tree_call
  transfer-step (Err (sharing.Closed refused)) old new means = keeps-transfer _ old new means.tree_call
  transfer-step (Err sharing.NoMemory) old new means = keeps-still _ old new means refl (λ k n. refl)

-- giving back
release-step : (of : Ref) (answer : Bool) (old new : MeasuredTree) → SoloMeans (Release of answer) old new
    → Keeps (Release of answer) old new
release-step of answer old new means =
    let after = means.tree_call.after.state in
    record {
      nodes = ap (λ (state : TreeState). state.nodes) after ∙ nodes-release old.state of;
      lawful = λ h. subst IsLawfulState (sym after) (lawful-release_call old.state of h);
      counted = λ h k n some. omega (
        arith,
        refused-none k n some,
        ap (λ state. references_to state k n) after,
        counted-call old.state (tree.Release of) k n h some,
      );
    }

-- any call for a buffer
step : (call : MemoryCall) (old new : MeasuredTree) → IsBufferCall call → SoloMeans call old new → Keeps call old new
step (Child parent reservation limit answer) old new is means = absurd is
step (Unpin at) old new is means = absurd is
step (Close at answer) old new is means = absurd is
step (Grant at request answer) old new is means = grant-step at request answer old new means
step (Retain of target answer) old new is means = retain-step of target answer old new means
step (Transfer of target answer) old new is means = transfer-step of target answer old new means
step (Release of answer) old new is means = release-step of answer old new means

-- calls for buffers leave the allocators
pub nodes-kept : (calls : List MemoryCall) (old new : MeasuredTree) → All IsBufferCall calls → MakesCalls solo_model calls old new
    → new.state.nodes ≡ old.state.nodes
nodes-kept [] old new are made = ap (λ (tree : MeasuredTree). tree.state.nodes) made
nodes-kept (call ∷ calls) old new are made =
    nodes-kept calls made.0 new (All-tail IsBufferCall call calls are) made.2
    ∙ (step call old made.0 (All-head IsBufferCall call calls are) made.1.meaning).nodes

-- and the law
pub lawful-kept : (calls : List MemoryCall) (old new : MeasuredTree) → All IsBufferCall calls → MakesCalls solo_model calls old new
    → IsLawfulState old.state → IsLawfulState new.state
lawful-kept [] old new are made lawful = subst (λ (tree : MeasuredTree). IsLawfulState tree.state) (sym made) lawful
lawful-kept (call ∷ calls) old new are made lawful =
    lawful-kept calls made.0 new (All-tail IsBufferCall call calls are) made.2
    ((step call old made.0 (All-head IsBufferCall call calls are) made.1.meaning).lawful lawful)

-- a reference that is counted is taken back
taken-counted : (state : TreeState) (of : Ref) (k n : ℕ) → 1 ≤ references_to state of.chunk of.alloc.0
    → one_taken k n of (release_result state of).answer ≡ one_to k n of
taken-counted state of k n some =
    let chunk = referred-counted state of some in
    ap (λ result. one_taken k n of result.answer) (release-given state of chunk.0 chunk.1)

-- one to no chunk is counted nowhere, whether it is taken back or not
taken-none : {A E : Type 0} (of : Ref) (k n : ℕ) (answer : Result A E) → one_to k n of ≡ 0 → one_taken k n of answer ≡ one_to k n of
taken-none of k n (Ok done) none = refl
taken-none of k n (Err refused) none = sym none

-- a call takes back what was held
taken-held : (call : MemoryCall) (held rest : List Ref) (state : TreeState) → AreCounted held state
    → AreSame (reference_by call ∷ held) (released_by call ∷ rest) → (k n : ℕ) → 1 ≤ k
    → taken_by state call k n ≡ one_to k n (released_by call)
taken-held (Child parent reservation limit answer) held rest state counted same k n some = sym (refused-none k n some)
taken-held (Unpin at) held rest state counted same k n some = sym (refused-none k n some)
taken-held (Close at answer) held rest state counted same k n some = sym (refused-none k n some)
taken-held (Grant at request answer) held rest state counted same k n some = sym (refused-none k n some)
taken-held (Retain of target answer) held rest state counted same k n some = sym (refused-none k n some)
taken-held (Transfer of target answer) held rest state counted same k n some = sym (refused-none k n some)
taken-held (Release of answer) held rest state counted same k n some =
    elim (cases_eq of.chunk 0) [
      | inl none ↦ taken-none of k n (release_result state of).answer (one_to-none k n of some none)
      | inr filled ↦ (
          let c = of.chunk in
          let a = of.alloc.0 in
          let chunk : 1 ≤ c = omega (arith, filled) in
          taken-counted state of k n (omega (
            arith,
            one_to-own of,
            counted c a chunk,
            same c a chunk,
            refused-none c a chunk,
            sum_by-cons (one_to c a) no_reference held,
            sum_by-cons (one_to c a) of rest,
          )))
    ]

-- where each reference to a live chunk is one that is held, it is still, after calls that leave others held
pub counted-kept : (calls : List MemoryCall) (held left : List Ref) (old new : MeasuredTree) → All IsBufferCall calls
    → IsLawfulState old.state → AreCounted held old.state → MakesCalls solo_model calls old new → Leaves held calls left
    → AreCounted left new.state
counted-kept [] held left old new are lawful counted made leaves =
    λ k n some. ap (λ (tree : MeasuredTree). references_to tree.state k n) made ∙ (counted k n some ∙ leaves k n some)
counted-kept (call ∷ calls) held left old new are lawful counted made leaves =
    let first = step call old made.0 (All-head IsBufferCall call calls are) made.1.meaning in
    let rest = leaves.0 in
    let still : AreCounted rest made.0.state = λ k n some. omega (
      arith,
      first.counted lawful k n some,
      taken-held call held rest old.state counted leaves.1 k n some,
      counted k n some,
      leaves.1 k n some,
      sum_by-cons (one_to k n) (reference_by call) held,
      sum_by-cons (one_to k n) (released_by call) rest,
    ) in
    counted-kept calls rest left made.0 new (All-tail IsBufferCall call calls are) (first.lawful lawful) still made.2 leaves.2
