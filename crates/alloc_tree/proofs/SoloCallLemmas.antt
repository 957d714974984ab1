-- Calls on a tree of one thread are calls of a memory.
use Rattle.std.proofs.Common.{◌≡◌, ℕ, zero, suc, ◌+◌, ◌-◌, ◌≤◌, Bool, true, false, not, ◌==◌, nat_lt, nat_le, refl, sym, ◌∙◌, ap}
use Rattle.std.proofs.Common.{subst, arith}
use Rattle.std.proofs.Common.{Option, Some, None}
use Rattle.std.proofs.lemmas.Bool.{cond_both, cond-false, eqb-true, ltb-true, ltb-false, leb-true}
use Rattle.std.specs.Prelude.{if◌then◌else◌, IfSome, Result, Ok, Err}
use Rattle.mem_num.specs.Rounded.{rounded_size}
use Rattle.mem_num.specs.declared.bounds.TheConstants.{MOST_ALLOCATORS}
use Rattle.mem_num.specs.declared.rounding.Rounding.TheVariants.{Power}
use Rattle.mem_num.specs.declared.alloc_id.AllocId.{AllocId}
use Rattle.mem_num.specs.declared.buffer_ref.Ref.{Ref}
use Rattle.mem_num.specs.declared.buffer_refused.BufferRefused.{BufferRefused}
use Rattle.mem_num.specs.declared.child_refused.ChildRefused.{ChildRefused}
use Rattle.mem_num.specs.declared.not_closed.NotClosed.{NotClosed}
use Rattle.mem_num.specs.declared.ref_refused.RefRefused.{RefRefused}
use Rattle.mem_model.specs.declared.tree_node.TreeNode.{TreeNode}
use Rattle.mem_model.specs.Calls.{one_if_ok}
use Rattle.mem_model.specs.Child.{child_node, child_answer, after_child, child_result}
use Rattle.mem_model.specs.Close.{close_result}
use Rattle.mem_model.specs.LawfulState.{IsLawfulState}
use Rattle.mem_model.specs.MeasuredTree.{MeasuredTree}
use Rattle.mem_model.specs.Request.{refusing_level}
use Rattle.mem_model.specs.TreeState.{TreeState, CallResult, charges_in, is_open, uses_of}
use Rattle.mem_buf.specs.Answers.{IsChildAnswer, IsCloseAnswer, IsRetainAnswer, IsTransferAnswer}
use Rattle.mem_buf.specs.Chain.{MakesCall}
use Rattle.mem_buf.specs.Changes.{ChangesPins, KeepsNames, NamesChild}
use Rattle.mem_buf.specs.MemoryCall.{Child, Close, Grant, Retain, Transfer, Release, named, named_fit}
use Rattle.mem_buf.specs.TokenView.{TokenView, is_empty, charged_for, turns_to_share}
use Rattle.alloc_tree.specs.Counting.{count_after}
use Rattle.alloc_tree.specs.SoloMeaning.{SoloMeans, IsTreeCall, solo_model}
use Rattle.alloc_tree.specs.SoloView.{limit_at, turns_left, solo_view}
use Rattle.alloc_tree.proofs.SoloGrantLemmas.{IsGrantCall, means-grant, nodes-grant, undrawn-grant, answer-grant}
use Rattle.alloc_tree.proofs.SoloNodeLemmas.{pins-child, limits-child, limit-child, limits-closed, loses-closed}
use Rattle.alloc_tree.proofs.SoloRefusalLemmas.{refusal-past}

-- a hold is its own reference
named-same : {E : Type 0} (result : Result Ref E) → named (λ hold. hold) result ≡ result
named-same (Ok given) = refl
named-same (Err refused) = refl

named_fit-same : {E : Type 0} (result : Result (Ref × Bool) E) → named_fit (λ hold. hold) result ≡ result
named_fit-same (Ok moved) = refl
named_fit-same (Err refused) = refl

-- a call that is counted spends a turn at most
pub turns-counted : (calls drawn : ℕ) → turns_left calls ≤ turns_left (count_after calls drawn) + 1
turns-counted calls zero = omega arith
turns-counted calls (suc drawn) = omega arith

-- and one that draws nothing spends none
pub turns-uncounted : (calls drawn : ℕ) → drawn ≡ 0 → turns_left calls ≤ turns_left (count_after calls drawn)
turns-uncounted calls zero is = omega arith
turns-uncounted calls (suc drawn) is = absurd (omega (arith, is))

-- a further reference to a chunk is counted once at most, and may spend a turn
pub turns-share : {A E : Type 0} (of : Ref) (old new : ℕ) (answer : Result A E) → is_empty of ≡ false
    → new ≡ count_after old (one_if_ok answer)
    → turns_left old ≤ turns_left new + turns_to_share of
turns-share of old new answer filled counted =
    let one : turns_to_share of ≡ 1 = cond-false (is_empty of) 0 1 filled in
    omega (arith, counted, turns-counted old (one_if_ok answer))

-- the same view
KeepsNames-same : (view : TokenView) → KeepsNames view view
KeepsNames-same view = record { rounding = λ n policy named. named; limit = λ n limit known. known }

-- the same allocators show the same pins, and names that are kept
record ShowsSame (old new : MeasuredTree) : Type 0 where
  pub pins : (solo_view new).pins ≡ (solo_view old).pins
  pub names : KeepsNames (solo_view old) (solo_view new)

shows-same : (old new : MeasuredTree) → new.state.nodes ≡ old.state.nodes → ShowsSame old new
shows-same old new same = record {
  pins = ap (λ nodes. (solo_view (record old { state = record old.state { nodes = nodes } })).pins) same;
  names = record { rounding = λ n policy named. named; limit = λ n limit known. ap (λ nodes. limit_at nodes n) same ∙ known };
}

-- a request for a buffer
pub makes-grant : (at : AllocId) (request : ℕ) (answer : Result Ref BufferRefused) (old new : MeasuredTree) → IsLawfulState old.state
    → IsGrantCall at request answer old new → new.calls ≡ count_after old.calls (new.state.drawn - old.state.drawn)
    → MakesCall solo_model (Grant at request (named (λ hold. hold) answer)) old new
makes-grant at request answer old new lawful call counted =
    let shown = shows-same old new (nodes-grant at request answer old new call) in
    let free = charged_for (rounded_size Power request) == 0 in
    let turns : turns_left old.calls ≤ turns_left new.calls + (if free then 0 else 1) =
    cond_both free 0 1 (λ spent. turns_left old.calls ≤ turns_left new.calls + spent)
    (λ none. let drawn = undrawn-grant at request answer old new call (eqb-true _ 0 none) in
    omega (arith, counted, turns-uncounted old.calls (new.state.drawn - old.state.drawn) (omega (arith, drawn))))
    (λ some. omega (arith, counted, turns-counted old.calls (new.state.drawn - old.state.drawn))) in
    subst (λ told. MakesCall solo_model (Grant at request told) old new) (sym (named-same answer))
    (record {
      answer = answer-grant at request answer old new lawful call;
      view = record { turns = turns; bytes = omega arith; pins = shown.pins; names = shown.names; child = tt };
      meaning = means-grant at request answer old new call;
    })

-- a further reference, where the call is counted or spends a turn
pub makes-retain : (of : Ref) (target : AllocId) (answer : Result Ref RefRefused) (old new : MeasuredTree)
    → IsRetainAnswer (solo_view old) of target answer → SoloMeans (Retain of target answer) old new → new.state.nodes ≡ old.state.nodes
    → turns_left old.calls ≤ turns_left new.calls + turns_to_share of
    → MakesCall solo_model (Retain of target (named (λ hold. hold) answer)) old new
makes-retain of target answer old new is means same turns =
    let shown = shows-same old new same in
    subst (λ told. MakesCall solo_model (Retain of target told) old new) (sym (named-same answer))
    (record {
      answer = is;
      view = record { turns = turns; bytes = omega arith; pins = shown.pins; names = shown.names; child = tt };
      meaning = means;
    })

pub makes-transfer : (of : Ref) (target : AllocId) (answer : Result (Ref × Bool) RefRefused) (old new : MeasuredTree)
    → IsTransferAnswer (solo_view old) of target answer → SoloMeans (Transfer of target answer) old new → new.state.nodes ≡ old.state.nodes
    → turns_left old.calls ≤ turns_left new.calls + turns_to_share of
    → MakesCall solo_model (Transfer of target (named_fit (λ hold. hold) answer)) old new
makes-transfer of target answer old new is means same turns =
    let shown = shows-same old new same in
    subst (λ told. MakesCall solo_model (Transfer of target told) old new) (sym (named_fit-same answer))
    (record {
      answer = is;
      view = record { turns = turns; bytes = omega arith; pins = shown.pins; names = shown.names; child = tt };
      meaning = means;
    })

-- giving back
pub makes-release : (of : Ref) (answer : Bool) (old new : MeasuredTree) → (is_empty of ≡ true → answer ≡ false)
    → SoloMeans (Release of answer) old new → new.state.nodes ≡ old.state.nodes → new.calls ≡ old.calls
    → MakesCall solo_model (Release of answer) old new
makes-release of answer old new is means same counted =
    let shown = shows-same old new same in
    record {
      answer = is;
      view = record { turns = omega (arith, counted); bytes = omega arith; pins = shown.pins; names = shown.names; child = tt };
      meaning = means;
    }

-- what the making of a child tells and shows, by its definition
record ShowsChild (old : MeasuredTree) (parent : AllocId) (reservation limit : ℕ) (answer : Result AllocId ChildRefused)
    (new : MeasuredTree) : Type 0 where
  pub answer_is : IsChildAnswer (solo_view old) parent reservation limit answer
  pub pins : ChangesPins (Child parent reservation limit answer) (solo_view old).pins (solo_view new).pins
  pub names : KeepsNames (solo_view old) (solo_view new)
  pub child : NamesChild (Child parent reservation limit answer) (solo_view old) (solo_view new)

-- the same of a tree that has this state after the call
abbrev ShowsState : MeasuredTree → AllocId → ℕ → ℕ → MeasuredTree → Result AllocId ChildRefused → TreeState → Type 0
ShowsState old parent reservation limit new answer state = ShowsChild old parent reservation limit answer (record new { state = state })

module _ (old new : MeasuredTree) (parent : AllocId) (reservation limit : ℕ) (lawful : IsLawfulState old.state) where
  shows-made : (refusing : Option TreeNode) → reservation ≤ limit
      → refusing_level old.state.nodes (charges_in old.state) (record { at = parent; amount = reservation }) ≡ refusing
      → ShowsState old parent reservation limit new (child_answer old.state (record { at = parent; amount = reservation }) refusing)
      (after_child old.state (child_node old.state parent reservation limit) refusing)
  shows-made None reserves is =
      let child = child_node old.state parent reservation limit in
      record {
        answer_is = reserves;
        pins = pins-child old.state child lawful refl refl;
        names = record { rounding = λ n policy named. named; limit = λ n known e. limits-child old.state child lawful refl refl n known e };
        child = (
          refl,
          subst (λ (known : Option ℕ). IfSome known (λ k. k ≡ limit)) (sym (limit-child old.state child lawful refl refl))
              refl,
        );
      }
  shows-made (Some level) reserves is = record {
    answer_is = (reserves, refusal-past old (record { at = parent; amount = reservation }) level lawful is);
    pins = refl;
    names = record { rounding = λ n policy named. named; limit = λ n known e. e };
    child = tt;
  }

  shows-child : ShowsState old parent reservation limit new (child_result old.state parent reservation limit).answer
      (child_result old.state parent reservation limit).state
  unfolding child_result
  shows-child =
      let state = old.state in
      let P : CallResult (Result AllocId ChildRefused) → Type 0 =
      λ result. ShowsState old parent reservation limit new result.answer result.state in
      cond_both (nat_lt limit reservation) _ _ P
      (λ above. record {
        answer_is = (ltb-true limit reservation above, refl, refl);
        pins = refl;
        names = record { rounding = λ n policy named. named; limit = λ n known e. e };
        child = tt;
      }) (λ within.
      let reserves : reservation ≤ limit = omega (arith, ltb-false limit reservation within) in
      cond_both (not (is_open state parent.0)) _ _ P
      (λ _. record {
        answer_is = (reserves, refl);
        pins = refl;
        names = record { rounding = λ n policy named. named; limit = λ n known e. e };
        child = tt;
      }) (λ _.
      cond_both (nat_le MOST_ALLOCATORS state.next) _ _ P
      (λ many. record {
        answer_is = (reserves, leb-true MOST_ALLOCATORS state.next many);
        pins = refl;
        names = record { rounding = λ n policy named. named; limit = λ n known e. e };
        child = tt;
      }) (λ _.
      shows-made (refusing_level state.nodes (charges_in state) (record { at = parent; amount = reservation })) reserves refl)))

-- the making of a child
pub makes-child : (parent : AllocId) (reservation limit : ℕ) (answer : Result AllocId ChildRefused) (old new : MeasuredTree)
    → IsLawfulState old.state → IsTreeCall (λ a. a) answer (child_result old.state parent reservation limit) old new
    → new.calls ≡ count_after old.calls (new.state.next - old.state.next)
    → MakesCall solo_model (Child parent reservation limit answer) old new
makes-child parent reservation limit answer old new lawful call counted =
    let shown : ShowsChild old parent reservation limit answer new =
    subst (λ told. ShowsChild old parent reservation limit told new) (sym call.answer_is)
    (subst (ShowsState old parent reservation limit new (child_result old.state parent reservation limit).answer) (sym call.after.state)
    (shows-child old new parent reservation limit lawful)) in
    record {
      answer = shown.answer_is;
      view = record {
        turns = omega (arith, counted, turns-counted old.calls (new.state.next - old.state.next));
        bytes = omega arith;
        pins = shown.pins;
        names = shown.names;
        child = shown.child;
      };
      meaning = call;
    }

-- what a closing tells and shows, by its definition
record ShowsClose (tree : MeasuredTree) (at : AllocId) (answer : Result (Unit {0}) NotClosed) (new : TreeState) : Type 0 where
  pub answer_is : IsCloseAnswer answer
  pub pins : ChangesPins (Close at answer) (solo_view tree).pins (solo_view (record tree { state = new })).pins
  pub names : KeepsNames (solo_view tree) (solo_view (record tree { state = new }))

shows-close : (tree : MeasuredTree) (at : AllocId)
    → ShowsClose tree at (close_result tree.state at).answer (close_result tree.state at).state
unfolding close_result
shows-close tree at =
    let state = tree.state in
    let P : CallResult (Result (Unit {0}) NotClosed) → Type 0 = λ result. ShowsClose tree at result.answer result.state in
    let names = KeepsNames-same (solo_view tree) in
    cond_both (not (is_open state at.0)) _ _ P (λ _. record { answer_is = tt; pins = refl; names = names }) (λ _.
    cond_both (nat_lt 0 (uses_of state at.0)) _ _ P
    (λ used. record { answer_is = ltb-true 0 (uses_of state at.0) used; pins = refl; names = names })
    (λ _. record {
      answer_is = tt;
      pins = loses-closed at state.nodes;
      names = record { rounding = λ n policy named. named; limit = λ n known e. limits-closed at.0 n state.nodes ∙ e };
    }))

-- a closing
pub makes-close : (at : AllocId) (answer : Result (Unit {0}) NotClosed) (old new : MeasuredTree)
    → IsTreeCall (λ a. a) answer (close_result old.state at) old new → new.calls ≡ old.calls
    → MakesCall solo_model (Close at answer) old new
makes-close at answer old new call counted =
    let shown : ShowsClose old at answer new.state =
    subst (λ told. ShowsClose old at told new.state) (sym call.answer_is)
    (subst (ShowsClose old at (close_result old.state at).answer) (sym call.after.state) (shows-close old at)) in
    record {
      answer = shown.answer_is;
      view = record {
        turns = omega (arith, counted);
        bytes = omega arith;
        pins = shown.pins;
        names = record { rounding = shown.names.rounding; limit = shown.names.limit };
        child = tt;
      };
      meaning = call;
    }
