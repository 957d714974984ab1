-- A planned call of the memory of one thread comes to what the plan says.
use Rattle.std.proofs.Common.{◌≡◌, ℕ, Bool, true, false, zero, suc, List, [], ◌∷◌, ◌++◌, refl, sym, ◌∙◌, ap, subst}
use Rattle.std.proofs.Common.{true≢false}
use Rattle.std.proofs.lemmas.Bool.{eqb-true}
use Rattle.std.specs.Prelude.{◌==◌, Result, Ok, Err, ⊤}
use Rattle.mem_num.specs.declared.alloc_id.AllocId.{AllocId}
use Rattle.mem_num.specs.declared.buffer_ref.Ref.{Ref}
use Rattle.mem_num.specs.declared.buffer_refused.BufferRefused.{BufferRefused}
use Rattle.mem_num.specs.declared.buffer_refused.BufferRefused.TheVariants as buffer
use Rattle.mem_num.specs.declared.ref_refused.RefRefused.{RefRefused}
use Rattle.mem_num.specs.declared.ref_refused.RefRefused.TheVariants as sharing
use Rattle.mem_num.specs.declared.solo_refused.SoloRefused.{SoloRefused}
use Rattle.mem_num.specs.declared.solo_refused.SoloRefused.TheVariants as solo
use Rattle.mem_model.specs.Calls as plan
use Rattle.mem_model.specs.Calls.{CallAnswer, ToChild, ToClose, ToGrant, ToRetain, ToTransfer, ToRelease, answers_of, call_result}
use Rattle.mem_model.specs.Grant.{grant_result}
use Rattle.mem_model.specs.LawfulState.{IsLawfulState}
use Rattle.mem_model.specs.MeasuredTree.{MeasuredTree, IsAfterCall, peak_at, raised_peaks}
use Rattle.mem_model.specs.PlannedCalls.{PlannedCall, no_reference, reference_given, reference_at, planned_result}
use Rattle.mem_model.specs.Retain.{retain_result}
use Rattle.mem_model.specs.Transfer.{transfer_result}
use Rattle.mem_model.specs.TreeState.{TreeState, CallResult}
use Rattle.mem_model.proofs.PlannedLemmas.{release-none, retain-none, transfer-none}
use Rattle.mem_buf.specs.Answers.{IsAnswer}
use Rattle.mem_buf.specs.Chain.{MakesCall}
use Rattle.mem_buf.specs.MemoryCall.{MemoryCall, Grant, Retain, Transfer, Release}
use Rattle.mem_buf.specs.TokenView.{is_empty}
use Rattle.alloc_tree.specs.SoloCalls.{HasMemory}
use Rattle.alloc_tree.specs.SoloMeaning.{IsTreeCall, SoloMeans, solo_model, empty_at, told_further, told_moved}
use Rattle.alloc_tree.specs.SoloPlanned.{IsPlanned, IsTold, given_at, reference_by}

-- two references are to the same chunk, and are the same where there is one
pub record SameRef (a b : Ref) : Type 0 where
  pub chunk : a.chunk ≡ b.chunk
  pub same : (a.chunk ≡ 0 → ⊥) → a ≡ b

same-refl : (a : Ref) → SameRef a a
same-refl a = record { chunk = refl; same = λ some. refl }

-- references that calls gave are those of the answers, one by one
unfoldable pub AreSame : List Ref → List CallAnswer → Type 0
AreSame [] [] = ⊤
AreSame [] (answer ∷ answers) = ⊥
AreSame (given ∷ rest) [] = ⊥
AreSame (given ∷ rest) (answer ∷ answers) = SameRef given (reference_given answer) × AreSame rest answers

-- so they are at each place
same-at : (given : List Ref) (answers : List CallAnswer) (place : ℕ) → AreSame given answers
    → SameRef (given_at given place) (reference_at answers place)
unfolding AreSame
same-at [] [] place are = same-refl no_reference
same-at [] (answer ∷ answers) place are = absurd are
same-at (one ∷ given) [] place are = absurd are
same-at (one ∷ given) (answer ∷ answers) zero are = are.0
same-at (one ∷ given) (answer ∷ answers) (suc place) are = same-at given answers place are.1

pub same-more : (given : List Ref) (answers : List CallAnswer) (one : Ref) (answer : CallAnswer) → AreSame given answers
    → SameRef one (reference_given answer) → AreSame (given ++ one ∷ []) (answers ++ answer ∷ [])
unfolding AreSame
same-more [] [] one answer are same = (same, tt)
same-more [] (a ∷ answers) one answer are same = absurd are
same-more (g ∷ given) [] one answer are same = absurd are
same-more (g ∷ given) (a ∷ answers) one answer are same = (are.0, same-more given answers one answer are.1 same)

-- what a planned call comes to: it leaves the tree of the plan, gives the same reference, and is answered the same
pub record IsStepFrom (state : TreeState) (answers : List CallAnswer) (planned : PlannedCall) (call : MemoryCall)
    (old new : MeasuredTree) : Type 0 where
  pub after : IsAfterCall old (planned_result state answers planned) new
  pub same : SameRef (reference_by call) (reference_given (planned_result state answers planned).answer)
  pub told : IsTold call (planned_result state answers planned).answer

abbrev IsStep : List Ref → List CallAnswer → PlannedCall → MemoryCall → MeasuredTree → MeasuredTree → Type 0
IsStep given answers planned call old new = IsStepFrom old.state answers planned call old new

-- a tree that stands still
pub still : {A : Type 0} (old new : MeasuredTree) (call : CallResult A) → new ≡ old → call.state ≡ old.state → call.samples ≡ []
    → IsAfterCall old call new
still old new call same state none = record {
  state = ap (λ (tree : MeasuredTree). tree.state) same ∙ sym state;
  peaks = λ n. ap (λ (tree : MeasuredTree). peak_at tree n) same ∙ ap (λ samples. raised_peaks (peak_at old) samples n) (sym none);
}

-- references to no chunk
same-none : (a b : Ref) → a.chunk ≡ 0 → b.chunk ≡ 0 → SameRef a b
same-none a b first second = record { chunk = first ∙ sym second; same = λ some. absurd (some first) }

-- a granted buffer
granted : (at : AllocId) (request : ℕ) (answer : Result Ref BufferRefused)
    → reference_by (Grant at request answer) ≡ reference_given (ToGrant answer)
granted at request (Ok given) = refl
granted at request (Err refused) = refl

-- what a further reference is told as
further-same : (of : Ref) (target : AllocId) (told : Result Ref SoloRefused) (answer : Result Ref RefRefused)
    → answer ≡ told_further target told → SameRef (reference_by (Retain of target answer)) (reference_given (ToRetain told))
further-same of target (Ok given) answer is =
    subst (λ a. SameRef (reference_by (Retain of target a)) given) (sym is) (same-refl given)
further-same of target (Err (solo.Released refused)) answer is =
    subst (λ a. SameRef (reference_by (Retain of target a)) no_reference) (sym is) (same-none (empty_at target) no_reference refl refl)
further-same of target (Err (solo.Closed refused)) answer is =
    subst (λ a. SameRef (reference_by (Retain of target a)) no_reference) (sym is) (same-refl no_reference)
further-same of target (Err solo.NoMemory) answer is =
    subst (λ a. SameRef (reference_by (Retain of target a)) no_reference) (sym is) (same-refl no_reference)

moved-same : (of : Ref) (target : AllocId) (told : Result (Ref × Bool) SoloRefused) (answer : Result (Ref × Bool) RefRefused)
    → answer ≡ told_moved target told → SameRef (reference_by (Transfer of target answer)) (reference_given (ToTransfer told))
moved-same of target (Ok given) answer is =
    subst (λ a. SameRef (reference_by (Transfer of target a)) given.0) (sym is) (same-refl given.0)
moved-same of target (Err (solo.Released refused)) answer is =
    subst (λ a. SameRef (reference_by (Transfer of target a)) no_reference) (sym is) (same-none (empty_at target) no_reference refl refl)
moved-same of target (Err (solo.Closed refused)) answer is =
    subst (λ a. SameRef (reference_by (Transfer of target a)) no_reference) (sym is) (same-refl no_reference)
moved-same of target (Err solo.NoMemory) answer is =
    subst (λ a. SameRef (reference_by (Transfer of target a)) no_reference) (sym is) (same-refl no_reference)

-- a further reference to no chunk is to none
further-none : (of : Ref) (target : AllocId) (answer : Result Ref RefRefused) (tree : MeasuredTree) → is_empty of ≡ true
    → IsAnswer (solo_model.view tree) (Retain of target answer) → (reference_by (Retain of target answer)).chunk ≡ 0
further-none of target (Ok given) tree empty is = eqb-true given.chunk 0 (is.empty empty)
further-none of target (Err refused) tree empty is = refl

moved-none : (of : Ref) (target : AllocId) (answer : Result (Ref × Bool) RefRefused) (tree : MeasuredTree) → is_empty of ≡ true
    → IsAnswer (solo_model.view tree) (Transfer of target answer) → (reference_by (Transfer of target answer)).chunk ≡ 0
moved-none of target (Ok moved) tree empty is = eqb-true moved.0.chunk 0 (is.0.empty empty)
moved-none of target (Err refused) tree empty is = refl

-- a reference to a chunk isn't empty
some-chunk : (of : Ref) → is_empty of ≡ false → of.chunk ≡ 0 → ⊥
some-chunk of filled none = true≢false (sym (ap (λ n. n == 0) none) ∙ filled)

module _ (answers : List CallAnswer) (old new : MeasuredTree) (lawful : IsLawfulState old.state) where
  -- the step of a further reference
  retain-step : (given : List Ref) (place : ℕ) (of : Ref) (target : AllocId) (answer : Result Ref RefRefused) (empty : Bool)
      → is_empty of ≡ empty → SameRef of (reference_at answers place) → HasMemory (Retain of target answer)
      → MakesCall solo_model (Retain of target answer) old new → IsStep given answers (plan.Retain place target) (Retain of target answer) old new
  retain-step given place of target answer true empty same has made =
      let p = reference_at answers place in
      let none : p.chunk ≡ 0 = sym same.chunk ∙ eqb-true of.chunk 0 empty in
      let result = retain-none old.state p target lawful none in
      record {
        after = still old new _ (means-same answer made.meaning) (ap (λ r. r.state) result) (ap (λ r. r.samples) result);
        same = same-none _ _ (further-none of target answer old empty made.answer)
            (ap (λ r. (reference_given (ToRetain r.answer)).chunk) result);
        told = tt;
      }
    where
      means-same : (answer : Result Ref RefRefused) → SoloMeans (Retain of target answer) old new → new ≡ old
      means-same (Ok given) means = means.empty empty
      means-same (Err (sharing.Closed refused)) means = means.empty empty
      means-same (Err sharing.NoMemory) means = means
  retain-step given place of target answer false filled same has made =
      let p = reference_at answers place in
      let is : of ≡ p = same.same (some-chunk of filled) in
      let call = means-call answer has made.meaning in
      record {
        after = subst (λ r. IsAfterCall old (planned_call r) new) is (record { state = call.after.state; peaks = call.after.peaks });
        same = subst (λ r. SameRef (reference_by (Retain of target answer)) (reference_given (ToRetain (retain_result old.state r target).answer)))
            is (further-same of target (retain_result old.state of target).answer answer call.answer_is);
        told = tt;
      }
    where
      planned_call : Ref → CallResult CallAnswer
      planned_call r = call_result old.state (plan.Retain r target)

      means-call : (answer : Result Ref RefRefused) → HasMemory (Retain of target answer) → SoloMeans (Retain of target answer) old new
          → IsTreeCall (told_further target) answer (retain_result old.state of target) old new
      means-call (Ok given) has means = means.tree_call
      means-call (Err (sharing.Closed refused)) has means = means.tree_call
      means-call (Err sharing.NoMemory) has means = absurd has

  -- of a transfer
  transfer-step : (given : List Ref) (place : ℕ) (of : Ref) (target : AllocId) (answer : Result (Ref × Bool) RefRefused) (empty : Bool)
      → is_empty of ≡ empty → SameRef of (reference_at answers place) → HasMemory (Transfer of target answer)
      → MakesCall solo_model (Transfer of target answer) old new
      → IsStep given answers (plan.Transfer place target) (Transfer of target answer) old new
  transfer-step given place of target answer true empty same has made =
      let p = reference_at answers place in
      let none : p.chunk ≡ 0 = sym same.chunk ∙ eqb-true of.chunk 0 empty in
      let result = transfer-none old.state p target lawful none in
      record {
        after = still old new _ (means-same answer made.meaning) (ap (λ r. r.state) result) (ap (λ r. r.samples) result);
        same = same-none _ _ (moved-none of target answer old empty made.answer)
            (ap (λ r. (reference_given (ToTransfer r.answer)).chunk) result);
        told = tt;
      }
    where
      means-same : (answer : Result (Ref × Bool) RefRefused) → SoloMeans (Transfer of target answer) old new → new ≡ old
      means-same (Ok moved) means = means.empty empty
      means-same (Err (sharing.Closed refused)) means = means.empty empty
      means-same (Err sharing.NoMemory) means = means
  transfer-step given place of target answer false filled same has made =
      let p = reference_at answers place in
      let is : of ≡ p = same.same (some-chunk of filled) in
      let call = means-call answer has made.meaning in
      record {
        after = subst (λ r. IsAfterCall old (planned_call r) new) is (record { state = call.after.state; peaks = call.after.peaks });
        same = subst (λ r. SameRef (reference_by (Transfer of target answer))
            (reference_given (ToTransfer (transfer_result old.state r target).answer)))
            is (moved-same of target (transfer_result old.state of target).answer answer call.answer_is);
        told = tt;
      }
    where
      planned_call : Ref → CallResult CallAnswer
      planned_call r = call_result old.state (plan.Transfer r target)

      means-call : (answer : Result (Ref × Bool) RefRefused) → HasMemory (Transfer of target answer)
          → SoloMeans (Transfer of target answer) old new → IsTreeCall (told_moved target) answer (transfer_result old.state of target) old new
      means-call (Ok moved) has means = means.tree_call
      means-call (Err (sharing.Closed refused)) has means = means.tree_call
      means-call (Err sharing.NoMemory) has means = absurd has

  -- of a release
  release-step : (given : List Ref) (place : ℕ) (of : Ref) (answer : Bool) (empty : Bool) → is_empty of ≡ empty
      → SameRef of (reference_at answers place) → MakesCall solo_model (Release of answer) old new
      → IsStep given answers (plan.Release place) (Release of answer) old new
  release-step given place of answer true empty same made =
      let p = reference_at answers place in
      let none : p.chunk ≡ 0 = sym same.chunk ∙ eqb-true of.chunk 0 empty in
      let result = release-none old.state p lawful none in
      record {
        after = still old new _ (made.meaning.empty empty) (ap (λ r. r.state) result) (ap (λ r. r.samples) result);
        same = same-refl no_reference;
        told = tt;
      }
  release-step given place of answer false filled same made =
      let is : of ≡ reference_at answers place = same.same (some-chunk of filled) in
      let call = made.meaning.tree_call in
      record {
        after = subst (λ r. IsAfterCall old (planned_call r) new) is (record { state = call.after.state; peaks = call.after.peaks });
        same = same-refl no_reference;
        told = tt;
      }
    where
      planned_call : Ref → CallResult CallAnswer
      planned_call r = call_result old.state (plan.Release r)

  -- of a request
  grant-step : (given : List Ref) (at : AllocId) (request : ℕ) (answer : Result Ref BufferRefused) → HasMemory (Grant at request answer)
      → MakesCall solo_model (Grant at request answer) old new
      → IsStep given answers (plan.Grant at request) (Grant at request answer) old new
  grant-step given at request answer has made =
      let call = means-call answer has made.meaning in
      record {
        after = record { state = call.after.state; peaks = call.after.peaks };
        same = subst (λ r. SameRef (reference_by (Grant at request answer)) (reference_given (ToGrant r))) call.answer_is
            (subst (λ r. SameRef (reference_by (Grant at request answer)) r) (granted at request answer) (same-refl _));
        told = ap ToGrant (sym call.answer_is);
      }
    where
      means-call : (answer : Result Ref BufferRefused) → HasMemory (Grant at request answer) → SoloMeans (Grant at request answer) old new
          → IsTreeCall (λ a. a) answer (grant_result old.state at request) old new
      means-call (Ok given) has means = means
      means-call (Err (buffer.TooLarge refused)) has means = means
      means-call (Err (buffer.Closed refused)) has means = means
      means-call (Err (buffer.Full full)) has means = means
      means-call (Err buffer.NoMemory) has means = absurd has

  -- a planned call
  pub step : (given : List Ref) (planned : PlannedCall) (call : MemoryCall) → AreSame given answers → IsPlanned given planned call
      → HasMemory call → MakesCall solo_model call old new → IsStep given answers planned call old new
  step given (plan.Child parent reservation limit) call are is has made =
      subst (λ c. IsStep given answers (plan.Child parent reservation limit) c old new) (sym is.1)
      (let one = subst (λ c. MakesCall solo_model c old new) is.1 made in
      let means = one.meaning in
      record {
        after = record { state = means.after.state; peaks = means.after.peaks };
        same = same-refl no_reference;
        told = ap ToChild (sym means.answer_is);
      })
  step given (plan.Close at) call are is has made =
      subst (λ c. IsStep given answers (plan.Close at) c old new) (sym is.1)
      (let one = subst (λ c. MakesCall solo_model c old new) is.1 made in
      let means = one.meaning in
      record {
        after = record { state = means.after.state; peaks = means.after.peaks };
        same = same-refl no_reference;
        told = ap ToClose (sym means.answer_is);
      })
  step given (plan.Grant at request) call are is has made =
      subst (λ c. IsStep given answers (plan.Grant at request) c old new) (sym is.1)
      (grant-step given at request is.0 (subst HasMemory is.1 has) (subst (λ c. MakesCall solo_model c old new) is.1 made))
  step given (plan.Retain place target) call are is has made =
      subst (λ c. IsStep given answers (plan.Retain place target) c old new) (sym is.1)
      (retain-step given place (given_at given place) target is.0 _ refl (same-at given answers place are) (subst HasMemory is.1 has)
      (subst (λ c. MakesCall solo_model c old new) is.1 made))
  step given (plan.Transfer place target) call are is has made =
      subst (λ c. IsStep given answers (plan.Transfer place target) c old new) (sym is.1)
      (transfer-step given place (given_at given place) target is.0 _ refl (same-at given answers place are) (subst HasMemory is.1 has)
      (subst (λ c. MakesCall solo_model c old new) is.1 made))
  step given (plan.Release place) call are is has made =
      subst (λ c. IsStep given answers (plan.Release place) c old new) (sym is.1)
      (release-step given place (given_at given place) is.0 _ refl (same-at given answers place are)
      (subst (λ c. MakesCall solo_model c old new) is.1 made))
