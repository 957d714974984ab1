-- Planned calls of the memory of one thread leave what the plan leaves.
use Rattle.std.proofs.Common.{◌≡◌, ℕ, max, List, [], ◌∷◌, ◌++◌, All, map, fold, refl, sym, ◌∙◌, ap, subst}
use Rattle.std.proofs.lemmas.List.Elements.{All-head, All-tail, filter-append}
use Rattle.std.proofs.lemmas.List.{map-append}
use Rattle.std.proofs.lemmas.List.Sums.{fold-append}
use Rattle.std.specs.Prelude.{filter}
use Rattle.mem_num.specs.declared.buffer_ref.Ref.{Ref}
use Rattle.mem_model.specs.Calls as plan
use Rattle.mem_model.specs.Calls.{CallAnswer, ToChild, ToClose, ToGrant, ToRetain, ToTransfer, ToRelease, answers_of, call_result}
use Rattle.mem_model.specs.LawfulState.{IsLawfulState}
use Rattle.mem_model.specs.MeasuredTree.{MeasuredTree, IsAfterCall, peak_at, raised_peaks}
use Rattle.mem_model.specs.PeakSample.{PeakSample, held_in, is_counted}
use Rattle.mem_model.specs.PlannedCalls.{PlannedCall, call_of, planned_result, run_behind, run_planned, calls_behind}
use Rattle.mem_model.specs.TreeState.{TreeState, CallResult}
use Rattle.mem_model.proofs.CallsLemmas.{lawful-after_call}
use Rattle.mem_model.proofs.PlannedLemmas.{run-planned}
use Rattle.mem_buf.specs.Chain.{MakesCalls}
use Rattle.mem_buf.specs.MemoryCall.{MemoryCall}
use Rattle.alloc_tree.specs.SoloCalls.{HasMemory}
use Rattle.alloc_tree.specs.SoloMeaning.{solo_model}
use Rattle.alloc_tree.proofs.SoloStepLemmas.{AreSame, IsStepFrom, same-more, step, still}
use Rattle.alloc_tree.specs.SoloPlanned.{AreBoundedPlans, ArePlanned, AreTold, IsBoundedPlan, reference_by}

-- peaks that two lists of samples raise, one after the other
raised-append : (peaks : ℕ → ℕ) (samples more : List PeakSample) (n : ℕ)
    → raised_peaks peaks (samples ++ more) n ≡ raised_peaks (raised_peaks peaks samples) more n
raised-append peaks samples more n =
    ap (λ xs. fold max (peaks n) (map (held_in n) xs)) (filter-append (is_counted n) samples more)
    ∙ ap (fold max (peaks n)) (map-append (held_in n) (filter (is_counted n) samples) (filter (is_counted n) more))
    ∙ fold-append max (peaks n) (map (held_in n) (filter (is_counted n) samples)) (map (held_in n) (filter (is_counted n) more))

-- a call and those behind it
after-both : {A B C : Type 0} (old middle new : MeasuredTree) (first : CallResult A) (rest : CallResult B) (answer : C)
    → IsAfterCall old first middle → IsAfterCall middle rest new
    → IsAfterCall old (record { answer = answer; state = rest.state; samples = first.samples ++ rest.samples }) new
after-both old middle new first rest answer one two = record {
  state = two.state;
  peaks = λ n. two.peaks n ∙ ap (λ f. raised_peaks f rest.samples n) (λ j k. one.peaks k j)
      ∙ sym (raised-append (peak_at old) first.samples rest.samples n);
}

-- the call that a planned one comes to is within bounds
bounded-call : (answers : List CallAnswer) (planned : PlannedCall) → IsBoundedPlan planned → plan.IsBoundedCall (call_of answers planned)
bounded-call answers (plan.Child parent reservation limit) bounded = bounded
bounded-call answers (plan.Close at) bounded = tt
bounded-call answers (plan.Grant at request) bounded = tt
bounded-call answers (plan.Retain place target) bounded = tt
bounded-call answers (plan.Transfer place target) bounded = tt
bounded-call answers (plan.Release place) bounded = tt

-- calls that were planned, behind others: they leave what the plan leaves, and were answered as it is
record AreRun (answers : List CallAnswer) (planned : List PlannedCall) (calls : List MemoryCall) (state : TreeState)
    (old new : MeasuredTree) : Type 0 where
  pub after : IsAfterCall old (run_behind state answers planned) new
  pub told : AreTold calls (answers_of state (calls_behind state answers planned))

run-from : (given : List Ref) (answers : List CallAnswer) (planned : List PlannedCall) (calls : List MemoryCall) (state : TreeState)
    (old new : MeasuredTree) → old.state ≡ state → IsLawfulState state → AreBoundedPlans planned → All HasMemory calls
    → AreSame given answers → ArePlanned given planned calls → MakesCalls solo_model calls old new
    → AreRun answers planned calls state old new
run-from given answers [] [] state old new same lawful bounded has are is made =
    record { after = still old new _ made (sym same) refl; told = tt }
run-from given answers [] (call ∷ calls) state old new same lawful bounded has are is made = absurd is
run-from given answers (planned ∷ later) [] state old new same lawful bounded has are is made = absurd is
run-from given answers (planned ∷ later) (call ∷ calls) state old new same lawful bounded has are is made =
    let at_old : IsLawfulState old.state = subst IsLawfulState (sym same) lawful in
    let one = subst (λ s. IsStepFrom s answers planned call old made.0) same
    (step answers old made.0 at_old given planned call are is.0 (All-head HasMemory call calls has) made.1) in
    let first = planned_result state answers planned in
    let rest = run-from (given ++ reference_by call ∷ []) (answers ++ first.answer ∷ []) later calls first.state made.0 new one.after.state
    (lawful-after_call state (call_of answers planned) lawful
    (bounded-call answers planned (All-head IsBoundedPlan planned later bounded)))
    (All-tail IsBoundedPlan planned later bounded) (All-tail HasMemory call calls has)
    (same-more given answers (reference_by call) first.answer are one.same) is.1 made.2 in
    record {
      after = after-both old made.0 new first (run_behind first.state (answers ++ first.answer ∷ []) later) _ one.after rest.after;
      told = (one.told, rest.told);
    }

module _ (planned : List PlannedCall) (calls : List MemoryCall) (old new : MeasuredTree) (lawful : IsLawfulState old.state)
    (bounded : AreBoundedPlans planned) (has : All HasMemory calls) (are : ArePlanned [] planned calls)
    (made : MakesCalls solo_model calls old new) where
  -- the calls run as the plan does
  run : AreRun [] planned calls old.state old new
  unfolding AreSame
  run = run-from [] [] planned calls old.state old new refl lawful bounded has tt are made

  pub planned-after : IsAfterCall old (run_planned old.state planned) new
  planned-after = run.after

  pub planned-told : AreTold calls (run_planned old.state planned).answer
  planned-told = subst (AreTold calls) (sym (ap (λ result. result.answer) (run-planned old.state planned))) run.told
