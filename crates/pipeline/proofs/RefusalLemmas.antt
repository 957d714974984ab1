-- The first refusal of a query with one worker, and what its tree is without one.
use Rattle.std.proofs.Common.{◌≡◌, ◌+◌, ◌*◌, ◌≤◌, ℕ, List, [], ◌∷◌, ◌++◌, All, length, map, drop, Option, Some, None, Result, Err}
use Rattle.std.proofs.Common.{refl, sym, ◌∙◌, ap, subst, append_assoc, arith}
use Rattle.std.proofs.lemmas.List.{length-append, length-map, map-append}
use Rattle.std.proofs.lemmas.List.Elements.{All-append, All-cons, All-drop, All-head, All-map, All-nil, All-tail, All-weaker}
use Rattle.std.specs.Prelude.{flat_map, slice_index_or}
use Rattle.std.specs.List.{range_with_len}
use Rattle.mem_num.specs.declared.bounds.TheConstants.{MAX_LIMIT, MAX_RESERVATION}
use Rattle.mem_num.specs.declared.alloc_id.AllocId.{AllocId}
use Rattle.mem_num.specs.declared.buffer_ref.Ref.{Ref}
use Rattle.mem_num.specs.declared.buffer_refused.BufferRefused.{BufferRefused}
use Rattle.mem_num.specs.declared.buffer_refused.BufferRefused.TheVariants as buffer
use Rattle.mem_num.specs.declared.child_refused.ChildRefused.{ChildRefused}
use Rattle.mem_num.specs.declared.child_refused.ChildRefused.TheVariants as child
use Rattle.mem_num.specs.declared.full.Full.{Full}
use Rattle.mem_model.specs.Calls as plan
use Rattle.mem_model.specs.Calls.{CallAnswer, answers_of}
use Rattle.mem_model.specs.LawfulState.{IsLawfulState}
use Rattle.mem_model.specs.MeasuredTree.{IsAfterCall, IsOpened, MeasuredTree, peak_at, raised_peaks}
use Rattle.mem_model.specs.PeakSample.{peak_of}
use Rattle.mem_model.specs.PlannedCalls.{PlannedCall, calls_behind, calls_planned, planned_result, run_planned}
use Rattle.mem_model.specs.TreeState.{CallResult, TreeState, opened}
use Rattle.mem_model.proofs.LawfulLemmas.{opened_lawful}
use Rattle.mem_model.proofs.PlannedLemmas.{run-planned}
use Rattle.mem_buf.specs.Chain.{MakesCalls}
use Rattle.mem_buf.specs.MemoryCall.{Child, Grant, MemoryCall}
use Rattle.alloc_tree.specs.SoloCalls.{HasMemory}
use Rattle.alloc_tree.specs.SoloMeaning.{solo_model}
use Rattle.alloc_tree.specs.SoloPlanned.{AreBoundedPlans, ArePlanned, AreTold, IsBoundedPlan, IsPlanned, IsTold, reference_by}
use Rattle.alloc_tree.proofs.SoloPlannedLemmas.{planned-after, planned-told}
use Rattle.query_model.specs.Answer.{answer_of}
use Rattle.query_model.specs.Buffers.{buffer_lengths}
use Rattle.query_model.specs.Filter.{meeting}
use Rattle.query_model.specs.Fit.{IsFit}
use Rattle.query_model.specs.Requests.{answer_kinds, batches_of, filter_id, kinds_of, project_id, result_id, root_id, scan_id, sums_id}
use Rattle.query_model.specs.SequentialCalls.{BatchCall, answer_places, batch_calls, calls_from, column_places, filter_places, first_full}
use Rattle.query_model.specs.SequentialCalls.{first_place, full_buffer, full_child, full_in, full_or, in_batch, merge_calls, move_calls}
use Rattle.query_model.specs.SequentialCalls.{opening_calls, output_calls, release_calls, scan_places, sequential_calls}
use Rattle.query_model.specs.SequentialCalls.{sequential_refusal, sequential_run, store_calls, unpicked, width}
use Rattle.query_model.specs.declared.cell.Cell.{Cell}
use Rattle.query_model.specs.declared.kind.Kind.{Kind}
use Rattle.query_model.specs.declared.output.Output.{Output}
use Rattle.query_model.specs.declared.output.Output.TheVariants.{Group, Select}
use Rattle.query_model.specs.declared.plan.Plan.{Plan}
use Rattle.pipeline.specs.BatchRun.{IsDone, full_of}
use Rattle.pipeline.proofs.PlaceLemmas.{planned-length}

-- buffers are within bounds, as all calls but children are
bounded-stored : (at : AllocId) (kinds : List Kind) (rows : List (List Cell)) → AreBoundedPlans (store_calls at kinds rows)
bounded-stored at kinds rows = All-map IsBoundedPlan (plan.Grant at) (buffer_lengths kinds rows) (λ k d within. tt)

-- what is given back
bounded-released : (places : List ℕ) → AreBoundedPlans (release_calls places)
bounded-released places = All-map IsBoundedPlan plan.Release places (λ k d within. tt)

-- what moves
bounded-moved : (target : AllocId) (places : List ℕ) → AreBoundedPlans (move_calls target places)
bounded-moved target [] = All-nil IsBoundedPlan
bounded-moved target (place ∷ places) =
    All-cons IsBoundedPlan (plan.Transfer place target) (plan.Release place ∷ move_calls target places) tt
    (All-cons IsBoundedPlan (plan.Release place) (move_calls target places) tt (bounded-moved target places))

-- calls for each of some numbers
bounded-each : (calls : ℕ → List PlannedCall) → ((n : ℕ) → AreBoundedPlans (calls n)) → (numbers : List ℕ)
    → AreBoundedPlans (flat_map calls numbers)
bounded-each calls all [] = All-nil IsBoundedPlan
bounded-each calls all (n ∷ numbers) =
    All-append IsBoundedPlan (calls n) (flat_map calls numbers) (all n) (bounded-each calls all numbers)

-- the answer of a batch
bounded-output : (plan : Plan) (rows : List (List Cell)) (batch : ℕ) (output : Output)
    → AreBoundedPlans (output_calls plan rows batch output)
bounded-output plan rows batch (Select picks) =
    let first = first_place plan batch + 2 * width plan in
    All-append IsBoundedPlan _ _ (bounded-moved project_id (column_places first picks))
    (bounded-released (column_places first (unpicked (width plan) picks)))
bounded-output plan rows batch (Group key sums) =
    All-append IsBoundedPlan _ _ (bounded-stored sums_id (answer_kinds plan) (answer_of plan rows))
    (bounded-released (filter_places plan batch))

-- a batch
bounded-batch : (plan : Plan) (batch : ℕ) (rows : List (List Cell)) → AreBoundedPlans (batch_calls plan batch rows)
bounded-batch plan batch rows =
    let kinds = kinds_of plan.columns in
    All-append IsBoundedPlan _ _ (bounded-stored scan_id kinds rows)
    (All-append IsBoundedPlan _ _ (bounded-stored filter_id kinds (meeting plan.tests rows))
    (All-append IsBoundedPlan _ _ (bounded-released (scan_places plan batch)) (bounded-output plan rows batch plan.output)))

-- the merge
bounded-merge : (plan : Plan) (rows : List (List Cell)) (batches : List ℕ) (output : Output)
    → AreBoundedPlans (merge_calls plan rows batches output)
bounded-merge plan rows batches (Select picks) =
    bounded-each (λ batch. move_calls result_id (answer_places plan batch (Select picks)))
    (λ batch. bounded-moved result_id (answer_places plan batch (Select picks))) batches
bounded-merge plan rows batches (Group key sums) =
    All-append IsBoundedPlan _ _ (bounded-stored result_id (answer_kinds plan) (answer_of plan rows))
    (bounded-each (λ batch. release_calls (answer_places plan batch (Group key sums)))
    (λ batch. bounded-released (answer_places plan batch (Group key sums))) batches)

-- the children, by their limits and reservations
bounded-opening : (limits reserves : List ℕ) → All (λ limit. limit ≤ MAX_LIMIT) limits
    → All (λ reservation. reservation ≤ MAX_RESERVATION) reserves → AreBoundedPlans (opening_calls limits reserves)
bounded-opening [] reserves low few = All-nil IsBoundedPlan
bounded-opening (limit ∷ limits) [] low few = All-nil IsBoundedPlan
bounded-opening (limit ∷ limits) (reservation ∷ reserves) low few =
    All-cons IsBoundedPlan (plan.Child root_id reservation limit) (opening_calls limits reserves)
    (All-head (λ r. r ≤ MAX_RESERVATION) reservation reserves few, All-head (λ l. l ≤ MAX_LIMIT) limit limits low)
    (bounded-opening limits reserves (All-tail (λ l. l ≤ MAX_LIMIT) limit limits low)
    (All-tail (λ r. r ≤ MAX_RESERVATION) reservation reserves few))

-- calls with their batches are
abbrev AreBoundedIn : List BatchCall → Type 0
AreBoundedIn calls = All (λ one. IsBoundedPlan one.call) calls

-- those of one batch
bounded-in_batch : (batch : ℕ) (calls : List PlannedCall) → AreBoundedPlans calls → AreBoundedIn (in_batch batch calls)
bounded-in_batch batch calls all =
    All-map (λ (one : BatchCall). IsBoundedPlan one.call) (λ call. record { batch = batch; call = call }) calls all

-- those of all batches
bounded-from : (plan : Plan) (batch : ℕ) (parts : List (List (List Cell))) → AreBoundedIn (calls_from plan batch parts)
bounded-from plan batch [] = All-nil (λ (one : BatchCall). IsBoundedPlan one.call)
bounded-from plan batch (rows ∷ parts) =
    All-append (λ (one : BatchCall). IsBoundedPlan one.call) _ _
    (bounded-in_batch batch (batch_calls plan batch rows) (bounded-batch plan batch rows)) (bounded-from plan (batch + 1) parts)

-- the calls of a plan that is fit are within the bounds of a tree
pub bounded-calls : (plan : Plan) (rows : List (List Cell)) → IsFit plan
    → AreBoundedPlans (map (λ one. one.call) (sequential_calls plan rows))
bounded-calls plan rows fit =
    let opening = opening_calls (drop 1 plan.limits) plan.reserves in
    let parts = batches_of plan rows in
    let numbers = range_with_len 1 (length parts) in
    let merge = merge_calls plan rows numbers plan.output in
    let Is : BatchCall → Type 0 = λ one. IsBoundedPlan one.call in
    All-map IsBoundedPlan (λ (one : BatchCall). one.call) (sequential_calls plan rows)
    (All-append Is (in_batch 0 opening) (calls_from plan 1 parts ++ in_batch 0 merge)
    (bounded-in_batch 0 opening
    (bounded-opening (drop 1 plan.limits) plan.reserves (All-drop (λ limit. limit ≤ MAX_LIMIT) 1 plan.limits fit.limits) fit.reserves))
    (All-append Is (calls_from plan 1 parts) (in_batch 0 merge) (bounded-from plan 1 parts)
    (bounded-in_batch 0 merge (bounded-merge plan rows numbers plan.output))))

-- the first of some limits, 0 where there is none
first-limit : (limits : List ℕ) → All (λ limit. limit ≤ MAX_LIMIT) limits → slice_index_or limits 0 0 ≤ MAX_LIMIT
first-limit [] low = omega arith
first-limit (limit ∷ limits) low = All-head (λ l. l ≤ MAX_LIMIT) limit limits low

-- so is the limit of its root
pub root-limit : (plan : Plan) → IsFit plan → slice_index_or plan.limits 0 0 ≤ MAX_LIMIT
root-limit plan fit = first-limit plan.limits fit.limits

-- a child is told of a level that is full as the plan is
same-child : (parent : AllocId) (reservation limit : ℕ) (answer : Result AllocId ChildRefused)
    → full_child answer ≡ full_of (Child parent reservation limit answer)
same-child parent reservation limit (Err (child.Full full)) = refl
same-child parent reservation limit answer = refl

-- and a buffer
same-grant : (at : AllocId) (request : ℕ) (answer : Result Ref BufferRefused) → full_buffer answer ≡ full_of (Grant at request answer)
same-grant at request (Err (buffer.Full full)) = refl
same-grant at request answer = refl

-- a call that was planned, and answered as its plan is, was refused where it is; no other call is
told-full : (state : TreeState) (answers : List CallAnswer) (given : List Ref) (planned : PlannedCall) (call : MemoryCall)
    → IsPlanned given planned call → IsTold call (planned_result state answers planned).answer
    → full_in (planned_result state answers planned).answer ≡ full_of call
told-full state answers given (plan.Child parent reservation limit) call is told =
    let there = planned_result state answers (plan.Child parent reservation limit) in
    let same = subst (λ c. IsTold c there.answer) is.1 told in
    ap full_in same ∙ same-child parent reservation limit is.0 ∙ ap full_of (sym is.1)
told-full state answers given (plan.Close at) call is told = ap full_of (sym is.1)
told-full state answers given (plan.Grant at request) call is told =
    let there = planned_result state answers (plan.Grant at request) in
    let same = subst (λ c. IsTold c there.answer) is.1 told in
    ap full_in same ∙ same-grant at request is.0 ∙ ap full_of (sym is.1)
told-full state answers given (plan.Retain place target) call is told = ap full_of (sym is.1)
told-full state answers given (plan.Transfer place target) call is told = ap full_of (sym is.1)
told-full state answers given (plan.Release place) call is told = ap full_of (sym is.1)

-- and so are calls, one after the other
told-behind : (state : TreeState) (answers : List CallAnswer) (given : List Ref) (planned : List PlannedCall) (calls : List MemoryCall)
    → ArePlanned given planned calls → AreTold calls (answers_of state (calls_behind state answers planned))
    → map full_in (answers_of state (calls_behind state answers planned)) ≡ map full_of calls
told-behind state answers given [] [] is told = refl
told-behind state answers given [] (call ∷ calls) is told = absurd is
told-behind state answers given (planned ∷ later) [] is told = absurd is
told-behind state answers given (planned ∷ later) (call ∷ calls) is told =
    let first = planned_result state answers planned in
    let rest = answers_of first.state (calls_behind first.state (answers ++ (first.answer ∷ [])) later) in
    ap (λ full. full ∷ map full_in rest) (told-full state answers given planned call is.0 told.0)
    ∙ ap (λ fulls. full_of call ∷ fulls)
    (told-behind first.state (answers ++ (first.answer ∷ [])) (given ++ (reference_by call ∷ [])) later calls is.1 told.1)

-- answers among which none says that a level is full
none-full : (batches : List ℕ) (answers : List CallAnswer) (calls : List MemoryCall) → All IsDone calls
    → map full_in answers ≡ map full_of calls → first_full batches answers ≡ None
none-full [] [] calls done same = refl
none-full [] (answer ∷ answers) calls done same = refl
none-full (batch ∷ batches) [] calls done same = refl
none-full (batch ∷ batches) (answer ∷ answers) [] done same = absurd (let long = ap length same in omega (arith, long))
none-full (batch ∷ batches) (answer ∷ answers) (call ∷ calls) done same =
    let first : full_in answer ≡ None =
    ap (λ (fulls : List (Option Full)). slice_index_or fulls 0 None) same ∙ (All-head IsDone call calls done).granted in
    ap (λ full. full_or batch full (first_full batches answers)) first
    ∙ none-full batches answers calls (All-tail IsDone call calls done) (ap (drop 1) same)

-- answers whose last says so first, and others behind them
one-full : (batches : List ℕ) (batch : ℕ) (later : List ℕ) (answers more : List CallAnswer) (calls : List MemoryCall) (refused : MemoryCall)
    (full : Full) → length batches ≡ length calls → All IsDone calls → full_of refused ≡ Some full
    → map full_in answers ≡ map full_of (calls ++ (refused ∷ []))
    → first_full (batches ++ (batch ∷ later)) (answers ++ more) ≡ Some (record { full = full; batch = batch })
one-full [] batch later [] more [] refused full counts done told same = absurd (let long = ap length same in omega (arith, long))
one-full [] batch later (answer ∷ answers) more [] refused full counts done told same =
    let first : full_in answer ≡ Some full = ap (λ (fulls : List (Option Full)). slice_index_or fulls 0 None) same ∙ told in
    ap (λ one. full_or batch one (first_full later (answers ++ more))) first
one-full [] batch later answers more (call ∷ calls) refused full counts done told same = absurd (omega (arith, counts))
one-full (other ∷ batches) batch later answers more [] refused full counts done told same = absurd (omega (arith, counts))
one-full (other ∷ batches) batch later [] more (call ∷ calls) refused full counts done told same =
    absurd (let long = ap length same in omega (arith, long))
one-full (other ∷ batches) batch later (answer ∷ answers) more (call ∷ calls) refused full counts done told same =
    let first : full_in answer ≡ None =
    ap (λ (fulls : List (Option Full)). slice_index_or fulls 0 None) same ∙ (All-head IsDone call calls done).granted in
    ap (λ one. full_or other one (first_full (batches ++ (batch ∷ later)) (answers ++ more))) first
    ∙ one-full batches batch later answers more calls refused full (omega (arith, counts)) (All-tail IsDone call calls done) told
    (ap (drop 1) same)

-- the answers of planned calls begin with those of the first of them
first-answers : (state : TreeState) (answers : List CallAnswer) (first second : List PlannedCall)
    → (more : List CallAnswer) × (answers_of state (calls_behind state answers (first ++ second))
    ≡ answers_of state (calls_behind state answers first) ++ more)
first-answers state answers [] second = (answers_of state (calls_behind state answers second), refl)
first-answers state answers (one ∷ first) second =
    let here = planned_result state answers one in
    let rest = first-answers here.state (answers ++ (here.answer ∷ [])) first second in
    (rest.0, ap (λ all. here.answer ∷ all) rest.1)

-- what holds for all of a list holds for its first part
first-all : {A : Type 0} (P : A → Type 0) (xs ys : List A) → All P (xs ++ ys) → All P xs
first-all P [] ys all = All-nil P
first-all P (x ∷ xs) ys all = All-cons P x xs (All-head P x (xs ++ ys) all) (first-all P xs ys (All-tail P x (xs ++ ys) all))

-- calls on a tree with its root alone, which found memory and were planned, were refused where the plan is
opened-full : (limit : ℕ) (planned : List PlannedCall) (calls : List MemoryCall) (old new : MeasuredTree) → IsOpened limit old
    → limit ≤ MAX_LIMIT → AreBoundedPlans planned → All HasMemory calls → ArePlanned [] planned calls
    → MakesCalls solo_model calls old new
    → map full_in (answers_of (opened limit) (calls_planned (opened limit) planned)) ≡ map full_of calls
opened-full limit planned calls old new opens low bounded has are made =
    let lawful : IsLawfulState old.state = subst IsLawfulState (sym opens.state) (opened_lawful limit low) in
    let told = subst (λ state. AreTold calls (run_planned state planned).answer) opens.state
    (planned-told planned calls old new lawful bounded has are made) in
    told-behind (opened limit) [] [] planned calls are
    (subst (AreTold calls) (ap (λ (run : CallResult (List CallAnswer)). run.answer) (run-planned (opened limit) planned)) told)

-- the tree that they leave
opened-after : (limit : ℕ) (planned : List PlannedCall) (calls : List MemoryCall) (old new : MeasuredTree) → IsOpened limit old
    → limit ≤ MAX_LIMIT → AreBoundedPlans planned → All HasMemory calls → ArePlanned [] planned calls
    → MakesCalls solo_model calls old new
    → (new.state ≡ (run_planned (opened limit) planned).state)
    × ((n : ℕ) → peak_at new n ≡ peak_of (run_planned (opened limit) planned).samples n)
opened-after limit planned calls old new opens low bounded has are made =
    let lawful : IsLawfulState old.state = subst IsLawfulState (sym opens.state) (opened_lawful limit low) in
    let after : IsAfterCall old (run_planned (opened limit) planned) new =
    subst (λ state. IsAfterCall old (run_planned state planned) new) opens.state
    (planned-after planned calls old new lawful bounded has are made) in (
      after.state,
      λ n. after.peaks n
          ∙ ap (λ peaks. raised_peaks peaks (run_planned (opened limit) planned).samples n) (λ j k. opens.peaks k j),
    )

module _ (plan : Plan) (rows : List (List Cell)) where
  -- where all calls of a query were done, none is refused, and its tree is that of the calls of one worker
  pub none-refused : (calls : List MemoryCall) (old new : MeasuredTree) → IsOpened (slice_index_or plan.limits 0 0) old
      → slice_index_or plan.limits 0 0 ≤ MAX_LIMIT → AreBoundedPlans (map (λ one. one.call) (sequential_calls plan rows))
      → ArePlanned [] (map (λ one. one.call) (sequential_calls plan rows)) calls → All IsDone calls → MakesCalls solo_model calls old new
      → (sequential_refusal plan rows ≡ None) × (new.state ≡ (sequential_run plan rows).state)
      × ((n : ℕ) → peak_at new n ≡ peak_of (sequential_run plan rows).samples n)
  none-refused calls old new opens low bounded are done made =
      let limit = slice_index_or plan.limits 0 0 in
      let all = map (λ one. one.call) (sequential_calls plan rows) in
      let batches = map (λ one. one.batch) (sequential_calls plan rows) in
      let has = All-weaker IsDone HasMemory (λ call is. is.memory) calls done in
      let after = opened-after limit all calls old new opens low bounded has are made in
      let same = opened-full limit all calls old new opens low bounded has are made in (
        ap (λ (run : CallResult (List CallAnswer)). first_full batches run.answer) (run-planned (opened limit) all)
            ∙ none-full batches (answers_of (opened limit) (calls_planned (opened limit) all)) calls done same,
        after.0,
        after.1,
      )

  -- where a level refused a call of a query, and those before it were done, it is the first refusal of the calls of one worker
  pub one-refused : (before : List BatchCall) (one : BatchCall) (after : List BatchCall) (calls : List MemoryCall) (refused : MemoryCall)
      (full : Full) (old new : MeasuredTree) → IsOpened (slice_index_or plan.limits 0 0) old
      → slice_index_or plan.limits 0 0 ≤ MAX_LIMIT → AreBoundedPlans (map (λ one. one.call) (sequential_calls plan rows))
      → sequential_calls plan rows ≡ before ++ (one ∷ after)
      → ArePlanned [] (map (λ b. b.call) (before ++ (one ∷ []))) (calls ++ (refused ∷ []))
      → All IsDone calls → HasMemory refused → full_of refused ≡ Some full
      → MakesCalls solo_model (calls ++ (refused ∷ [])) old new
      → sequential_refusal plan rows ≡ Some (record { full = full; batch = one.batch })
  one-refused before one after calls refused full old new opens low bounded splits are done memory told made =
      let limit = slice_index_or plan.limits 0 0 in
      let call_in : BatchCall → PlannedCall = λ b. b.call in
      let batch_in : BatchCall → ℕ = λ b. b.batch in
      let first = map call_in (before ++ (one ∷ [])) in
      let second = map call_in after in
      let parts : map call_in (sequential_calls plan rows) ≡ first ++ second =
      ap (map call_in) (splits ∙ sym (append_assoc before (one ∷ []) after)) ∙ map-append call_in (before ++ (one ∷ [])) after in
      let numbers : map batch_in (sequential_calls plan rows) ≡ map batch_in before ++ (one.batch ∷ map batch_in after) =
      ap (map batch_in) splits ∙ map-append batch_in before (one ∷ after) in
      let within : AreBoundedPlans first = first-all IsBoundedPlan first second (subst AreBoundedPlans parts bounded) in
      let has = All-append HasMemory calls (refused ∷ []) (All-weaker IsDone HasMemory (λ call is. is.memory) calls done)
      (All-cons HasMemory refused [] memory (All-nil HasMemory)) in
      let same = opened-full limit first (calls ++ (refused ∷ [])) old new opens low within has are made in
      let begins = first-answers (opened limit) [] first second in
      let answers = answers_of (opened limit) (calls_planned (opened limit) first) in
      let answered : (sequential_run plan rows).answer ≡ answers ++ begins.0 =
      ap (λ (run : CallResult (List CallAnswer)). run.answer) (run-planned (opened limit) (map call_in (sequential_calls plan rows)))
      ∙ ap (λ all. answers_of (opened limit) (calls_planned (opened limit) all)) parts
      ∙ begins.1 in
      let many = planned-length [] first (calls ++ (refused ∷ [])) are in
      let some = length-append calls (refused ∷ []) in
      let mapped = length-map (before ++ (one ∷ [])) call_in in
      let whole = length-append before (one ∷ []) in
      let counted = length-map before batch_in in
      ap (λ bs. first_full bs (sequential_run plan rows).answer) numbers
      ∙ ap (first_full (map batch_in before ++ (one.batch ∷ map batch_in after))) answered
      ∙ one-full (map batch_in before) one.batch (map batch_in after) answers begins.0 calls refused full
      (omega (arith, many, some, mapped, whole, counted)) done told same
