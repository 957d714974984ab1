-- A query from its opening to its merge: the calls of its stages, one after another, are those of one worker.
use Rattle.std.proofs.Common.{◌≡◌, ◌+◌, ◌-◌, ◌*◌, ◌<◌, ◌≤◌, ℕ, suc, List, [], ◌∷◌, ◌++◌, All, length, map, drop, sym, ◌∙◌, ap, subst}
use Rattle.std.proofs.Common.{zero, arith, None, Result, Ok, Err, IfOk, OnOk, Vec}
use Rattle.std.proofs.Math.Nat.{div-le_of_le-mul, mul-le-mul}
use Rattle.std.proofs.lemmas.List.{length-append, length-map, map-append}
use Rattle.std.proofs.lemmas.List.FromFn.{length-range_with_len}
use Rattle.std.proofs.lemmas.List.Elements.{All-append}
use Rattle.std.specs.Prelude.{slice_index_or}
use Rattle.std.specs.Global.{Global}
use Rattle.std.specs.List.{range_with_len}
use Rattle.mem_num.specs.declared.buffer_ref.Ref.{Ref}
use Rattle.mem_model.specs.LawfulState.{IsLawfulState}
use Rattle.mem_model.specs.MeasuredTree.{IsOpened, MeasuredTree, peak_at}
use Rattle.mem_model.specs.PeakSample.{peak_of}
use Rattle.mem_model.specs.PlannedCalls.{PlannedCall}
use Rattle.mem_buf.specs.Chain.{Runs}
use Rattle.mem_buf.specs.MemoryCall.{MemoryCall}
use Rattle.mem_buf.proofs.ChainLemmas.{MakesCalls-append}
use Rattle.alloc_tree.specs.SoloMeaning.{solo_model}
use Rattle.alloc_tree.specs.SoloPlanned.{ArePlanned, given_at, reference_by}
use Rattle.batch_vec.specs.Batches.{BatchView}
use Rattle.operators.specs.Instead.{references_of}
use Rattle.query_model.specs.Answer.{answer_of}
use Rattle.query_model.specs.Fit.{IsFit}
use Rattle.query_model.specs.Requests.{batch_count, batch_rows, batches_of}
use Rattle.query_model.specs.declared.bounds.TheConstants.{MOST_ROWS}
use Rattle.query_model.specs.SequentialCalls.{BatchCall, batch_calls, calls_a_batch, calls_from, first_place, in_batch, merge_calls}
use Rattle.query_model.specs.SequentialCalls.{answer_places, answer_width, width, opening_calls, sequential_calls, sequential_refusal, sequential_run}
use Rattle.query_model.specs.declared.cell.Cell.{Cell}
use Rattle.query_model.specs.declared.output.Output.{Output}
use Rattle.query_model.specs.declared.output.Output.TheVariants.{Select, Group}
use Rattle.query_model.specs.declared.plan.Plan.{Plan}
use Rattle.pipeline.specs.BatchRun.{IsDone, turns_a_batch}
use Rattle.pipeline.specs.declared.refused.QueryRefused.{QueryRefused}
use Rattle.pipeline.specs.Closing.{AreCounted, query_nodes}
use Rattle.pipeline.specs.Opening.{AreOpened}
use Rattle.pipeline.specs.Stages.{AreBatchesDone, AreParts, IsMergeDone, parts_places}
use Rattle.pipeline.proofs.BatchesLemmas.{batch-long, calls-of, places-more, places-within}
use Rattle.pipeline.proofs.CountedLemmas.{counted-kept, lawful-kept, nodes-kept}
use Rattle.pipeline.proofs.OpeningLemmas.{counted-opened}
use Rattle.pipeline.proofs.PlaceLemmas.{planned-length}
use Rattle.pipeline.proofs.PlannedLemmas.{given_by, planned-append}
use Rattle.pipeline.proofs.RefusalLemmas.{bounded-calls, none-refused, root-limit}
use Rattle.pipeline.proofs.SoloRunLemmas.{answer-narrow, turns-few}

-- a call, without its batch
abbrev pub call_in : BatchCall → PlannedCall
call_in one = one.call

-- the stages of a query's tree: opened with its root, then with its children, after the batches, and after the merge
module _ (plan : Plan) (rows : List (List Cell)) (fit : IsFit plan) where
  abbrev pub openings : List PlannedCall
  openings = opening_calls (drop 1 plan.limits) plan.reserves

  abbrev pub count : ℕ
  count = length (batches_of plan rows)

  abbrev pub in_batches : List BatchCall
  in_batches = calls_from plan 1 (batches_of plan rows)

  abbrev pub merging : List PlannedCall
  merging = merge_calls plan rows (range_with_len 1 count) plan.output

  -- the calls of the stages
  pub all-calls : map call_in (sequential_calls plan rows) ≡ openings ++ (map call_in in_batches ++ merging)
  all-calls =
      map-append call_in (in_batch 0 openings) (in_batches ++ in_batch 0 merging)
      ∙ ap (λ list. list ++ map call_in (in_batches ++ in_batch 0 merging)) (calls-of 0 openings)
      ∙ ap (λ list. openings ++ list)
      (map-append call_in in_batches (in_batch 0 merging) ∙ ap (λ list. map call_in in_batches ++ list) (calls-of 0 merging))

  -- how many calls the batches make
  from-long : (number : ℕ) (parts : List (List (List Cell))) → length (calls_from plan number parts) ≡ length parts * calls_a_batch plan
  from-long number [] = omega arith
  from-long number (part ∷ parts) =
      let calls = batch_calls plan number part in
      let both = length-append (in_batch number calls) (calls_from plan (number + 1) parts) in
      let numbered : length (in_batch number calls) ≡ length calls = length-map calls _ in
      let long = batch-long plan fit part number in
      let rest = from-long (number + 1) parts in
      omega (arith, both, numbered, long, rest)

  place-behind : (n : ℕ) → first_place plan (suc n) ≡ length plan.reserves + n * calls_a_batch plan
  place-behind n =
      let same : suc n - 1 ≡ n = omega arith in
      let there : first_place plan (suc n) ≡ length plan.reserves + calls_a_batch plan * n =
      ap (λ m. length plan.reserves + calls_a_batch plan * m) same in
      omega (arith, there)

  -- the opening stands before the first batch
  pub starts : (opening : List MemoryCall) → AreOpened (drop 1 plan.limits) plan.reserves opening
      → length (given_by opening) ≡ first_place plan 1
  starts opening opened =
      let mapped : length (given_by opening) ≡ length opening = length-map opening reference_by in
      let many = opened.count in
      let first = place-behind 0 in
      omega (arith, mapped, many, first)

  module _ (sources : List Ref) (opening batches : List MemoryCall)
      (opened : AreOpened (drop 1 plan.limits) plan.reserves opening) (done : AreBatchesDone plan rows sources batches) where
    -- where the parts of the answer stand, behind both
    parts-stand : All (λ place. place < length (given_by opening ++ given_by batches)) (parts_places plan count)
    parts-stand =
        let planned = planned-length (given_by opening) (map call_in in_batches) batches (done.planned (given_by opening) (starts opening opened)) in
        let mapped : length (map call_in in_batches) ≡ length in_batches = length-map in_batches call_in in
        let long = from-long 1 (batches_of plan rows) in
        let given : length (given_by batches) ≡ length batches = length-map batches reference_by in
        let both = length-append (given_by opening) (given_by batches) in
        let first = starts opening opened in
        let zero_th = place-behind 0 in
        let last = place-behind count in
        let same : first_place plan (suc count) ≡ length (given_by opening ++ given_by batches) =
        omega (arith, planned, mapped, long, given, both, first, zero_th, last) in
        subst (λ n. All (λ place. place < n) (parts_places plan count)) same (places-within plan fit count)

    -- with the merge behind, these are all calls of one worker
    pub all-planned : (holds : List Ref) (merge : List MemoryCall) → IsMergeDone plan rows sources holds merge
        → ArePlanned [] (map call_in (sequential_calls plan rows)) (opening ++ (batches ++ merge))
    all-planned holds merge merged =
        subst (λ plans. ArePlanned [] plans (opening ++ (batches ++ merge))) (sym all-calls)
        (planned-append [] openings (map call_in in_batches ++ merging) opening (batches ++ merge) (opened.planned [])
        (planned-append (given_by opening) (map call_in in_batches) merging batches merge
        (done.planned (given_by opening) (starts opening opened))
        (merged.planned (given_by opening ++ given_by batches) count (done.stand (given_by opening) (starts opening opened))
        parts-stand)))

-- a tree after the calls of one worker, none of which was refused; these references are left
pub record IsAnswered (plan : Plan) (rows : List (List Cell)) (holds : List Ref) (tree : MeasuredTree) : Type 0 where
  pub granted : sequential_refusal plan rows ≡ None
  pub state : tree.state ≡ (sequential_run plan rows).state
  pub peaks : (n : ℕ) → peak_at tree n ≡ peak_of (sequential_run plan rows).samples n
  pub nodes : tree.state.nodes ≡ query_nodes (slice_index_or plan.limits 0 0) (drop 1 plan.limits) plan.reserves
  pub counted : AreCounted holds tree.state

pub answered : (plan : Plan) (rows : List (List Cell)) → IsFit plan → (sources holds : List Ref) (old one two three : MeasuredTree)
    → IsOpened (slice_index_or plan.limits 0 0) old → Runs solo_model (AreOpened (drop 1 plan.limits) plan.reserves) old one
    → one.state.nodes ≡ query_nodes (slice_index_or plan.limits 0 0) (drop 1 plan.limits) plan.reserves → one.state.chunks ≡ []
    → IsLawfulState one.state → Runs solo_model (AreBatchesDone plan rows sources) one two
    → Runs solo_model (IsMergeDone plan rows sources holds) two three → IsAnswered plan rows holds three
answered plan rows fit sources holds old one two three opens opening nodes chunks lawful batches merge =
    let calls = opening.0 ++ (batches.0 ++ merge.0) in
    let made = MakesCalls-append solo_model opening.0 (batches.0 ++ merge.0) old one three opening.1
    (MakesCalls-append solo_model batches.0 merge.0 one two three batches.1 merge.1) in
    let done = All-append IsDone opening.0 (batches.0 ++ merge.0) opening.2.done
    (All-append IsDone batches.0 merge.0 batches.2.done merge.2.done) in
    let run = none-refused plan rows calls old three opens (root-limit plan fit) (bounded-calls plan rows fit)
    (all-planned plan rows fit sources opening.0 batches.0 opening.2 batches.2 holds merge.0 merge.2) done made in
    let counted = counted-kept batches.0 [] sources one two batches.2.buffers lawful (counted-opened one.state chunks) batches.1
    batches.2.leaves in
    let still = lawful-kept batches.0 one two batches.2.buffers batches.1 lawful in
    record {
      granted = run.0;
      state = run.1;
      peaks = run.2;
      nodes = nodes-kept merge.0 two three merge.2.buffers merge.1 ∙ (nodes-kept batches.0 one two batches.2.buffers batches.1 ∙ nodes);
      counted = counted-kept merge.0 sources holds two three merge.2.buffers still counted merge.1 merge.2.leaves;
    }

-- a part of the answer has two references for each of its columns
module _ (plan : Plan) where
  answer-long : (output : Output) (number : ℕ) → length (answer_places plan number output) ≡ 2 * answer_width plan
  answer-long (Select picks) number =
      let mapped = length-map (range_with_len 0 (2 * answer_width plan)) (λ i. first_place plan number + 6 * width plan + 2 * i) in
      mapped ∙ length-range_with_len 0 (2 * answer_width plan)
  answer-long (Group key sums) number = length-range_with_len (first_place plan number + 6 * width plan) (2 * answer_width plan)

  places-long : (fit : IsFit plan) (n : ℕ) → length (parts_places plan n) ≡ n * (2 * answer_width plan)
  places-long fit zero = omega arith
  places-long fit (suc n) =
      let more = ap length (places-more plan fit n) in
      let both = length-append (parts_places plan n) (answer_places plan (suc n) plan.output) in
      let one = answer-long plan.output (suc n) in
      let before = places-long fit n in
      omega (arith, more, both, one, before)

-- there are as many parts as batches
parts-many : (plan : Plan) (rows : List (List Cell)) (parts : List (BatchView Ref)) → AreParts plan rows parts
    → length (batches_of plan rows) ≡ length parts
parts-many plan rows parts are =
    let rows_in : length (map (λ (batch : BatchView Ref). batch.rows) parts) ≡ length parts = length-map parts _ in
    let answers : length (map (answer_of plan) (batches_of plan rows)) ≡ length (batches_of plan rows) = length-map (batches_of plan rows) _ in
    let same = ap length are.rows_are in
    omega (arith, rows_in, answers, same)

-- so there are two for each column of each part
pub parts-held : (plan : Plan) (rows : List (List Cell)) → IsFit plan → (parts : List (BatchView Ref)) (old one two : MeasuredTree)
    → Runs solo_model (AreOpened (drop 1 plan.limits) plan.reserves) old one → AreParts plan rows parts
    → Runs solo_model (AreBatchesDone plan rows (references_of (λ hold. hold) parts)) one two
    → length (references_of (λ hold. hold) parts) ≤ 2 * answer_width plan * length parts
parts-held plan rows fit parts old one two opening are batches =
    let stands = ap length (batches.2.stand (given_by opening.0) (starts plan rows fit opening.0 opening.2)) in
    let places = parts_places plan (length (batches_of plan rows)) in
    let mapped : length (map (given_at (given_by opening.0 ++ given_by batches.0)) places) ≡ length places = length-map places _ in
    let long = places-long plan fit (length (batches_of plan rows)) in
    let each = ap (λ n. n * (2 * answer_width plan)) (parts-many plan rows parts are) in
    omega (arith, stands, mapped, long, each)

-- turns are left for the merge
pub merge-turns : (plan : Plan) (rows : List (List Cell)) → IsFit plan → length rows ≤ MOST_ROWS → (parts : List (BatchView Ref))
    → AreParts plan rows parts → (before after : ℕ) → 4294967289 ≤ before → before ≤ after + length parts * turns_a_batch plan
    → 2 * answer_width plan * (length parts + 1) ≤ after
merge-turns plan rows fit few parts are before after begin spent =
    let batches : length (batches_of plan rows) ≡ batch_count plan rows =
    length-map (range_with_len 1 (batch_count plan rows)) (batch_rows plan rows) ∙ length-range_with_len 1 (batch_count plan rows) in
    let some = fit.batch.0 in
    let bounded : batch_count plan rows ≤ MOST_ROWS = div-le_of_le-mul plan.batch (omega (arith, some, few)) in
    let many = parts-many plan rows parts are in
    let at_most : length parts ≤ MOST_ROWS = omega (arith, batches, bounded, many) in
    let turns = turns-few plan fit in
    let narrow = answer-narrow plan fit in
    let bound : length parts * turns_a_batch plan ≤ MOST_ROWS * 258 =
    mul-le-mul {n₁ = length parts} {m₁ = turns_a_batch plan} {n₂ = MOST_ROWS} {m₂ = 258} at_most turns in
    let merged : answer_width plan * (length parts + 1) ≤ 33 * (MOST_ROWS + 1) =
    mul-le-mul {n₁ = answer_width plan} {m₁ = length parts + 1} {n₂ = 33} {m₂ = MOST_ROWS + 1} narrow (omega (arith, at_most)) in
    omega (arith, begin, spent, bound, merged)

-- where the merge has an answer, the query has one
pub answered-if : (plan : Plan) (rows : List (List Cell)) → IsFit plan → (sources : List Ref) (old one two three : MeasuredTree)
    → IsOpened (slice_index_or plan.limits 0 0) old → Runs solo_model (AreOpened (drop 1 plan.limits) plan.reserves) old one
    → one.state.nodes ≡ query_nodes (slice_index_or plan.limits 0 0) (drop 1 plan.limits) plan.reserves → one.state.chunks ≡ []
    → IsLawfulState one.state → Runs solo_model (AreBatchesDone plan rows sources) one two
    → (answer : Result (Vec (BatchView Ref) Global) QueryRefused)
    → IfOk answer (λ merged. Runs solo_model (IsMergeDone plan rows sources (references_of (λ hold. hold) merged.items)) two three)
    → IfOk answer (λ merged. IsAnswered plan rows (references_of (λ hold. hold) merged.items) three)
answered-if plan rows fit sources old one two three opens opening nodes chunks lawful batches (Ok merged) runs =
    answered plan rows fit sources (references_of (λ hold. hold) merged.items) old one two three opens opening nodes chunks lawful batches runs
answered-if plan rows fit sources old one two three opens opening nodes chunks lawful batches (Err refused) runs = tt

-- what follows of every answer follows of an answer
pub if-then : {A E : Type 0} (answer : Result A E) (P : A → Type 0) (Q : Type 0) → IfOk answer P → ((a : A) → P a → Q) → OnOk answer Q
if-then (Ok a) P Q holds then = then a holds
if-then (Err refused) P Q holds then = tt
