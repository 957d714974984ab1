-- A query of which a level refused a call: at its opening, in a batch, or in its merge.
use Rattle.std.proofs.Common.{◌≡◌, ◌≤◌, ℕ, suc, List, [], ◌∷◌, ◌++◌, All, length, map, take, drop, get_or, refl, sym, ◌∙◌, ap, subst}
use Rattle.std.proofs.Common.{append_assoc, arith, Some, Err}
use Rattle.std.proofs.Math.Seq.{take-suc}
use Rattle.std.proofs.lemmas.List.{append-nil, map-append, take-append-drop}
use Rattle.std.proofs.lemmas.List.Elements.{All-append, All-nil}
use Rattle.std.specs.Prelude.{slice_index_or}
use Rattle.mem_num.specs.declared.full.Full.{Full as AnyFull}
use Rattle.mem_num.specs.declared.buffer_ref.Ref.{Ref}
use Rattle.mem_model.specs.Calls.{Release}
use Rattle.mem_model.specs.MeasuredTree.{IsOpened, MeasuredTree}
use Rattle.mem_model.specs.PlannedCalls.{PlannedCall}
use Rattle.mem_buf.specs.Chain.{MakesCalls, Runs}
use Rattle.mem_buf.specs.MemoryCall.{MemoryCall}
use Rattle.mem_buf.proofs.ChainLemmas.{MakesCalls-append, MakesCalls-cut}
use Rattle.alloc_tree.specs.SoloCalls.{HasMemory}
use Rattle.alloc_tree.specs.SoloMeaning.{solo_model}
use Rattle.alloc_tree.specs.SoloPlanned.{ArePlanned}
use Rattle.query_model.specs.Fit.{IsFit}
use Rattle.query_model.specs.Requests.{batches_of}
use Rattle.query_model.specs.SequentialCalls.{BatchCall, in_batch, opening_calls, sequential_calls, sequential_refusal}
use Rattle.query_model.specs.declared.cell.Cell.{Cell}
use Rattle.query_model.specs.declared.plan.Plan.{Plan}
use Rattle.pipeline.specs.BatchRun.{IsDone, full_of}
use Rattle.pipeline.specs.Opening.{AreOpened, IsOpening}
use Rattle.pipeline.specs.Stages.{AreBatchesDone, IsBatchesRefusal, IsMergeRefusal}
use Rattle.pipeline.specs.declared.refused.QueryRefused.TheVariants.{Full}
use Rattle.pipeline.proofs.BatchesLemmas.{calls-of}
use Rattle.pipeline.proofs.PlannedLemmas.{given_by, planned-append}
use Rattle.pipeline.proofs.QueryLemmas.{call_in, in_batches, merging, openings, starts}
use Rattle.pipeline.proofs.RefusalLemmas.{bounded-calls, one-refused, root-limit}

-- one more of a list, and what stands behind it
module _ {A : Type 0} (xs : List A) (n : ℕ) (d : A) (inside : suc n ≤ length xs) where
  one-on : take (suc n) xs ≡ take n xs ++ (get_or xs n d ∷ [])
  one-on = take-suc xs n d inside

  split-at : xs ≡ take n xs ++ (get_or xs n d ∷ drop (suc n) xs)
  split-at =
      sym (take-append-drop (suc n) xs) ∙ ap (λ list. list ++ drop (suc n) xs) one-on
      ∙ append_assoc (take n xs) (get_or xs n d ∷ []) (drop (suc n) xs)

-- a child for each reservation
pub openings-long : (limits reserves : List ℕ) → length limits ≡ length reserves → length (opening_calls limits reserves) ≡ length reserves
openings-long [] [] same = refl
openings-long [] (reservation ∷ reserves) same = absurd (omega (arith, same))
openings-long (limit ∷ limits) [] same = refl
openings-long (limit ∷ limits) (reservation ∷ reserves) same = ap suc (openings-long limits reserves (omega (arith, same)))

module _ (plan : Plan) (rows : List (List Cell)) (fit : IsFit plan) where
  -- calls of one batch, behind others that were done, of which one was refused
  full-at : (front : List BatchCall) (number : ℕ) (calls : List PlannedCall) (back : List BatchCall) (done asked : List MemoryCall)
      (refused : MemoryCall) (told : AnyFull) (old one new : MeasuredTree) → IsOpened (slice_index_or plan.limits 0 0) old
      → sequential_calls plan rows ≡ front ++ (in_batch number calls ++ back) → ArePlanned [] (map call_in front) done
      → All IsDone done → MakesCalls solo_model done old one → suc (length asked) ≤ length calls
      → ArePlanned (given_by done) (take (suc (length asked)) calls) (asked ++ (refused ∷ [])) → All IsDone asked → HasMemory refused
      → full_of refused ≡ Some told → MakesCalls solo_model (asked ++ (refused ∷ [])) one new
      → sequential_refusal plan rows ≡ Some (record { full = told; batch = number })
  full-at front number calls back done asked refused told old one new opens all planned are first inside these so memory full made =
      one-refused plan rows before call after (done ++ asked) refused told old new opens (root-limit plan fit) (bounded-calls plan rows fit)
      splits
      (subst (ArePlanned [] (map call_in (before ++ (call ∷ [])))) (sym (append_assoc done asked (refused ∷ [])))
      (subst (λ plans. ArePlanned [] plans (done ++ (asked ++ (refused ∷ [])))) (sym up_to)
      (planned-append [] (map call_in front) (take (suc n) calls) done (asked ++ (refused ∷ [])) planned these)))
      (All-append IsDone done asked are so) memory full
      (subst (λ cs. MakesCalls solo_model cs old new) (sym (append_assoc done asked (refused ∷ [])))
      (MakesCalls-append solo_model done (asked ++ (refused ∷ [])) old one new first made))
    where
      n : ℕ
      n = length asked

      number_in : PlannedCall → BatchCall
      number_in planned_call = record { batch = number; call = planned_call }

      call : BatchCall
      call = number_in (get_or calls n (Release 0))

      before : List BatchCall
      before = front ++ in_batch number (take n calls)

      after : List BatchCall
      after = in_batch number (drop (suc n) calls) ++ back

      splits : sequential_calls plan rows ≡ before ++ (call ∷ after)
      splits =
          all
          ∙ ap (λ list. front ++ (list ++ back))
          (ap (in_batch number) (split-at calls n (Release 0) inside)
          ∙ map-append number_in (take n calls) (get_or calls n (Release 0) ∷ drop (suc n) calls))
          ∙ ap (λ list. front ++ list) (append_assoc (in_batch number (take n calls)) (call ∷ in_batch number (drop (suc n) calls)) back)
          ∙ sym (append_assoc front (in_batch number (take n calls)) (call ∷ after))

      up_to : map call_in (before ++ (call ∷ [])) ≡ map call_in front ++ take (suc n) calls
      up_to =
          map-append call_in before (call ∷ [])
          ∙ ap (λ list. list ++ (get_or calls n (Release 0) ∷ []))
          (map-append call_in front (in_batch number (take n calls))
          ∙ ap (λ list. map call_in front ++ list) (calls-of number (take n calls)))
          ∙ append_assoc (map call_in front) (take n calls) (get_or calls n (Release 0) ∷ [])
          ∙ ap (λ list. map call_in front ++ list) (sym (one-on calls n (Release 0) inside))

  module _ (full : AnyFull) (batch : ℕ) (old one : MeasuredTree) (opens : IsOpened (slice_index_or plan.limits 0 0) old) where
    abbrev Told : Type 0
    Told = sequential_refusal plan rows ≡ Some (record { full = full; batch = batch })

    -- at the opening
    pub opening-refused : length (openings plan rows fit) ≡ length plan.reserves
        → Runs solo_model (IsOpening plan (Err (Full full batch))) old one → Told
    opening-refused long runs =
        let is = runs.2 in
        let many = is.within in
        let told = full-at [] 0 (openings plan rows fit) (in_batches plan rows fit ++ in_batch 0 (merging plan rows fit)) [] is.asked
        is.refused full old old one opens refl tt (All-nil IsDone) refl (omega (arith, long, many))
        (subst (ArePlanned [] (take (suc (length is.asked)) (openings plan rows fit))) is.order (is.planned [])) is.done is.memory is.told
        (subst (λ calls. MakesCalls solo_model calls old one) is.order runs.1) in
        told ∙ ap (λ n. Some (record { full = full; batch = n })) (sym is.opening)

    module _ (two three : MeasuredTree) (opening : Runs solo_model (AreOpened (drop 1 plan.limits) plan.reserves) old one) where
      first_calls : map call_in (in_batch 0 (openings plan rows fit)) ≡ openings plan rows fit
      first_calls = calls-of 0 (openings plan rows fit)

      -- in a batch
      pub batch-refused : Runs solo_model (IsBatchesRefusal plan rows (Full full batch)) one two → Told
      batch-refused runs =
          let is = runs.2 in
          let front = in_batch 0 (openings plan rows fit) in
          let last = in_batch 0 (merging plan rows fit) in
          let splits : sequential_calls plan rows ≡ (front ++ is.before) ++ (is.one ∷ (is.after ++ last)) =
          ap (λ list. front ++ (list ++ last)) is.plans_are
          ∙ ap (λ list. front ++ list) (append_assoc is.before (is.one ∷ is.after) last)
          ∙ sym (append_assoc front is.before (is.one ∷ (is.after ++ last))) in
          let these = is.planned (given_by opening.0) (starts plan rows fit opening.0 opening.2) in
          let up_to : map call_in ((front ++ is.before) ++ (is.one ∷ [])) ≡ openings plan rows fit ++ map call_in (is.before ++ (is.one ∷ [])) =
          ap (map call_in) (append_assoc front is.before (is.one ∷ []))
          ∙ map-append call_in front (is.before ++ (is.one ∷ []))
          ∙ ap (λ list. list ++ map call_in (is.before ++ (is.one ∷ []))) first_calls in
          let made = MakesCalls-cut solo_model (is.asked ++ (is.refused ∷ [])) is.later one two
          (subst (λ calls. MakesCalls solo_model calls one two)
          (is.order ∙ sym (append_assoc is.asked (is.refused ∷ []) is.later)) runs.1) in
          one-refused plan rows (front ++ is.before) is.one (is.after ++ last) (opening.0 ++ is.asked) is.refused full old made.0 opens
          (root-limit plan fit) (bounded-calls plan rows fit) splits
          (subst (ArePlanned [] (map call_in ((front ++ is.before) ++ (is.one ∷ [])))) (sym (append_assoc opening.0 is.asked (is.refused ∷ [])))
          (subst (λ plans. ArePlanned [] plans (opening.0 ++ (is.asked ++ (is.refused ∷ [])))) (sym up_to)
          (planned-append [] (openings plan rows fit) (map call_in (is.before ++ (is.one ∷ []))) opening.0
          (is.asked ++ (is.refused ∷ [])) (opening.2.planned []) these)))
          (All-append IsDone opening.0 is.asked opening.2.done is.done) is.memory is.full
          (subst (λ calls. MakesCalls solo_model calls old made.0) (sym (append_assoc opening.0 is.asked (is.refused ∷ [])))
          (MakesCalls-append solo_model opening.0 (is.asked ++ (is.refused ∷ [])) old one made.0 opening.1 made.1))
          ∙ ap (λ n. Some (record { full = full; batch = n })) is.batch_is

      -- in the merge
      pub merge-refused : (sources : List Ref) → Runs solo_model (AreBatchesDone plan rows sources) one two
          → Runs solo_model (IsMergeRefusal plan rows (Full full batch)) two three → Told
      merge-refused sources batches runs =
          let is = runs.2.1 in
          let front = in_batch 0 (openings plan rows fit) ++ in_batches plan rows fit in
          let count = length (batches_of plan rows) in
          let done = opening.0 ++ batches.0 in
          let given_all : given_by opening.0 ++ given_by batches.0 ≡ given_by done = sym (map-append _ opening.0 batches.0) in
          let splits : sequential_calls plan rows ≡ front ++ (in_batch 0 (merging plan rows fit) ++ []) =
          sym (append_assoc (in_batch 0 (openings plan rows fit)) (in_batches plan rows fit) (in_batch 0 (merging plan rows fit)))
          ∙ ap (λ list. front ++ list) (sym (append-nil (in_batch 0 (merging plan rows fit)))) in
          let plans : map call_in front ≡ openings plan rows fit ++ map call_in (in_batches plan rows fit) =
          map-append call_in (in_batch 0 (openings plan rows fit)) (in_batches plan rows fit)
          ∙ ap (λ list. list ++ map call_in (in_batches plan rows fit)) first_calls in
          let made = MakesCalls-cut solo_model (is.asked ++ (is.refused ∷ [])) is.later two three
          (subst (λ calls. MakesCalls solo_model calls two three)
          (is.order ∙ sym (append_assoc is.asked (is.refused ∷ []) is.later)) runs.1) in
          full-at front 0 (merging plan rows fit) [] done is.asked is.refused full old two made.0 opens splits
          (subst (λ ps. ArePlanned [] ps done) (sym plans)
          (planned-append [] (openings plan rows fit) (map call_in (in_batches plan rows fit)) opening.0 batches.0 (opening.2.planned [])
          (batches.2.planned (given_by opening.0) (starts plan rows fit opening.0 opening.2))))
          (All-append IsDone opening.0 batches.0 opening.2.done batches.2.done)
          (MakesCalls-append solo_model opening.0 batches.0 old one two opening.1 batches.1)
          (is.within count)
          (is.planned (given_by done) count)
          is.done is.memory is.full made.1
          ∙ ap (λ n. Some (record { full = full; batch = n })) (sym runs.2.0)
