-- The first batches, run one after another: their calls are the planned ones, and leave their parts held; or one was refused.
use Rattle.std.proofs.Common.{◌≡◌, ◌+◌, ◌*◌, ◌<◌, ◌≤◌, ℕ, suc, List, [], ◌∷◌, ◌++◌}
use Rattle.std.proofs.Common.{All, length, map, take, drop, refl, sym, ◌∙◌, ap, subst, append_assoc, arith}
use Rattle.std.proofs.Math.Seq.{take-suc}
use Rattle.std.proofs.lemmas.List.{length-append, length-map, length-take, map-append, take-append-drop}
use Rattle.std.proofs.lemmas.List.Elements.{All-append, All-nil}
use Rattle.std.proofs.lemmas.List.FromFn.{length-map-range_with_len, take-map-range_with_len}
use Rattle.std.specs.Prelude.{get_or}
use Rattle.std.specs.List.{range_with_len}
use Rattle.mem_num.specs.declared.buffer_ref.Ref.{Ref}
use Rattle.mem_num.specs.declared.full.Full.{Full as AnyFull}
use Rattle.mem_model.specs.Calls.{Release}
use Rattle.mem_model.specs.PlannedCalls.{PlannedCall, no_reference}
use Rattle.mem_buf.specs.MemoryCall.{MemoryCall}
use Rattle.alloc_tree.specs.SoloPlanned.{ArePlanned, given_at, reference_by}
use Rattle.query_model.specs.Fit.{IsFit}
use Rattle.query_model.specs.Requests.{batch_count, batch_rows, batches_of}
use Rattle.query_model.specs.SequentialCalls.{BatchCall, answer_places, batch_calls, calls_from, first_place, in_batch}
use Rattle.query_model.specs.declared.cell.Cell.{Cell}
use Rattle.query_model.specs.declared.plan.Plan.{Plan}
use Rattle.pipeline.specs.BatchRun.{IsBatchDone, IsBatchRefused, IsDone, StandAt, turns_a_batch}
use Rattle.pipeline.specs.Holding.{IsBufferCall, Leaves, turns_in}
use Rattle.pipeline.specs.Stages.{AreBatchesDone, IsPlanRefused, parts_places}
use Rattle.pipeline.proofs.BatchesLemmas.{batch-long, batches-long, calls-append, calls-of}
use Rattle.pipeline.proofs.BatchesLemmas.{first-more, first_batches, next-place, places-more, places-within}
use Rattle.pipeline.proofs.HoldingLemmas.{leaves-append, leaves-beside, leaves-to, same-swap}
use Rattle.pipeline.proofs.PlaceLemmas.{planned-length}
use Rattle.pipeline.proofs.PlannedLemmas.{StandsIn, all-stay, given_by, planned-append}
use Rattle.pipeline.proofs.StoredLemmas.{turns-append}

-- a list of so many references
abbrev blanks : ℕ → List Ref
blanks count = map (λ n. no_reference) (range_with_len 0 count)

-- a call of a batch, without its number
abbrev call_in : BatchCall → PlannedCall
call_in one = one.call

module _ (plan : Plan) (rows : List (List Cell)) where
  -- the calls of the first batches were the planned ones, and left their parts held
  pub record AreFirstDone (count : ℕ) (holds : List Ref) (calls : List MemoryCall) : Type 0 where
    pub planned : (given : List Ref) → length given ≡ first_place plan 1
        → ArePlanned given (map (λ one. one.call) (calls_from plan 1 (first_batches plan rows count))) calls
    pub stand : (given : List Ref) → length given ≡ first_place plan 1 → StandAt given calls (parts_places plan count) holds
    pub done : All IsDone calls
    pub buffers : All IsBufferCall calls
    pub leaves : Leaves [] calls holds
    pub turns : turns_in calls ≤ count * turns_a_batch plan
    pub many : first_place plan 1 + length calls ≡ first_place plan (suc count)

  pub none-done : AreFirstDone 0 [] []
  none-done = record {
    planned = λ given starts. tt;
    stand = λ given starts. refl;
    done = All-nil IsDone;
    buffers = All-nil IsBufferCall;
    leaves = λ k n real. refl;
    turns = omega arith;
    many = omega arith;
  }

  -- the place behind them
  behind : (count : ℕ) (holds : List Ref) (calls : List MemoryCall) → AreFirstDone count holds calls → (given : List Ref)
      → length given ≡ first_place plan 1 → length (given ++ given_by calls) ≡ first_place plan (suc count)
  behind count holds calls first given starts =
      let both = length-append given (given_by calls) in
      let long = length-map calls reference_by in
      let many = first.many in
      omega (arith, starts, both, long, many)

  -- the parts stand where they stood, and the next behind them
  parts-stand : (fit : IsFit plan) (count : ℕ) (holds more : List Ref) (calls later : List MemoryCall) → AreFirstDone count holds calls
      → IsBatchDone plan (batch_rows plan rows (suc count)) more later → (given : List Ref) → length given ≡ first_place plan 1
      → StandAt given (calls ++ later) (parts_places plan (suc count)) (holds ++ more)
  parts-stand fit count holds more calls later first one given starts =
      let before = given ++ given_by calls in
      let long = behind count holds calls first given starts in
      let all : given ++ given_by (calls ++ later) ≡ before ++ given_by later =
      ap (λ rs. given ++ rs) (map-append reference_by calls later) ∙ sym (append_assoc given (given_by calls) (given_by later)) in
      let within : All (StandsIn before) (parts_places plan count) =
      subst (λ most. All (λ place. place < most) (parts_places plan count)) (sym long) (places-within plan fit count) in
      ap (λ rs. map (given_at rs) (parts_places plan (suc count))) all
      ∙ ap (map (given_at (before ++ given_by later))) (places-more plan fit count)
      ∙ map-append (given_at (before ++ given_by later)) (parts_places plan count) (answer_places plan (suc count) plan.output)
      ∙ ap (λ rs. rs ++ map (given_at (before ++ given_by later)) (answer_places plan (suc count) plan.output))
      (all-stay before (given_by later) (parts_places plan count) within ∙ first.stand given starts)
      ∙ ap (λ rs. holds ++ rs) (one.answer (suc count) before long)

  -- their calls, and those of one batch more
  planned-more : (count : ℕ) → map (λ (one : BatchCall). one.call) (calls_from plan 1 (first_batches plan rows (suc count)))
      ≡ map (λ (one : BatchCall). one.call) (calls_from plan 1 (first_batches plan rows count))
      ++ batch_calls plan (suc count) (batch_rows plan rows (suc count))
  planned-more count =
      let calls = batch_calls plan (suc count) (batch_rows plan rows (suc count)) in
      ap (map call_in) (first-more plan rows count)
      ∙ map-append call_in (calls_from plan 1 (first_batches plan rows count)) (in_batch (suc count) calls)
      ∙ ap (λ cs. map call_in (calls_from plan 1 (first_batches plan rows count)) ++ cs) (calls-of (suc count) calls)

  pub one-more : (fit : IsFit plan) (count : ℕ) (holds more : List Ref) (calls later : List MemoryCall) → AreFirstDone count holds calls
      → IsBatchDone plan (batch_rows plan rows (suc count)) more later → All IsBufferCall later → turns_in later ≤ turns_a_batch plan
      → AreFirstDone (suc count) (holds ++ more) (calls ++ later)
  one-more fit count holds more calls later first one buffers turns = record {
    planned = λ given starts.
        subst (λ ps. ArePlanned given ps (calls ++ later)) (sym (planned-more count))
        (planned-append given (map (λ (b : BatchCall). b.call) (calls_from plan 1 (first_batches plan rows count)))
        (batch_calls plan (suc count) (batch_rows plan rows (suc count))) calls later (first.planned given starts)
        (one.planned (suc count) (given ++ given_by calls) (behind count holds calls first given starts)));
    stand = parts-stand fit count holds more calls later first one;
    done = All-append IsDone calls later first.done one.done;
    buffers = All-append IsBufferCall calls later first.buffers buffers;
    leaves = leaves-append [] calls holds later (holds ++ more) first.leaves
        (leaves-to holds later (more ++ holds) (holds ++ more) (leaves-beside [] later more holds one.leaves) (same-swap more holds));
    turns =
        let before = first.turns in
        let both = turns-append calls later in
        omega (arith, before, both, turns);
    many =
        let before = first.many in
        let both = length-append calls later in
        let next = next-place plan count in
        let given = blanks (first_place plan (suc count)) in
        let starts = length-map-range_with_len (λ n. no_reference) 0 (first_place plan (suc count)) in
        let planned = planned-length given (batch_calls plan (suc count) (batch_rows plan rows (suc count))) later
        (one.planned (suc count) given starts) in
        let long = batch-long plan fit (batch_rows plan rows (suc count)) (suc count) in
        omega (arith, before, both, next, planned, long);
  }

  -- all batches
  pub all-done : (holds : List Ref) (calls : List MemoryCall) → AreFirstDone (batch_count plan rows) holds calls
      → AreBatchesDone plan rows holds calls
  all-done holds calls first = record {
    planned = first.planned;
    stand = λ given starts.
        subst (λ n. StandAt given calls (parts_places plan n) holds) (sym (batches-long plan rows (batch_count plan rows)))
        (first.stand given starts);
    done = first.done;
    buffers = first.buffers;
    leaves = first.leaves;
  }

  -- the first batches, and the others
  batches-split : (count : ℕ) → count ≤ batch_count plan rows
      → batches_of plan rows ≡ first_batches plan rows count ++ drop count (batches_of plan rows)
  batches-split count within =
      sym (take-append-drop count (batches_of plan rows))
      ∙ ap (λ parts. parts ++ drop count (batches_of plan rows))
      (take-map-range_with_len (batch_rows plan rows) 1 (batch_count plan rows) count within)

  -- a batch behind them was refused
  pub one-refused : (count : ℕ) (holds : List Ref) (told : AnyFull) (calls more later : List MemoryCall)
      → AreFirstDone count holds calls → IsBatchRefused plan (batch_rows plan rows (suc count)) told more
      → suc count ≤ batch_count plan rows
      → IsPlanRefused (calls_from plan 1 (batches_of plan rows)) (first_place plan 1) told (suc count) (calls ++ (more ++ later))
  one-refused count holds told calls more later first one within = record {
    asked = calls ++ one.asked;
    refused = one.refused;
    later = one.returned ++ later;
    before = first_calls ++ in_batch (suc count) (take place planned);
    one = record { batch = suc count; call = get_or planned place (Release 0) };
    after = in_batch (suc count) (drop (suc place) planned) ++ rest;
    order = ap (λ cs. calls ++ (cs ++ later)) one.order
        ∙ ap (λ cs. calls ++ cs) (append_assoc one.asked (one.refused ∷ one.returned) later)
        ∙ sym (append_assoc calls one.asked (one.refused ∷ (one.returned ++ later)));
    plans_are = plans;
    batch_is = refl;
    planned = λ given starts.
        subst (ArePlanned given
        (map (λ (b : BatchCall). b.call) ((first_calls ++ in_batch (suc count) (take place planned)) ++ (asked_for ∷ []))))
        (sym (append_assoc calls one.asked (one.refused ∷ [])))
        (subst (λ ps. ArePlanned given ps (calls ++ (one.asked ++ (one.refused ∷ [])))) (sym up_to)
        (planned-append given (map (λ (b : BatchCall). b.call) first_calls) (take (suc place) planned) calls
        (one.asked ++ (one.refused ∷ [])) (first.planned given starts)
        (one.planned (suc count) (given ++ given_by calls) (behind count holds calls first given starts))));
    done = All-append IsDone calls one.asked first.done one.done;
    memory = one.memory;
    full = one.full;
  }
    where
      planned : List PlannedCall
      planned = batch_calls plan (suc count) (batch_rows plan rows (suc count))

      place : ℕ
      place = length one.asked

      first_calls : List BatchCall
      first_calls = calls_from plan 1 (first_batches plan rows count)

      rest : List BatchCall
      rest = calls_from plan (1 + length (first_batches plan rows (suc count))) (drop (suc count) (batches_of plan rows))

      asked_for : BatchCall
      asked_for = record { batch = suc count; call = get_or planned place (Release 0) }

      inside : place < length planned
      inside =
          let given = blanks (first_place plan (suc count)) in
          let starts = length-map-range_with_len (λ n. no_reference) 0 (first_place plan (suc count)) in
          let same = planned-length given (take (suc place) planned) (one.asked ++ (one.refused ∷ []))
          (one.planned (suc count) given starts) in
          let both = length-append one.asked (one.refused ∷ []) in
          let short = length-take (suc place) planned in
          omega (arith, same, both, short)

      one-on : take (suc place) planned ≡ take place planned ++ (get_or planned place (Release 0) ∷ [])
      one-on = take-suc planned place (Release 0) inside

      split : planned ≡ take place planned ++ (get_or planned place (Release 0) ∷ drop (suc place) planned)
      split =
          sym (take-append-drop (suc place) planned)
          ∙ ap (λ cs. cs ++ drop (suc place) planned) one-on
          ∙ append_assoc (take place planned) (get_or planned place (Release 0) ∷ []) (drop (suc place) planned)

      plans : calls_from plan 1 (batches_of plan rows)
          ≡ (first_calls ++ in_batch (suc count) (take place planned))
          ++ (asked_for ∷ (in_batch (suc count) (drop (suc place) planned) ++ rest))
      plans =
          let number : PlannedCall → BatchCall = λ call. record { batch = suc count; call = call } in
          let before = in_batch (suc count) (take place planned) in
          let behind = in_batch (suc count) (drop (suc place) planned) in
          ap (calls_from plan 1) (batches-split (suc count) within)
          ∙ calls-append plan 1 (first_batches plan rows (suc count)) (drop (suc count) (batches_of plan rows))
          ∙ ap (λ cs. cs ++ rest) (first-more plan rows count)
          ∙ ap (λ cs. (first_calls ++ cs) ++ rest)
          (ap (in_batch (suc count)) split
          ∙ map-append number (take place planned) (get_or planned place (Release 0) ∷ drop (suc place) planned))
          ∙ ap (λ cs. cs ++ rest) (sym (append_assoc first_calls before (asked_for ∷ behind)))
          ∙ append_assoc (first_calls ++ before) (asked_for ∷ behind) rest

      up_to : map (λ (b : BatchCall). b.call) ((first_calls ++ in_batch (suc count) (take place planned)) ++ (asked_for ∷ []))
          ≡ map (λ (b : BatchCall). b.call) first_calls ++ take (suc place) planned
      up_to =
          map-append call_in (first_calls ++ in_batch (suc count) (take place planned)) (asked_for ∷ [])
          ∙ ap (λ cs. cs ++ (get_or planned place (Release 0) ∷ []))
          (map-append call_in first_calls (in_batch (suc count) (take place planned))
          ∙ ap (λ cs. map call_in first_calls ++ cs) (calls-of (suc count) (take place planned)))
          ∙ append_assoc (map call_in first_calls) (take place planned) (get_or planned place (Release 0) ∷ [])
          ∙ ap (λ cs. map call_in first_calls ++ cs) (sym one-on)
