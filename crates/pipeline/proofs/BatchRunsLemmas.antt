-- The batches that were run so far, and what their run comes to.
use Rattle.std.proofs.Common.{◌≡◌, ◌+◌, ◌*◌, ◌≤◌, mul-le-mul, ℕ, suc, List, [], ◌∷◌}
use Rattle.std.proofs.Common.{◌++◌, All, length, map, refl, sym, ◌∙◌, ap, subst, arith}
use Rattle.std.proofs.lemmas.Grind.{flat_map-append}
use Rattle.std.proofs.lemmas.List.{append-nil, length-map, map-append}
use Rattle.std.proofs.lemmas.List.Elements.{All-append, All-cons, All-nil}
use Rattle.std.specs.Prelude.{Ok, Err}
use Rattle.mem_num.specs.declared.buffer_ref.Ref.{Ref}
use Rattle.mem_model.specs.MeasuredTree.{MeasuredTree}
use Rattle.mem_buf.specs.Chain.{MakesCalls, Runs}
use Rattle.mem_buf.specs.MemoryCall.{MemoryCall}
use Rattle.mem_buf.proofs.ChainLemmas.{MakesCalls-append}
use Rattle.alloc_tree.specs.SoloMeaning.{solo_model}
use Rattle.alloc_tree.specs.SoloView.{solo_view}
use Rattle.query_model.specs.Answer.{answer_of}
use Rattle.query_model.specs.Fit.{IsFit}
use Rattle.query_model.specs.Requests.{answer_kinds, batch_count, batch_rows}
use Rattle.query_model.specs.declared.bounds.TheConstants.{MOST_ROWS}
use Rattle.query_model.specs.declared.cell.Cell.{Cell}
use Rattle.query_model.specs.declared.plan.Plan.{Plan}
use Rattle.batch_vec.specs.Batches.{BatchView}
use Rattle.batch_vec.specs.declared.refused.OpRefused.{OpRefused}
use Rattle.batch_vec.specs.declared.refused.OpRefused.TheVariants.{Full, NoMemory}
use Rattle.operators.specs.Instead.{references_of}
use Rattle.pipeline.specs.BatchRun.{IsBatchRun, turns_a_batch}
use Rattle.pipeline.specs.Holding.{GaveAllBack, GivesUp}
use Rattle.pipeline.specs.Stages.{AreBatchesDone, AreParts, CanBegin, CanRunMore, IsBatchesRefusal, refusal_in}
use Rattle.pipeline.proofs.BatchesLemmas.{batches-long, batches-more, first_batches}
use Rattle.pipeline.proofs.HoldingLemmas.{leaves-append, leaves-beside}
use Rattle.pipeline.proofs.PartsLemmas.{AreFirstDone, all-done, none-done, one-more, one-refused}
use Rattle.pipeline.proofs.SoloRunLemmas.{none-left, run-on, turns-few}
use Rattle.pipeline.proofs.TokenLemmas.{spent-turns}

-- the batches before this number were run, their parts are held, and as many others can be run
pub record HaveRun (plan : Plan) (rows : List (List Cell)) (number left : ℕ) (batches : List (BatchView Ref)) (old new : MeasuredTree)
    : Type 0 where
  pub count : ℕ
  pub number_is : number ≡ suc count
  pub calls : List MemoryCall
  pub made : MakesCalls solo_model calls old new
  pub first : AreFirstDone plan rows count (references_of (λ hold. hold) batches) calls
  pub kinds : All (λ batch. batch.kinds ≡ answer_kinds plan) batches
  pub rows_are : map (λ batch. batch.rows) batches ≡ map (answer_of plan) (first_batches plan rows count)
  pub can : CanRunMore plan left new

pub run-none : (plan : Plan) (rows : List (List Cell)) (left : ℕ) (tree : MeasuredTree) → CanRunMore plan left tree
    → HaveRun plan rows 1 left [] tree tree
run-none plan rows left tree can = record {
  count = 0;
  number_is = refl;
  calls = [];
  made = refl;
  first = none-done plan rows;
  kinds = All-nil (λ (batch : BatchView Ref). batch.kinds ≡ answer_kinds plan);
  rows_are = refl;
  can = can;
}

-- a number of a batch, as the next
next-number : (plan : Plan) (rows : List (List Cell)) (number count : ℕ) → number ≡ suc count
    → batch_rows plan rows number ≡ batch_rows plan rows (suc count)
next-number plan rows number count is = ap (batch_rows plan rows) is

pub run-more : (plan : Plan) (rows : List (List Cell)) (fit : IsFit plan) (number few many : ℕ) (batches : List (BatchView Ref))
    (part : BatchView Ref) (old middle new : MeasuredTree) → few + 1 ≤ many → HaveRun plan rows number many batches old middle
    → part.kinds ≡ answer_kinds plan → part.rows ≡ answer_of plan (batch_rows plan rows number)
    → Runs solo_model (IsBatchRun (λ hold. hold) plan (batch_rows plan rows number) (Ok part)) middle new
    → HaveRun plan rows (number + 1) few (batches ++ (part ∷ [])) old new
run-more plan rows fit number few many batches part old middle new less before kinds answer one =
    let count = before.count in
    let rows_here = next-number plan rows number count before.number_is in
    let run : IsBatchRun (λ hold. hold) plan (batch_rows plan rows (suc count)) (Ok part) one.0 =
    subst (λ rs. IsBatchRun (λ hold. hold) plan rs (Ok part) one.0) rows_here one.2 in
    let holds = references_of (λ hold. hold) batches in
    let more = map (λ (hold : Ref). hold) part.holds in
    let all : references_of (λ hold. hold) (batches ++ (part ∷ [])) ≡ holds ++ more =
    flat_map-append (λ (batch : BatchView Ref). map (λ hold. hold) batch.holds) batches (part ∷ [])
    ∙ ap (λ rs. holds ++ rs) (append-nil more) in
    record {
      count = suc count;
      number_is = let is = before.number_is in omega (arith, is);
      calls = before.calls ++ one.0;
      made = MakesCalls-append solo_model before.calls one.0 old middle new before.made one.1;
      first = subst (λ rs. AreFirstDone plan rows (suc count) rs (before.calls ++ one.0)) (sym all)
          (one-more plan rows fit count holds more before.calls one.0 before.first run.told run.buffers run.turns);
      kinds = All-append (λ (batch : BatchView Ref). batch.kinds ≡ answer_kinds plan) batches (part ∷ []) before.kinds
          (All-cons (λ (batch : BatchView Ref). batch.kinds ≡ answer_kinds plan) part [] kinds
          (All-nil (λ (batch : BatchView Ref). batch.kinds ≡ answer_kinds plan)));
      rows_are =
          map-append (λ (batch : BatchView Ref). batch.rows) batches (part ∷ [])
          ∙ ap (λ rs. rs ++ (part.rows ∷ [])) before.rows_are
          ∙ ap (λ rs. map (answer_of plan) (first_batches plan rows count) ++ (rs ∷ [])) (answer ∙ ap (answer_of plan) rows_here)
          ∙ sym (ap (map (answer_of plan)) (batches-more plan rows count)
          ∙ map-append (answer_of plan) (first_batches plan rows count) (batch_rows plan rows (suc count) ∷ []));
      can = run-on plan few many one.0 middle new less before.can one.1 run.buffers run.turns;
    }

-- how many parts there are
parts-long : (plan : Plan) (rows : List (List Cell)) (number left : ℕ) (batches : List (BatchView Ref)) (old new : MeasuredTree)
    → (run : HaveRun plan rows number left batches old new) → length batches ≡ run.count
parts-long plan rows number left batches old new run =
    let one = length-map batches (λ (batch : BatchView Ref). batch.rows) in
    let two = length-map (first_batches plan rows run.count) (answer_of plan) in
    let same = ap length run.rows_are in
    let long = batches-long plan rows run.count in
    omega (arith, one, two, same, long)

-- what was run, once all batches were
pub record AreRun (plan : Plan) (rows : List (List Cell)) (batches : List (BatchView Ref)) (old new : MeasuredTree) : Type 0 where
  pub parts : AreParts plan rows batches
  pub calls : Runs solo_model (AreBatchesDone plan rows (references_of (λ hold. hold) batches)) old new
  pub turns : (solo_view old).turns ≤ (solo_view new).turns + length batches * turns_a_batch plan

pub run-all : (plan : Plan) (rows : List (List Cell)) (number left : ℕ) (batches : List (BatchView Ref)) (old new : MeasuredTree)
    → HaveRun plan rows number left batches old new → number ≡ suc (batch_count plan rows) → AreRun plan rows batches old new
run-all plan rows number left batches old new run ends =
    let is = run.number_is in
    let count : run.count ≡ batch_count plan rows = omega (arith, is, ends) in
    record {
      parts = record {
        kinds = run.kinds;
        rows_are = run.rows_are ∙ ap (λ n. map (answer_of plan) (first_batches plan rows n)) count;
      };
      calls = (
        run.calls,
        run.made,
        all-done plan rows (references_of (λ hold. hold) batches) run.calls
            (subst (λ n. AreFirstDone plan rows n (references_of (λ hold. hold) batches) run.calls) count run.first),
      );
      turns =
          let spent = spent-turns solo_model run.calls old new run.made in
          let few = run.first.turns in
          let long = ap (λ n. n * turns_a_batch plan) (parts-long plan rows number left batches old new run) in
          omega (arith, spent, few, long);
    }

-- a batch was refused, and all was given back
pub record AreRefused (plan : Plan) (rows : List (List Cell)) (number : ℕ) (refused : OpRefused) (old new : MeasuredTree) : Type 0 where
  pub refusal : Runs solo_model (IsBatchesRefusal plan rows (refusal_in refused number)) old new
  pub returned : Runs solo_model GaveAllBack old new

pub run-refused : (plan : Plan) (rows : List (List Cell)) (number left : ℕ) (batches : List (BatchView Ref)) (refused : OpRefused)
    (old middle behind new : MeasuredTree) → number ≤ batch_count plan rows → HaveRun plan rows number left batches old middle
    → Runs solo_model (IsBatchRun {H = Ref} (λ hold. hold) plan (batch_rows plan rows number) (Err refused)) middle behind
    → Runs solo_model (GivesUp (references_of (λ hold. hold) batches)) behind new → AreRefused plan rows number refused old new
run-refused plan rows number left batches refused old middle behind new within before one others = record {
  refusal = (calls, made, decide refused run);
  returned = (calls, made, given_back);
}
  where
    count : ℕ
    count = before.count

    holds : List Ref
    holds = references_of (λ hold. hold) batches

    calls : List MemoryCall
    calls = before.calls ++ (one.0 ++ others.0)

    made : MakesCalls solo_model calls old new
    made =
        MakesCalls-append solo_model before.calls (one.0 ++ others.0) old middle new before.made
        (MakesCalls-append solo_model one.0 others.0 middle behind new one.1 others.1)

    run : IsBatchRun {H = Ref} (λ hold. hold) plan (batch_rows plan rows (suc count)) (Err refused) one.0
    run =
        subst (λ rs. IsBatchRun {H = Ref} (λ hold. hold) plan rs (Err refused) one.0)
        (next-number plan rows number count before.number_is) one.2

    given_back : GaveAllBack calls
    given_back =
        leaves-append [] before.calls holds (one.0 ++ others.0) [] before.first.leaves
        (leaves-append holds one.0 holds others.0 []
        (leaves-beside [] one.0 [] holds (none-left plan (batch_rows plan rows (suc count)) refused one.0 run).leaves) others.2)

    decide : (told : OpRefused) → IsBatchRun {H = Ref} (λ hold. hold) plan (batch_rows plan rows (suc count)) (Err told) one.0
        → IsBatchesRefusal plan rows (refusal_in told number) calls
    decide (Full full) is =
        subst (λ n. IsBatchesRefusal plan rows (refusal_in (Full full) n) calls) (sym before.number_is)
        (one-refused plan rows count holds full before.calls one.0 others.0 before.first is.told
        (let numbered = before.number_is in omega (arith, numbered, within)))
    decide NoMemory is = tt

-- a tree on which a query can begin can run all batches
pub can-begin : (plan : Plan) (rows : List (List Cell)) (tree : MeasuredTree) (count : ℕ) → IsFit plan → count ≤ MOST_ROWS → CanBegin tree
    → CanRunMore plan count tree
can-begin plan rows tree count fit few can = record {
  pins = can.pins;
  turns =
      let turns = can.turns in
      let spent = turns-few plan fit in
      let bound : count * turns_a_batch plan ≤ MOST_ROWS * 258 =
      mul-le-mul {n₁ = count} {m₁ = turns_a_batch plan} {n₂ = MOST_ROWS} {m₂ = 258} few spent in
      omega (arith, turns, bound);
}
