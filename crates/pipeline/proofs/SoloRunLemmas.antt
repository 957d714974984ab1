-- Batches over the tree of one thread: what one needs, and what it leaves for the others.
use Rattle.std.proofs.Common.{◌≡◌, ◌+◌, ◌-◌, ◌*◌, ◌^◌, ◌<◌, ◌≤◌, ℕ, suc, Bool, true, false, ltb, mul-le-mul}
use Rattle.std.proofs.Common.{List, [], ◌∷◌, ◌++◌, All, length, drop, map, refl, sym, ◌∙◌, ap, subst, arith}
use Rattle.std.proofs.lemmas.Bool.Decides.{nat_tests}
use Rattle.std.proofs.lemmas.List.{append-nil, length-drop, length-replicate, length-take}
use Rattle.std.proofs.lemmas.List.Elements.{All-append, All-cons, All-nil, All-weaker}
use Rattle.std.proofs.lemmas.List.Sums.{sum_by-le}
use Rattle.std.specs.Prelude.{sum, sum_by, Ok, Err}
use Rattle.mem_num.specs.Rounded.{rounded_size}
use Rattle.mem_num.specs.declared.bounds.TheConstants.{LARGEST}
use Rattle.mem_num.specs.declared.rounding.Rounding.TheVariants.{Power}
use Rattle.mem_num.specs.declared.alloc_id.AllocId.{AllocId}
use Rattle.mem_num.specs.declared.buffer_ref.Ref.{Ref}
use Rattle.mem_model.specs.MeasuredTree.{MeasuredTree}
use Rattle.mem_buf.specs.Callers.{GivesBack}
use Rattle.mem_buf.specs.Chain.{MakesCalls, Runs}
use Rattle.mem_buf.specs.MemoryCall.{MemoryCall}
use Rattle.mem_buf.specs.TokenView.{CanName}
use Rattle.mem_buf.proofs.ChainLemmas.{MakesCalls-append}
use Rattle.alloc_tree.specs.SoloMeaning.{solo_model}
use Rattle.alloc_tree.specs.SoloView.{solo_view}
use Rattle.query_model.specs.Buffers.{buffer_lengths}
use Rattle.query_model.specs.Filter.{meeting}
use Rattle.query_model.specs.Fit.{FitsColumns, IsFit}
use Rattle.query_model.specs.Answer.{answer_of}
use Rattle.query_model.specs.Requests.{answer_kinds, batch_rows, filter_id, group_sizes, kinds_of}
use Rattle.query_model.specs.Requests.{output_kinds, project_id, rows_requests, scan_id, sums_id}
use Rattle.query_model.specs.SequentialCalls.{answer_width}
use Rattle.query_model.specs.declared.bounds.TheConstants.{MOST_ROWS}
use Rattle.query_model.specs.declared.cell.Cell.{Cell}
use Rattle.query_model.specs.declared.kind.Kind.TheVariants as kind
use Rattle.query_model.specs.declared.output.Output.{Output}
use Rattle.query_model.specs.declared.output.Output.TheVariants.{Group, Select}
use Rattle.query_model.specs.declared.plan.Plan.{Plan}
use Rattle.query_model.proofs.PartLemmas.{part-rows, parts-shorter}
use Rattle.query_model.proofs.RoundingLemmas.{charged_whole, sizes-summed}
use Rattle.query_model.proofs.WithinLemmas.{met-bound}
use Rattle.batch_vec.specs.Batches.{BatchView}
use Rattle.batch_vec.specs.declared.refused.OpRefused.{OpRefused}
use Rattle.batch_vec.specs.declared.refused.OpRefused.TheVariants.{Full, NoMemory}
use Rattle.pipeline.specs.BatchRun.{CanRun, IsBatchRun, turns_a_batch}
use Rattle.pipeline.specs.Holding.{GaveAllBack, GivesUp, IsBufferCall, Leaves, turns_in}
use Rattle.pipeline.specs.Stages.{AreStorable, CanRunMore, IsReturned}
use Rattle.pipeline.proofs.BatchesLemmas.{picked-count}
use Rattle.pipeline.proofs.BudgetLemmas.{asked-sum, rows-count}
use Rattle.pipeline.proofs.HoldingLemmas.{leaves-append, leaves-beside}
use Rattle.pipeline.proofs.OperatorLemmas.{group-short}
use Rattle.pipeline.proofs.StoredLemmas.{returned-part, turns-append}
use Rattle.pipeline.proofs.TokenLemmas.{buffers-count, kept-pins, spent-turns}

-- a buffer that isn't too long is charged no more than the greatest
rounded-short : (n : ℕ) → n ≤ LARGEST → rounded_size Power n ≤ LARGEST
rounded-short n short = decide (ltb LARGEST (rounded_size Power n)) refl
  where
    decide : (b : Bool) → ltb LARGEST (rounded_size Power n) ≡ b → rounded_size Power n ≤ LARGEST
    decide true is = (let large : LARGEST < rounded_size Power n = grind (arith, is, nat_tests) in
        let same = charged_whole n large in absurd (omega (arith, large, same, short)))
    decide false is = grind (arith, is, nat_tests)

rounded-sum : (lengths : List ℕ) → All (λ length. length ≤ LARGEST) lengths → sum_by (rounded_size Power) lengths ≤ length lengths * LARGEST
rounded-sum lengths short =
    sum_by-le (rounded_size Power) LARGEST lengths
    (All-weaker (λ n. n ≤ LARGEST) (λ n. rounded_size Power n ≤ LARGEST) rounded-short lengths short)

-- so are a few
few-bytes : (lengths : List ℕ) (count : ℕ) → length lengths ≤ count → All (λ length. length ≤ LARGEST) lengths
    → sum_by (rounded_size Power) lengths ≤ count * LARGEST
few-bytes lengths count few short =
    let all = rounded-sum lengths short in
    let bound : length lengths * LARGEST ≤ count * LARGEST =
    mul-le-mul {n₁ = length lengths} {m₁ = LARGEST} {n₂ = count} {m₂ = LARGEST} few (omega arith) in
    omega (arith, all, bound)

module _ (plan : Plan) (fit : IsFit plan) where
  -- an answer has at most 33 columns
  pub answer-narrow : answer_width plan ≤ 33
  answer-narrow = decide plan.output refl
    where
      decide : (output : Output) → plan.output ≡ output → answer_width plan ≤ 33
      decide (Select picks) is =
          let fits : FitsColumns plan.columns (Select picks) = subst (FitsColumns plan.columns) is fit.output in
          let wide = (picked-count plan fit picks is).0 in
          let few = fits.0.few in
          omega (arith, wide, few)
      decide (Group key sums) is =
          let fits : FitsColumns plan.columns (Group key sums) = subst (FitsColumns plan.columns) is fit.output in
          let wide : answer_width plan ≡ suc (length sums) =
          ap (λ o. length (output_kinds (kinds_of plan.columns) o)) is ∙ ap suc (length-replicate (length sums) kind.Sum) in
          let few = fits.1.few in
          omega (arith, wide, few)

  -- a batch spends few turns
  pub turns-few : turns_a_batch plan ≤ 258
  turns-few =
      let narrow = answer-narrow in
      let few = fit.few in
      omega (arith, narrow, few)

  module _ (rows : List (List Cell)) (storable : AreStorable plan rows) where
    -- the buffers of a batch aren't too long
    pub part-short : (number : ℕ) → All (λ length. length ≤ LARGEST) (buffer_lengths (kinds_of plan.columns) (batch_rows plan rows number))
    part-short number = parts-shorter (kinds_of plan.columns) rows (plan.batch * (number - 1)) plan.batch LARGEST storable.sized

    pub part-few : (number : ℕ) → length (batch_rows plan rows number) ≤ MOST_ROWS
    part-few number =
        let part = length-take plan.batch (drop (plan.batch * (number - 1)) rows) in
        let left = length-drop (plan.batch * (number - 1)) rows in
        let few = storable.few in
        omega (arith, part, left, few)

    -- nor are those of its groups
    groups-bytes : (number : ℕ) (output : Output) → plan.output ≡ output
        → sum (group_sizes plan (batch_rows plan rows number) output) ≤ 66 * LARGEST
    groups-bytes number (Select picks) is = omega arith
    groups-bytes number (Group key sums) is =
        let part = batch_rows plan rows number in
        let lengths = buffer_lengths (answer_kinds plan) (answer_of plan part) in
        let short = group-short plan part key sums fit is
        (part-rows (kinds_of plan.columns) rows (plan.batch * (number - 1)) plan.batch storable.typed) (part-few number)
        (met-bound (kinds_of plan.columns) plan.tests part LARGEST (part-short number)) in
        let same = sizes-summed lengths in
        let many = buffers-count (answer_kinds plan) (answer_of plan part) in
        let narrow = answer-narrow in
        let all = few-bytes lengths 66 (omega (arith, many, narrow)) short in
        omega (arith, same, all)

    -- what a batch asks for is within the bytes of a tree
    part-bytes : (number : ℕ) → sum (map (λ request. request.amount) (rows_requests plan (batch_rows plan rows number))) ≤ 2 ^ 61
    part-bytes number =
        let part = batch_rows plan rows number in
        let scan = buffer_lengths (kinds_of plan.columns) part in
        let met = buffer_lengths (kinds_of plan.columns) (meeting plan.tests part) in
        let all = asked-sum plan part in
        let three = groups-bytes number plan.output refl in
        let count = rows-count plan part in
        let fewer = rows-count plan (meeting plan.tests part) in
        let few = fit.few in
        let one = few-bytes scan 64 (omega (arith, count, few)) (part-short number) in
        let two = few-bytes met 64 (omega (arith, fewer, few))
        (met-bound (kinds_of plan.columns) plan.tests part LARGEST (part-short number)) in
        omega (arith, all, one, two, three)

    -- so a batch can be run
    pub can-run : (tree : MeasuredTree) (number : ℕ) → CanRunMore plan 1 tree → CanRun (solo_view tree) plan (batch_rows plan rows number)
    can-run tree number can = record {
      pinned = All-cons Pinned scan_id (filter_id ∷ project_id ∷ sums_id ∷ []) (can.pins 1 (omega arith))
          (All-cons Pinned filter_id (project_id ∷ sums_id ∷ []) (can.pins 2 (omega arith))
          (All-cons Pinned project_id (sums_id ∷ []) (can.pins 3 (omega arith))
          (All-cons Pinned sums_id [] (can.pins 4 (omega arith)) (All-nil Pinned))));
      named = All-cons Named scan_id (filter_id ∷ project_id ∷ sums_id ∷ []) refl
          (All-cons Named filter_id (project_id ∷ sums_id ∷ []) refl
          (All-cons Named project_id (sums_id ∷ []) refl
          (All-cons Named sums_id [] refl (All-nil Named))));
      bytes = part-bytes number;
      turns = let turns = can.turns in omega (arith, turns);
    }
      where
        Pinned : AllocId → Type 0
        Pinned at = 1 ≤ (solo_view tree).pins at.0

        Named : AllocId → Type 0
        Named at = CanName (solo_view tree) at

-- a tree on which some batches can be run can run fewer
pub run-fewer : (plan : Plan) (few many : ℕ) (tree : MeasuredTree) → few ≤ many → CanRunMore plan many tree → CanRunMore plan few tree
run-fewer plan few many tree less can = record {
  pins = can.pins;
  turns =
      let turns = can.turns in
      let bound : few * turns_a_batch plan ≤ many * turns_a_batch plan =
      mul-le-mul {n₁ = few} {m₁ = turns_a_batch plan} {n₂ = many} {m₂ = turns_a_batch plan} less (omega arith) in
      omega (arith, turns, bound);
}

-- after the calls of one batch the others can still be run
pub run-on : (plan : Plan) (few many : ℕ) (calls : List MemoryCall) (old new : MeasuredTree) → few + 1 ≤ many → CanRunMore plan many old
    → MakesCalls solo_model calls old new → All IsBufferCall calls → turns_in calls ≤ turns_a_batch plan → CanRunMore plan few new
run-on plan few many calls old new less can made buffers spent = record {
  pins = λ k within. subst (λ (pins : ℕ → ℕ). 1 ≤ pins k) (sym (kept-pins solo_model calls old new buffers made)) (can.pins k within);
  turns =
      let turns = can.turns in
      let left = spent-turns solo_model calls old new made in
      let bound : (few + 1) * turns_a_batch plan ≤ many * turns_a_batch plan =
      mul-le-mul {n₁ = few + 1} {m₁ = turns_a_batch plan} {n₂ = many} {m₂ = turns_a_batch plan} less (omega arith) in
      let split : (few + 1) * turns_a_batch plan ≡ few * turns_a_batch plan + turns_a_batch plan = omega arith in
      omega (arith, turns, left, bound, split, spent);
}

-- a part that was given back
pub part-returned : (plan : Plan) (rows : List (List Cell)) (part : BatchView Ref) (old middle new : MeasuredTree)
    → Runs solo_model (IsBatchRun (λ hold. hold) plan rows (Ok part)) old middle
    → Runs solo_model (GivesBack (map (λ hold. hold) part.holds)) middle new → Runs solo_model (IsReturned plan) old new
part-returned plan rows part old middle new run back =
    let holds = map (λ hold. hold) part.holds in
    let returned = returned-part holds back.0 back.2 in (
      run.0 ++ back.0,
      MakesCalls-append solo_model run.0 back.0 old middle new run.1 back.1,
      record {
        buffers = All-append IsBufferCall run.0 back.0 run.2.buffers returned.buffers;
        turns =
            let both = turns-append run.0 back.0 in
            let one = run.2.turns in
            let two = returned.turns in
            omega (arith, both, one, two);
        leaves = leaves-append [] run.0 holds back.0 [] run.2.told.leaves
            (subst (λ rs. Leaves rs back.0 []) (append-nil holds) (returned.leaves []));
      },
    )

-- a batch that was refused gave back what it had
pub none-left : (plan : Plan) (rows : List (List Cell)) (refused : OpRefused) (calls : List MemoryCall)
    → IsBatchRun {H = Ref} (λ hold. hold) plan rows (Err refused) calls → IsReturned plan calls
none-left plan rows (Full full) calls run = record { buffers = run.buffers; turns = run.turns; leaves = run.told.leaves }
none-left plan rows NoMemory calls run = record { buffers = run.buffers; turns = run.turns; leaves = run.told }

-- batches that gave back all that they had, and one more
pub record AreReturnedRuns (plan : Plan) (left : ℕ) (old new : MeasuredTree) : Type 0 where
  pub returned : Runs solo_model GaveAllBack old new
  pub can : CanRunMore plan left new

pub returned-more : (plan : Plan) (few many : ℕ) (old middle new : MeasuredTree) → few + 1 ≤ many → AreReturnedRuns plan many old middle
    → Runs solo_model (IsReturned plan) middle new → AreReturnedRuns plan few old new
returned-more plan few many old middle new less before one = record {
  returned = (
    before.returned.0 ++ one.0,
    MakesCalls-append solo_model before.returned.0 one.0 old middle new before.returned.1 one.1,
    leaves-append [] before.returned.0 [] one.0 [] before.returned.2 one.2.leaves,
  );
  can = run-on plan few many one.0 middle new less before.can one.1 one.2.buffers one.2.turns;
}

-- and then the parts of those before them
pub gives-up : (held : List Ref) (old middle new : MeasuredTree) → Runs solo_model GaveAllBack old middle
    → Runs solo_model (GivesBack held) middle new → Runs solo_model (GivesUp held) old new
gives-up held old middle new before back = (
  before.0 ++ back.0,
  MakesCalls-append solo_model before.0 back.0 old middle new before.1 back.1,
  leaves-append held before.0 held back.0 [] (leaves-beside [] before.0 [] held before.2)
      (subst (λ rs. Leaves rs back.0 []) (append-nil held) ((returned-part held back.0 back.2).leaves [])),
)

-- behind a batch that was refused the others can be run
pub run-behind : (plan : Plan) (rows : List (List Cell)) (few many : ℕ) (refused : OpRefused) (old new : MeasuredTree) → few + 1 ≤ many
    → CanRunMore plan many old → Runs solo_model (IsBatchRun {H = Ref} (λ hold. hold) plan rows (Err refused)) old new
    → CanRunMore plan few new
run-behind plan rows few many refused old new less can run =
    run-on plan few many run.0 old new less can run.1 run.2.buffers run.2.turns
