-- The operators of a batch, one after another: what each asks for, and what they come to.
use Rattle.std.proofs.Common.{◌≡◌, ◌<◌, ◌≤◌, ℕ, List, ◌++◌, All, length, map, refl, sym, ◌∙◌, ap, subst, arith}
use Rattle.std.proofs.lemmas.List.{length-map}
use Rattle.std.proofs.lemmas.List.Elements.{All-weaker}
use Rattle.std.proofs.lemmas.List.Sums.{count_by-le-length, length-filter}
use Rattle.std.proofs.lemmas.Option.{slice_get-map}
use Rattle.std.specs.Prelude.{Result, Ok, Err, Some, slice_get, slice_index_or}
use Rattle.std.specs.List.{list_all}
use Rattle.mem_num.specs.declared.bounds.TheConstants.{LARGEST}
use Rattle.mem_num.specs.declared.buffer_ref.Ref.{Ref}
use Rattle.mem_num.specs.declared.no_memory.NoMemory.{NoMemory as AnyNoMemory}
use Rattle.mem_buf.specs.Callers.{CanPay, CanShare}
use Rattle.mem_buf.specs.Chain.{MakesCalls, MemoryModel, Runs}
use Rattle.mem_buf.specs.MemoryCall.{MemoryCall}
use Rattle.mem_buf.proofs.ChainLemmas.{MakesCalls-append}
use Rattle.query_model.proofs.GroupLengthLemmas.{groups-short}
use Rattle.query_model.proofs.PartLemmas.{meeting-rows}
use Rattle.query_model.proofs.WithinLemmas.{at_most-bound, met-lengths as no-longer}
use Rattle.query_model.specs.Answer.{answer_of, groups_of, output_of}
use Rattle.query_model.specs.Buffers.{buffer_lengths}
use Rattle.query_model.specs.Cells.{IsRow}
use Rattle.query_model.specs.Filter.{meeting, meets}
use Rattle.query_model.specs.Fit.{ArePicks, FitsColumns, IsFit, kind_at}
use Rattle.query_model.specs.Requests.{answer_kinds, filter_id, kinds_of, output_kinds, project_id, scan_id, sum_kinds, sums_id}
use Rattle.query_model.specs.SequentialCalls.{answer_width, width}
use Rattle.query_model.specs.declared.bounds.TheConstants.{MOST_ROWS}
use Rattle.query_model.specs.declared.cell.Cell.{Cell}
use Rattle.query_model.specs.declared.kind.Kind.{Kind}
use Rattle.query_model.specs.declared.kind.Kind.TheVariants as kind
use Rattle.query_model.specs.declared.output.Output.TheVariants.{Select, Group}
use Rattle.query_model.specs.declared.plan.Plan.{Plan}
use Rattle.query_model.specs.declared.test.Test.{Test}
use Rattle.batch_vec.specs.Batches.{BatchView, IsStoreRows}
use Rattle.batch_vec.specs.Moving.{of_columns}
use Rattle.batch_vec.specs.declared.refused.OpRefused.{OpRefused}
use Rattle.batch_vec.specs.declared.refused.OpRefused.TheVariants.{NoMemory}
use Rattle.operators.specs.Instead.{IsStoreInstead}
use Rattle.operators.specs.Moving.{IsProject}
use Rattle.pipeline.specs.BatchRun.{CanRun, IsBatchRun, operator_ids}
use Rattle.pipeline.proofs.BatchLemmas.{AreMet, met}
use Rattle.pipeline.proofs.BudgetLemmas.{HasMet, HasScanned, can-filter, can-group, can-project, can-scan, rows-count, still-pinned}
use Rattle.pipeline.proofs.PickLemmas.{columns-long}
use Rattle.pipeline.proofs.RunLemmas.{filter-refused, groups-run, picked-run, scan-refused, unpicked-run}
use Rattle.pipeline.proofs.StoredLemmas.{is-stored}

-- the rows that meet the tests have these buffers
pub met-lengths : (plan : Plan) (rows : List (List Cell)) (kinds : List Kind) (tests : List Test) (others : List (List Cell))
    → kinds ≡ kinds_of plan.columns → tests ≡ plan.tests → others ≡ rows
    → buffer_lengths kinds (meeting tests others) ≡ buffer_lengths (kinds_of plan.columns) (meeting plan.tests rows)
met-lengths plan rows kinds tests others one two three i = buffer_lengths (one i) (meeting (two i) (three i))

-- the rows that meet the tests have buffers that are no longer
pub met-short : (plan : Plan) (rows : List (List Cell)) (kinds others : List Kind) (tests : List Test) (met : List (List Cell))
    → kinds ≡ kinds_of plan.columns → others ≡ kinds → tests ≡ plan.tests → met ≡ rows
    → All (λ length. length ≤ LARGEST) (buffer_lengths kinds rows)
    → All (λ length. length ≤ LARGEST) (buffer_lengths others (meeting tests met))
met-short plan rows kinds others tests met same one two three short =
    subst (All (λ length. length ≤ LARGEST)) (λ i. buffer_lengths (sym one i) (meeting tests (sym three i)))
    (at_most-bound LARGEST (buffer_lengths kinds (meeting tests rows)) (buffer_lengths kinds rows) (no-longer kinds tests rows) short)

-- picked columns are columns
pub picks-inside : (plan : Plan) (picks others : List ℕ) (kinds : List Kind) → IsFit plan → plan.output ≡ Select picks → others ≡ picks
    → kinds ≡ kinds_of plan.columns → All (λ pick. pick < length kinds) others
picks-inside plan picks others kinds fit output same are =
    let long = length-map plan.columns (λ column. column.kind) in
    let inside = (subst (FitsColumns plan.columns) output fit.output).1 in
    subst (All (λ pick. pick < length kinds)) (sym same)
    (subst (λ n. All (λ pick. pick < n) picks) (sym (ap length are ∙ long)) inside)

-- summed columns have whole numbers
pub sums-whole : (plan : Plan) (key : ℕ) (sums others : List ℕ) (kinds : List Kind) → IsFit plan → plan.output ≡ Group key sums
    → others ≡ sums → kinds ≡ kinds_of plan.columns → All (λ sum. slice_get kinds sum ≡ Some kind.Int) others
sums-whole plan key sums others kinds fit output same are =
    let whole = (subst (FitsColumns plan.columns) output fit.output).2 in
    subst (All (λ sum. slice_get kinds sum ≡ Some kind.Int)) (sym same)
    (subst (λ ks. All (λ sum. slice_get ks sum ≡ Some kind.Int) sums) (sym are)
    (All-weaker (λ sum. kind_at plan.columns sum ≡ Some kind.Int) (λ sum. slice_get (kinds_of plan.columns) sum ≡ Some kind.Int)
    (λ sum is. slice_get-map (λ column. column.kind) plan.columns sum ∙ is) sums whole))

-- and the key is one
pub key-inside : (plan : Plan) (key : ℕ) (sums : List ℕ) (kinds : List Kind) → IsFit plan → plan.output ≡ Group key sums
    → kinds ≡ kinds_of plan.columns → key < length kinds
key-inside plan key sums kinds fit output are =
    let inside = (subst (FitsColumns plan.columns) output fit.output).0 in
    let long = length-map plan.columns (λ column. column.kind) in
    let same = ap length are in
    omega (arith, inside, long, same)

-- the groups of the rows that meet the tests are the answer
pub group-lengths : (plan : Plan) (rows met : List (List Cell)) (key : ℕ) (sums others : List ℕ) → plan.output ≡ Group key sums
    → others ≡ sums → met ≡ meeting plan.tests rows
    → buffer_lengths (sum_kinds (length others)) (groups_of key others met) ≡ buffer_lengths (answer_kinds plan) (answer_of plan rows)
group-lengths plan rows met key sums others output same is =
    (λ i. buffer_lengths (sum_kinds (length (same i))) (groups_of key (same i) (is i)))
    ∙ ap (λ o. buffer_lengths (output_kinds (kinds_of plan.columns) o) (output_of o (meeting plan.tests rows))) (sym output)

-- what a fit plan picks, or groups
pub fit-picks : (plan : Plan) (picks : List ℕ) → IsFit plan → plan.output ≡ Select picks
    → ArePicks picks × All (λ pick. pick < length plan.columns) picks
fit-picks plan picks fit output = subst (FitsColumns plan.columns) output fit.output

module _ {Token Hold : Type 0} (memory : MemoryModel Token Hold) (plan : Plan) (rows : List (List Cell)) (old : Token)
    (can : CanRun (memory.view old) plan rows) where
  module _ (kinds : List Kind) (same : kinds ≡ kinds_of plan.columns) where
    pub scan-paid : CanPay (memory.view old) scan_id (buffer_lengths kinds rows)
    scan-paid = subst (λ ks. CanPay (memory.view old) scan_id (buffer_lengths ks rows)) (sym same) (can-scan memory plan rows old can)

    pub scan-returns : (refused : OpRefused) (new : Token)
        → Runs memory (IsStoreRows memory.reference (memory.view old) scan_id (buffer_lengths kinds rows) (Err refused)) old new
        → Runs memory (IsBatchRun memory.reference plan rows (Err refused)) old new
    scan-returns refused new runs =
        (runs.0, runs.1, scan-refused memory plan rows kinds same (memory.view old) refused runs.0 runs.2)

    pub has-scanned : (batch : BatchView Hold) (new : Token)
        → Runs memory (IsStoreRows memory.reference (memory.view old) scan_id (buffer_lengths kinds rows) (Ok batch)) old new
        → HasScanned memory plan rows old new (map memory.reference batch.holds)
    has-scanned batch new runs = record {
      calls = runs.0;
      made = runs.1;
      stored = is-stored scan_id (buffer_lengths (kinds_of plan.columns) rows) (map memory.reference batch.holds) runs.0
          (subst (λ ks. IsStoreRows memory.reference (memory.view old) scan_id (buffer_lengths ks rows) (Ok batch) runs.0) same runs.2);
    }

  module _ (middle : Token) (scanned : List Ref) (scan : HasScanned memory plan rows old middle scanned) where
    pub filter-pinned : 1 ≤ (memory.view middle).pins 2
    filter-pinned = still-pinned memory plan rows old can scan.calls middle scan.stored.buffers scan.made 1 (omega arith)

    module _ (lengths : List ℕ) (are : lengths ≡ buffer_lengths (kinds_of plan.columns) (meeting plan.tests rows)) where
      pub filter-paid : CanPay (memory.view middle) filter_id lengths
      filter-paid = subst (CanPay (memory.view middle) filter_id) (sym are) (can-filter memory plan rows old can middle scanned scan)

      pub filter-returns : (refused : OpRefused) (new : Token)
          → Runs memory (IsStoreInstead memory.reference (memory.view middle) filter_id lengths scanned (Err refused)) middle new
          → Runs memory (IsBatchRun memory.reference plan rows (Err refused)) old new
      filter-returns refused new runs = (
        scan.calls ++ runs.0,
        MakesCalls-append memory scan.calls runs.0 old middle new scan.made runs.1,
        filter-refused memory plan rows (kinds_of plan.columns) refl (memory.view middle) scanned refused scan.calls runs.0 scan.stored
            (subst (λ ls. IsStoreInstead memory.reference (memory.view middle) filter_id ls scanned (Err refused) runs.0) are runs.2),
      )

      pub has-met : (batch : BatchView Hold) (new : Token)
          → Runs memory (IsStoreInstead memory.reference (memory.view middle) filter_id lengths scanned (Ok batch)) middle new
          → HasMet memory plan rows old new (map memory.reference batch.holds)
      has-met batch new runs = record {
        middle = middle;
        scanned = scanned;
        scan = scan;
        stored = runs.2.stored;
        returned = runs.2.returned;
        made = subst (λ cs. MakesCalls memory cs middle new) runs.2.order runs.1;
        storing = is-stored filter_id (buffer_lengths (kinds_of plan.columns) (meeting plan.tests rows)) (map memory.reference batch.holds)
            runs.2.stored
            (subst (λ ls. IsStoreRows memory.reference (memory.view middle) filter_id ls (Ok batch) runs.2.stored) are runs.2.storing);
        given_back = runs.2.given_back;
      }

  -- a scan, and a filter behind it
  pub met-behind : (kinds : List Kind) → kinds ≡ kinds_of plan.columns → (one : BatchView Hold) (middle : Token)
      → Runs memory (IsStoreRows memory.reference (memory.view old) scan_id (buffer_lengths kinds rows) (Ok one)) old middle
      → one.kinds ≡ kinds → one.rows ≡ rows → (tests : List Test) → tests ≡ plan.tests → (other : BatchView Hold) (new : Token)
      → Runs memory (IsStoreInstead memory.reference (memory.view middle) filter_id (buffer_lengths one.kinds (meeting tests one.rows))
      (map memory.reference one.holds) (Ok other)) middle new
      → HasMet memory plan rows old new (map memory.reference other.holds)
  met-behind kinds same one middle first same_kinds same_rows tests same_tests other new second =
      has-met middle (map memory.reference one.holds) (has-scanned kinds same one middle first)
      (buffer_lengths one.kinds (meeting tests one.rows))
      (met-lengths plan rows one.kinds tests one.rows (same_kinds ∙ same) same_tests same_rows) other new second

  module _ (new : Token) (holds : List Ref) (has : HasMet memory plan rows old new holds) where
    all-calls : List MemoryCall
    all-calls = has.scan.calls ++ (has.stored ++ has.returned)

    made-all : MakesCalls memory (has.scan.calls ++ (has.stored ++ has.returned)) old new
    made-all = MakesCalls-append memory has.scan.calls (has.stored ++ has.returned) old has.middle new has.scan.made has.made

    are-met : AreMet plan rows holds (has.scan.calls ++ (has.stored ++ has.returned))
    are-met =
        met plan rows has.scanned holds has.scan.calls has.stored has.returned (rows-count plan rows) (rows-count plan (meeting plan.tests rows))
        has.scan.stored has.storing has.given_back

    pub output-pinned : (place : ℕ) → place < 4 → 1 ≤ (memory.view new).pins (slice_index_or operator_ids place scan_id).0
    output-pinned place within =
        still-pinned memory plan rows old can (has.scan.calls ++ (has.stored ++ has.returned)) new are-met.buffers made-all place within

    pub group-paid : (lengths : List ℕ) (key : ℕ) (sums : List ℕ) → plan.output ≡ Group key sums
        → lengths ≡ buffer_lengths (answer_kinds plan) (answer_of plan rows) → CanPay (memory.view new) sums_id lengths
    group-paid lengths key sums output are =
        subst (CanPay (memory.view new) sums_id) (sym are) (can-group memory plan rows old can new holds key sums output has)

    pub group-returns : (lengths : List ℕ) (key : ℕ) (sums : List ℕ) (answer : Result (BatchView Hold) OpRefused) (last : Token)
        → plan.output ≡ Group key sums → lengths ≡ buffer_lengths (answer_kinds plan) (answer_of plan rows)
        → Runs memory (IsStoreInstead memory.reference (memory.view new) sums_id lengths holds answer) new last
        → Runs memory (IsBatchRun memory.reference plan rows answer) old last
    group-returns lengths key sums answer last output are runs = (
      (has.scan.calls ++ (has.stored ++ has.returned)) ++ runs.0,
      MakesCalls-append memory (has.scan.calls ++ (has.stored ++ has.returned)) runs.0 old new last made-all runs.1,
      groups-run memory plan rows (memory.view new) key sums holds answer (has.scan.calls ++ (has.stored ++ has.returned)) runs.0 output
          are-met (subst (λ ls. IsStoreInstead memory.reference (memory.view new) sums_id ls holds answer runs.0) are runs.2),
    )

    module _ (fit : IsFit plan) (picks : List ℕ) (output : plan.output ≡ Select picks) where
      picks-width : answer_width plan ≡ length picks
      picks-width = ap (λ o. length (output_kinds (kinds_of plan.columns) o)) output ∙ length-map picks _

      pub project-paid : CanShare (memory.view new) project_id (of_columns holds picks)
      project-paid =
          let long = columns-long holds (width plan) picks are-met.holds_count (fit-picks plan picks fit output).1 in
          let same = picks-width in
          can-project memory plan rows old can new holds (of_columns holds picks) has (omega (arith, long, same))

      pub picked-returns : (columns : ℕ) (batch : BatchView Hold) (last : Token) → columns ≡ width plan
          → Runs memory (IsProject memory.reference project_id columns picks holds (Ok batch)) new last
          → Runs memory (IsBatchRun memory.reference plan rows (Ok batch)) old last
      picked-returns columns batch last many runs = (
        (has.scan.calls ++ (has.stored ++ has.returned)) ++ runs.0,
        MakesCalls-append memory (has.scan.calls ++ (has.stored ++ has.returned)) runs.0 old new last made-all runs.1,
        picked-run memory plan rows picks holds batch (has.scan.calls ++ (has.stored ++ has.returned)) runs.0 output
            (fit-picks plan picks fit output).1 (fit-picks plan picks fit output).0.different are-met
            (subst (λ n. IsProject memory.reference project_id n picks holds (Ok batch) runs.0) many runs.2),
      )

      pub unpicked-returns : (columns : ℕ) (refused : AnyNoMemory) (last : Token) → columns ≡ width plan
          → Runs memory (IsProject memory.reference project_id columns picks holds (Err refused)) new last
          → Runs memory (IsBatchRun memory.reference plan rows (Err NoMemory)) old last
      unpicked-returns columns refused last many runs = (
        (has.scan.calls ++ (has.stored ++ has.returned)) ++ runs.0,
        MakesCalls-append memory (has.scan.calls ++ (has.stored ++ has.returned)) runs.0 old new last made-all runs.1,
        unpicked-run memory plan rows picks holds (has.scan.calls ++ (has.stored ++ has.returned)) runs.0 refused
            (fit-picks plan picks fit output).1 (fit-picks plan picks fit output).0.different output are-met
            (subst (λ n. IsProject {H = Hold} memory.reference project_id n picks holds (Err refused) runs.0) many runs.2),
      )

-- a filter leaves no more rows
pub meeting-few : (tests : List Test) (rows : List (List Cell)) → length (meeting tests rows) ≤ length rows
meeting-few tests rows =
    let kept = length-filter (λ row. list_all (meets row) tests) rows in
    let few = count_by-le-length (λ row. list_all (meets row) tests) rows in
    omega (arith, kept, few)

-- the buffers of grouped sums are short
pub group-short : (plan : Plan) (rows : List (List Cell)) (key : ℕ) (sums : List ℕ) → IsFit plan → plan.output ≡ Group key sums
    → All (IsRow (kinds_of plan.columns)) rows → length rows ≤ MOST_ROWS
    → All (λ length. length ≤ LARGEST) (buffer_lengths (kinds_of plan.columns) (meeting plan.tests rows))
    → All (λ length. length ≤ LARGEST) (buffer_lengths (answer_kinds plan) (answer_of plan rows))
group-short plan rows key sums fit output typed few short =
    let fits = subst (FitsColumns plan.columns) output fit.output in
    subst (λ o. All (λ length. length ≤ LARGEST) (buffer_lengths (output_kinds (kinds_of plan.columns) o) (output_of o (meeting plan.tests rows))))
    (sym output)
    (groups-short (kinds_of plan.columns) key sums (meeting plan.tests rows) (meeting-rows (kinds_of plan.columns) plan.tests rows typed)
    (let inside = fits.0 in let many = length-map plan.columns (λ column. column.kind) in omega (arith, inside, many))
    (let less = meeting-few plan.tests rows in omega (arith, less, few)) short)
