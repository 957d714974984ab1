-- What the run of a batch comes to, by what its operators came to.
use Rattle.std.proofs.Common.{◌≡◌, ◌+◌, ◌*◌, ◌<◌, ◌≤◌, ℕ, suc, Bool, true, false, List, [], ◌∷◌, ◌++◌, All, length, map, take, refl, sym, ◌∙◌, ap, subst, append_assoc, arith}
use Rattle.std.proofs.lemmas.List.{append-nil, length-map}
use Rattle.std.proofs.lemmas.List.Elements.{All-append, All-nil}
use Rattle.std.specs.Prelude.{nat_eq, if◌then◌else◌, Result, Ok, Err}
use Rattle.mem_num.specs.declared.buffer_ref.Ref.{Ref}
use Rattle.mem_num.specs.declared.buffer_refused.BufferRefused.TheVariants as buffer
use Rattle.mem_num.specs.declared.full.Full.{Full as AnyFull}
use Rattle.mem_num.specs.declared.no_memory.NoMemory.{NoMemory as AnyNoMemory}
use Rattle.mem_num.specs.declared.ref_refused.RefRefused.TheVariants as sharing
use Rattle.mem_model.specs.PlannedCalls.{PlannedCall}
use Rattle.mem_buf.specs.Callers.{GivesBack}
use Rattle.mem_buf.specs.Chain.{MemoryModel}
use Rattle.mem_buf.specs.MemoryCall.{MemoryCall}
use Rattle.mem_buf.specs.Moving.{IsRefusedMove}
use Rattle.mem_buf.specs.TokenView.{TokenView}
use Rattle.query_model.specs.Answer.{answer_of}
use Rattle.query_model.specs.Buffers.{buffer_lengths}
use Rattle.query_model.specs.Filter.{meeting}
use Rattle.query_model.specs.Fit.{are_different}
use Rattle.query_model.specs.Requests.{answer_kinds, filter_id, kinds_of, output_kinds, project_id, scan_id, sums_id}
use Rattle.query_model.specs.SequentialCalls.{answer_width, batch_calls, filter_places, first_place, output_calls, release_calls, scan_places, store_calls, unpicked, width}
use Rattle.query_model.specs.declared.cell.Cell.{Cell}
use Rattle.query_model.specs.declared.kind.Kind.{Kind}
use Rattle.query_model.specs.declared.output.Output.TheVariants.{Select, Group}
use Rattle.query_model.specs.declared.plan.Plan.{Plan}
use Rattle.alloc_tree.specs.SoloPlanned.{ArePlanned}
use Rattle.batch_vec.specs.Batches.{BatchView, IsStoreRows}
use Rattle.batch_vec.specs.Moving.{of_columns}
use Rattle.batch_vec.specs.declared.refused.OpRefused.{OpRefused}
use Rattle.batch_vec.specs.declared.refused.OpRefused.TheVariants.{Full, NoMemory}
use Rattle.operators.specs.Instead.{IsStoreInstead}
use Rattle.operators.specs.Moving.{IsProject}
use Rattle.pipeline.specs.BatchRun.{IsBatchRefused, IsBatchRun, IsDone, turns_a_batch}
use Rattle.pipeline.specs.Holding.{AreSame, IsBufferCall, Leaves, held_count, turns_in}
use Rattle.pipeline.proofs.BatchLemmas.{AreMet, batch-split, grouped, met, met_calls, projected}
use Rattle.pipeline.proofs.HoldingLemmas.{leaves-append, leaves-from, moves-buffers}
use Rattle.pipeline.proofs.PickLemmas.{columns-long, picked-apart}
use Rattle.pipeline.proofs.PlaceLemmas.{refused-behind}
use Rattle.pipeline.proofs.PlannedLemmas.{given_by}
use Rattle.pipeline.proofs.StoredLemmas.{AreUndone, IsRefusedPart, IsStored, is-stored, refused-part, returned-part, turns-append, undone-part}
use Rattle.pipeline.proofs.TokenLemmas.{buffers-count}
use Rattle.pipeline.proofs.UnmovedLemmas.{AreGivenUp, given-up, moved-count, turns-moved}

module _ {Token Hold : Type 0} (memory : MemoryModel Token Hold) (plan : Plan) (rows : List (List Cell)) where
  -- calls that gave back all that they were given, within the turns of a batch
  record AreGivenBack (calls : List MemoryCall) : Type 0 where
    pub buffers : All IsBufferCall calls
    pub leaves : Leaves [] calls []
    pub turns : turns_in calls ≤ turns_a_batch plan

  full-run : (full : AnyFull) (calls : List MemoryCall) → AreGivenBack calls → IsBatchRefused plan rows full calls
      → IsBatchRun memory.reference plan rows (Err (Full full)) calls
  full-run full calls back is = record { buffers = back.buffers; turns = back.turns; told = is }

  short-run : (calls : List MemoryCall) → AreGivenBack calls → IsBatchRun memory.reference plan rows (Err NoMemory) calls
  short-run calls back = record { buffers = back.buffers; turns = back.turns; told = back.leaves }

  -- calls, a store that was refused behind them, and the release of what they held
  back-behind : (calls stored returned : List MemoryCall) (held : List Ref) (spent count : ℕ) → All IsBufferCall calls → Leaves [] calls held
      → turns_in calls ≤ spent → AreUndone count stored → GivesBack held returned → spent + count ≤ turns_a_batch plan
      → AreGivenBack (calls ++ (stored ++ returned))
  back-behind calls stored returned held spent count buffers leaves turns undone back within =
      let part = returned-part held returned back in
      record {
        buffers = All-append IsBufferCall calls (stored ++ returned) buffers
            (All-append IsBufferCall stored returned undone.buffers part.buffers);
        leaves = leaves-append [] calls held (stored ++ returned) [] leaves
            (leaves-append held stored held returned [] (undone.leaves held)
            (subst (λ rs. Leaves rs returned []) (append-nil held) (part.leaves [])));
        turns =
            let outer = turns-append calls (stored ++ returned) in
            let inner = turns-append stored returned in
            let one = undone.turns in
            let two = part.turns in
            omega (arith, outer, inner, turns, one, two, within);
      }

  -- a store behind calls that were planned, which a level refused
  refused-at : (before : ℕ → List PlannedCall) (plans : List PlannedCall) (rest : ℕ → List PlannedCall)
      (calls stored returned : List MemoryCall) (full : AnyFull)
      → ((number : ℕ) → batch_calls plan number rows ≡ before number ++ (plans ++ rest number))
      → ((number : ℕ) (given : List Ref) → length given ≡ first_place plan number → ArePlanned given (before number) calls)
      → All IsDone calls → IsRefusedPart plans full stored → Leaves [] (calls ++ (stored ++ returned)) []
      → IsBatchRefused plan rows full (calls ++ (stored ++ returned))
  refused-at before plans rest calls stored returned full split planned done part leaves = record {
    asked = calls ++ part.asked;
    refused = part.refused;
    returned = part.returned ++ returned;
    order = ap (λ cs. calls ++ (cs ++ returned)) part.order
        ∙ ap (λ cs. calls ++ cs) (append_assoc part.asked (part.refused ∷ part.returned) returned)
        ∙ sym (append_assoc calls part.asked (part.refused ∷ (part.returned ++ returned)));
    planned = λ number given starts.
        subst (λ ps. ArePlanned given (take (suc (length (calls ++ part.asked))) ps) ((calls ++ part.asked) ++ (part.refused ∷ [])))
        (sym (split number))
        (refused-behind given (before number) plans (rest number) calls part.asked part.refused (planned number given starts)
        (part.planned (given ++ given_by calls)) part.within);
    done = All-append IsDone calls part.asked done part.done;
    memory = part.memory;
    full = part.full;
    leaves = leaves;
  }

  module _ (kinds : List Kind) (same : kinds ≡ kinds_of plan.columns) where
    counted : length (buffer_lengths (kinds_of plan.columns) rows) ≡ 2 * width plan
    counted =
        let many = buffers-count (kinds_of plan.columns) rows in
        let long = length-map plan.columns (λ column. column.kind) in
        omega (arith, many, long)

    counted-met : length (buffer_lengths (kinds_of plan.columns) (meeting plan.tests rows)) ≡ 2 * width plan
    counted-met =
        let many = buffers-count (kinds_of plan.columns) (meeting plan.tests rows) in
        let long = length-map plan.columns (λ column. column.kind) in
        omega (arith, many, long)

    -- the scan was refused
    pub scan-refused : (view : TokenView) (refused : OpRefused) (calls : List MemoryCall)
        → IsStoreRows memory.reference view scan_id (buffer_lengths kinds rows) (Err refused) calls
        → IsBatchRun memory.reference plan rows (Err refused) calls
    scan-refused view refused calls is =
        decide refused (subst (λ ks. IsStoreRows memory.reference view scan_id (buffer_lengths ks rows) (Err refused) calls) same is)
      where
        nothing : calls ++ [] ≡ calls
        nothing = append-nil calls

        back : AreUndone (length (buffer_lengths (kinds_of plan.columns) rows)) calls → AreGivenBack calls
        back undone = record {
          buffers = undone.buffers;
          leaves = undone.leaves [];
          turns = let one = undone.turns in let many = counted in omega (arith, one, many);
        }

        decide : (refused : OpRefused)
            → IsStoreRows memory.reference view scan_id (buffer_lengths (kinds_of plan.columns) rows) (Err refused) calls
            → IsBatchRun memory.reference plan rows (Err refused) calls
        decide (Full full) store =
            let undone = undone-part view scan_id (buffer_lengths (kinds_of plan.columns) rows) (buffer.Full full) calls store in
            full-run full calls (back undone)
            (subst (IsBatchRefused plan rows full) nothing
            (refused-at (λ number. []) (store_calls scan_id (kinds_of plan.columns) rows)
            (λ number. store_calls filter_id (kinds_of plan.columns) (meeting plan.tests rows)
            ++ (release_calls (scan_places plan number) ++ output_calls plan rows number plan.output))
            [] calls [] full (λ number. refl) (λ number given starts. tt) (All-nil IsDone)
            (refused-part view scan_id (buffer_lengths (kinds_of plan.columns) rows) full calls store)
            (subst (λ cs. Leaves [] cs []) (sym nothing) (undone.leaves []))))
        decide NoMemory store =
            short-run calls (back (undone-part view scan_id (buffer_lengths (kinds_of plan.columns) rows) buffer.NoMemory calls store))

    -- the filter was refused, behind the scan
    pub filter-refused : (view : TokenView) (scanned : List Ref) (refused : OpRefused) (scan calls : List MemoryCall)
        → IsStored scan_id (buffer_lengths (kinds_of plan.columns) rows) scanned scan
        → IsStoreInstead memory.reference view filter_id (buffer_lengths kinds (meeting plan.tests rows)) scanned (Err refused) calls
        → IsBatchRun memory.reference plan rows (Err refused) (scan ++ calls)
    filter-refused view scanned refused scan calls first is =
        subst (λ cs. IsBatchRun memory.reference plan rows (Err refused) (scan ++ cs)) (sym is.order)
        (decide refused (subst (λ ks. IsStoreRows memory.reference view filter_id (buffer_lengths ks (meeting plan.tests rows)) (Err refused)
        is.stored) same is.storing))
      where
        back : AreUndone (length (buffer_lengths (kinds_of plan.columns) (meeting plan.tests rows))) is.stored
            → AreGivenBack (scan ++ (is.stored ++ is.returned))
        back undone =
            back-behind scan is.stored is.returned scanned (2 * width plan)
            (length (buffer_lengths (kinds_of plan.columns) (meeting plan.tests rows))) first.buffers
            (subst (Leaves [] scan) (append-nil scanned) (first.leaves []))
            (let one = first.turns in let many = counted in omega (arith, one, many)) undone is.given_back
            (let many = counted-met in omega (arith, many))

        decide : (refused : OpRefused)
            → IsStoreRows memory.reference view filter_id (buffer_lengths (kinds_of plan.columns) (meeting plan.tests rows)) (Err refused)
            is.stored
            → IsBatchRun memory.reference plan rows (Err refused) (scan ++ (is.stored ++ is.returned))
        decide (Full full) store =
            let lengths = buffer_lengths (kinds_of plan.columns) (meeting plan.tests rows) in
            let all = back (undone-part view filter_id lengths (buffer.Full full) is.stored store) in
            full-run full (scan ++ (is.stored ++ is.returned)) all
            (refused-at (λ number. store_calls scan_id (kinds_of plan.columns) rows)
            (store_calls filter_id (kinds_of plan.columns) (meeting plan.tests rows))
            (λ number. release_calls (scan_places plan number) ++ output_calls plan rows number plan.output)
            scan is.stored is.returned full (λ number. refl) (λ number given starts. first.planned given) first.done
            (refused-part view filter_id lengths full is.stored store) all.leaves)
        decide NoMemory store =
            short-run (scan ++ (is.stored ++ is.returned))
            (back (undone-part view filter_id (buffer_lengths (kinds_of plan.columns) (meeting plan.tests rows)) buffer.NoMemory
            is.stored store))

    -- the rows that meet the tests were stored where all rows were given back
    pub rows-met : (view : TokenView) (scanned : List Ref) (batch : BatchView Hold) (scan calls : List MemoryCall)
        → IsStored scan_id (buffer_lengths (kinds_of plan.columns) rows) scanned scan
        → IsStoreInstead memory.reference view filter_id (buffer_lengths kinds (meeting plan.tests rows)) scanned (Ok batch) calls
        → AreMet plan rows (map memory.reference batch.holds) (scan ++ calls)
    rows-met view scanned batch scan calls first is =
        subst (λ cs. AreMet plan rows (map memory.reference batch.holds) (scan ++ cs)) (sym is.order)
        (met plan rows scanned (map memory.reference batch.holds) scan is.stored is.returned counted counted-met first
        (is-stored filter_id (buffer_lengths (kinds_of plan.columns) (meeting plan.tests rows)) (map memory.reference batch.holds) is.stored
        (subst (λ ks. IsStoreRows memory.reference view filter_id (buffer_lengths ks (meeting plan.tests rows)) (Ok batch) is.stored)
        same is.storing))
        is.given_back)

  -- grouped sums, or their refusal
  pub groups-run : (view : TokenView) (key : ℕ) (sums : List ℕ) (holds : List Ref) (answer : Result (BatchView Hold) OpRefused)
      (calls more : List MemoryCall) → plan.output ≡ Group key sums → AreMet plan rows holds calls
      → IsStoreInstead memory.reference view sums_id (buffer_lengths (answer_kinds plan) (answer_of plan rows)) holds answer more
      → IsBatchRun memory.reference plan rows answer (calls ++ more)
  groups-run view key sums holds answer calls more output is store =
      subst (λ cs. IsBatchRun memory.reference plan rows answer (calls ++ cs)) (sym store.order) (decide answer store.storing)
    where
      lengths : List ℕ
      lengths = buffer_lengths (answer_kinds plan) (answer_of plan rows)

      many : length (buffer_lengths (answer_kinds plan) (answer_of plan rows)) ≡ 2 * answer_width plan
      many = buffers-count (answer_kinds plan) (answer_of plan rows)

      back : AreUndone (length (buffer_lengths (answer_kinds plan) (answer_of plan rows))) store.stored
          → AreGivenBack (calls ++ (store.stored ++ store.returned))
      back undone =
          back-behind calls store.stored store.returned holds (4 * width plan)
          (length (buffer_lengths (answer_kinds plan) (answer_of plan rows))) is.buffers is.leaves is.turns undone store.given_back
          (omega (arith, many))

      split : (number : ℕ) → batch_calls plan number rows
          ≡ met_calls plan rows number
          ++ (store_calls sums_id (answer_kinds plan) (answer_of plan rows) ++ release_calls (filter_places plan number))
      split number = batch-split plan rows number ∙ ap (λ o. met_calls plan rows number ++ output_calls plan rows number o) output

      decide : (answer : Result (BatchView Hold) OpRefused)
          → IsStoreRows memory.reference view sums_id (buffer_lengths (answer_kinds plan) (answer_of plan rows)) answer store.stored
          → IsBatchRun memory.reference plan rows answer (calls ++ (store.stored ++ store.returned))
      decide (Ok batch) stored =
          let groups = map memory.reference batch.holds in
          let made = is-stored sums_id (buffer_lengths (answer_kinds plan) (answer_of plan rows)) groups store.stored stored in
          let part = returned-part holds store.returned store.given_back in
          record {
            buffers = All-append IsBufferCall calls (store.stored ++ store.returned) is.buffers
                (All-append IsBufferCall store.stored store.returned made.buffers part.buffers);
            turns =
                let outer = turns-append calls (store.stored ++ store.returned) in
                let inner = turns-append store.stored store.returned in
                let one = is.turns in
                let two = made.turns in
                let three = part.turns in
                omega (arith, outer, inner, one, two, three, many);
            told = grouped plan rows key sums holds groups calls store.stored store.returned output is many made store.given_back;
          }
      decide (Err (Full full)) stored =
          let all = back (undone-part view sums_id (buffer_lengths (answer_kinds plan) (answer_of plan rows)) (buffer.Full full) store.stored
          stored) in
          full-run full (calls ++ (store.stored ++ store.returned)) all
          (refused-at (met_calls plan rows) (store_calls sums_id (answer_kinds plan) (answer_of plan rows))
          (λ number. release_calls (filter_places plan number)) calls store.stored store.returned full split is.planned is.done
          (refused-part view sums_id (buffer_lengths (answer_kinds plan) (answer_of plan rows)) full store.stored stored) all.leaves)
      decide (Err NoMemory) stored =
          short-run (calls ++ (store.stored ++ store.returned))
          (back (undone-part view sums_id (buffer_lengths (answer_kinds plan) (answer_of plan rows)) buffer.NoMemory store.stored stored))

  -- picked columns
  pub picked-run : (picks : List ℕ) (holds : List Ref) (batch : BatchView Hold) (calls more : List MemoryCall)
      → plan.output ≡ Select picks → All (λ pick. pick < width plan) picks → are_different nat_eq picks ≡ true → AreMet plan rows holds calls
      → IsProject memory.reference project_id (width plan) picks holds (Ok batch) more
      → IsBatchRun memory.reference plan rows (Ok batch) (calls ++ more)
  picked-run picks holds batch calls more output inside different is project =
      let targets = map memory.reference batch.holds in
      let picked = of_columns holds picks in
      let rest = of_columns holds (unpicked (width plan) picks) in
      let part = returned-part rest project.returned project.given_back in
      let long : length picked ≡ 2 * length picks = columns-long holds (width plan) picks is.holds_count inside in
      let widths : answer_width plan ≡ length picks = ap (λ o. length (output_kinds (kinds_of plan.columns) o)) output
      ∙ length-map picks _ in
      let turns = turns-moved project_id picked targets project.moved project.moving in
      let counts : length targets ≡ 2 * answer_width plan =
      (let one = moved-count project_id picked targets project.moved project.moving in omega (arith, one, long, widths)) in
      subst (λ cs. IsBatchRun memory.reference plan rows (Ok batch) (calls ++ cs)) (sym project.order) (record {
        buffers = All-append IsBufferCall calls (project.moved ++ project.returned) is.buffers
            (All-append IsBufferCall project.moved project.returned
            (subst (All IsBufferCall) (sym project.moving.order) (moves-buffers project_id project.moving.moves)) part.buffers);
        turns =
            let outer = turns-append calls (project.moved ++ project.returned) in
            let inner = turns-append project.moved project.returned in
            let one = is.turns in
            let two = part.turns in
            omega (arith, outer, inner, one, two, turns, long, widths);
        told = projected plan rows picks holds targets calls project.moved project.returned output inside is project.moving
            project.given_back counts (picked-apart holds picks (width plan) is.holds_count inside different);
      })

  -- memory ran out in the projection
  pub unpicked-run : (picks : List ℕ) (holds : List Ref) (calls more : List MemoryCall) (refused : AnyNoMemory)
      → All (λ pick. pick < width plan) picks → are_different nat_eq picks ≡ true
      → plan.output ≡ Select picks → AreMet plan rows holds calls
      → IsProject {H = Hold} memory.reference project_id (width plan) picks holds (Err refused) more
      → IsBatchRun {H = Hold} memory.reference plan rows (Err NoMemory) (calls ++ more)
  unpicked-run picks holds calls more refused inside different output is project =
      subst (λ cs. IsBatchRun {H = Hold} memory.reference plan rows (Err NoMemory) (calls ++ cs)) (sym project.order)
      (decide project.is_picked project.moving project.given_back)
    where
      rest : List Ref
      rest = of_columns holds (unpicked (width plan) picks)

      -- those that moved, and then the others
      given-all : (first others : List Ref) (moved returned : List MemoryCall) (count : ℕ) → AreSame holds (first ++ others)
          → AreGivenUp first moved → GivesBack others returned → length first ≤ count → 4 * width plan + count ≤ turns_a_batch plan
          → AreGivenBack (calls ++ (moved ++ returned))
      given-all first others moved returned count same up back few within =
          let part = returned-part others returned back in
          record {
            buffers = All-append IsBufferCall calls (moved ++ returned) is.buffers
                (All-append IsBufferCall moved returned up.buffers part.buffers);
            leaves = leaves-append [] calls holds (moved ++ returned) [] is.leaves
                (leaves-from holds (first ++ others) (moved ++ returned) [] same
                (leaves-append (first ++ others) moved others returned [] (up.leaves others)
                (subst (λ rs. Leaves rs returned []) (append-nil others) (part.leaves []))));
            turns =
                let outer = turns-append calls (moved ++ returned) in
                let inner = turns-append moved returned in
                let one = is.turns in
                let two = up.turns in
                let three = part.turns in
                omega (arith, outer, inner, one, two, three, few, within);
          }

      decide : (is_picked : Bool)
          → IsRefusedMove project_id (if is_picked then of_columns holds picks else holds) sharing.NoMemory project.moved
          → GivesBack (if is_picked then of_columns holds (unpicked (width plan) picks) else []) project.returned
          → IsBatchRun {H = Hold} memory.reference plan rows (Err NoMemory) (calls ++ (project.moved ++ project.returned))
      decide true moving back =
          let picked = of_columns holds picks in
          let up = given-up project_id picked sharing.NoMemory project.moved moving in
          let long : length picked ≡ 2 * length picks = columns-long holds (width plan) picks is.holds_count inside in
          let widths : answer_width plan ≡ length picks = ap (λ o. length (output_kinds (kinds_of plan.columns) o)) output
          ∙ length-map picks _ in
          short-run (calls ++ (project.moved ++ project.returned))
          (given-all picked rest project.moved project.returned (2 * answer_width plan)
          (picked-apart holds picks (width plan) is.holds_count inside different) up back (omega (arith, long, widths)) (omega arith))
      decide false moving back =
          let up = given-up project_id holds sharing.NoMemory project.moved moving in
          let counts = is.holds_count in
          short-run (calls ++ (project.moved ++ project.returned))
          (given-all holds [] project.moved project.returned (2 * width plan)
          (λ k n real. ap (λ rs. held_count rs k n) (sym (append-nil holds))) up back (omega (arith, counts)) (omega arith))
