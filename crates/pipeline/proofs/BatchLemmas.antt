-- The calls of a batch, one operator after another.
use Rattle.std.proofs.Common.{◌≡◌, ◌+◌, ◌*◌, ◌<◌, ◌≤◌, ℕ, Bool, List, [], ◌++◌, All, length, map, sym, ◌∙◌, ap, subst, append_assoc, arith}
use Rattle.std.proofs.lemmas.List.{append-nil, length-append, length-map, map-append}
use Rattle.std.proofs.lemmas.List.Elements.{All-append}
use Rattle.std.specs.Prelude.{flat_map}
use Rattle.mem_num.specs.declared.buffer_ref.Ref.{Ref}
use Rattle.mem_model.specs.PlannedCalls.{PlannedCall}
use Rattle.mem_buf.specs.Callers.{GivesBack}
use Rattle.mem_buf.specs.MemoryCall.{MemoryCall}
use Rattle.mem_buf.specs.Moving.{AreMoved, Move, move_calls}
use Rattle.alloc_tree.specs.SoloPlanned.{ArePlanned, given_at}
use Rattle.query_model.specs.Answer.{answer_of}
use Rattle.query_model.specs.Buffers.{buffer_lengths}
use Rattle.query_model.specs.Filter.{meeting}
use Rattle.query_model.specs.Requests.{answer_kinds, filter_id, kinds_of, project_id, scan_id, sums_id}
use Rattle.query_model.specs.SequentialCalls.{answer_places, answer_width, batch_calls, column_places, filter_places, first_place, output_calls, release_calls, scan_places, store_calls, unpicked, width}
use Rattle.query_model.specs.SequentialCalls as sequential
use Rattle.query_model.specs.declared.cell.Cell.{Cell}
use Rattle.query_model.specs.declared.output.Output.TheVariants.{Select, Group}
use Rattle.query_model.specs.declared.plan.Plan.{Plan}
use Rattle.batch_vec.specs.Moving.{of_columns}
use Rattle.pipeline.specs.BatchRun.{IsBatchDone, IsDone}
use Rattle.pipeline.specs.Holding.{AreSame, IsBufferCall, Leaves, turns_in}
use Rattle.pipeline.proofs.HoldingLemmas.{leaves-append, leaves-from, leaves-moves, moves-done, same-swap}
use Rattle.pipeline.proofs.PlaceLemmas.{columns-stand, columns-there, moved-there, range-stands, unpicked-within, whole}
use Rattle.pipeline.proofs.PlannedLemmas.{StandsIn, given_by, length-releases, moves-planned, planned-append, releases-planned}
use Rattle.pipeline.proofs.StoredLemmas.{IsStored, returned-part, turns-append}

module _ (plan : Plan) (rows : List (List Cell)) where
  -- what the scan and the filter are planned to call
  abbrev pub met_calls : ℕ → List PlannedCall
  met_calls number =
      store_calls scan_id (kinds_of plan.columns) rows
      ++ (store_calls filter_id (kinds_of plan.columns) (meeting plan.tests rows) ++ release_calls (scan_places plan number))

  -- the scan's and the filter's calls were done, and the rows that meet the tests are held
  pub record AreMet (holds : List Ref) (calls : List MemoryCall) : Type 0 where
    pub scanned : List Ref
    pub returned : List Ref
    pub given : given_by calls ≡ scanned ++ (holds ++ returned)
    pub scanned_count : length scanned ≡ 2 * width plan
    pub holds_count : length holds ≡ 2 * width plan
    pub returned_count : length returned ≡ 2 * width plan
    pub planned : (number : ℕ) (given : List Ref) → length given ≡ first_place plan number → ArePlanned given (met_calls number) calls
    pub done : All IsDone calls
    pub buffers : All IsBufferCall calls
    pub leaves : Leaves [] calls holds
    pub turns : turns_in calls ≤ 4 * width plan

  -- buffers that were stored where others were given back
  given-back : (given scanned holds : List Ref) (calls : List MemoryCall) (number : ℕ) → length given ≡ first_place plan number
      → length scanned ≡ 2 * width plan → GivesBack scanned calls
      → ArePlanned (given ++ (scanned ++ holds)) (release_calls (scan_places plan number)) calls
  given-back given scanned holds calls number starts counts back =
      let there : map (given_at (given ++ (scanned ++ holds))) (scan_places plan number) ≡ scanned =
      whole given scanned holds (first_place plan number) (2 * width plan) starts counts in
      let long : length (given ++ (scanned ++ holds)) ≡ length given + (length scanned + length holds) = simp (length-append) in
      let stand : All (StandsIn (given ++ (scanned ++ holds))) (scan_places plan number) =
      range-stands (given ++ (scanned ++ holds)) (first_place plan number) (2 * width plan) (omega (arith, starts, counts, long)) in
      subst (ArePlanned (given ++ (scanned ++ holds)) (release_calls (scan_places plan number))) (sym back.1)
      (releases-planned (given ++ (scanned ++ holds)) (scan_places plan number) back.0 (back.2 ∙ sym there) stand)

  pub met : (scanned holds : List Ref) (scan stored returned : List MemoryCall)
      → length (buffer_lengths (kinds_of plan.columns) rows) ≡ 2 * width plan
      → length (buffer_lengths (kinds_of plan.columns) (meeting plan.tests rows)) ≡ 2 * width plan
      → IsStored scan_id (buffer_lengths (kinds_of plan.columns) rows) scanned scan
      → IsStored filter_id (buffer_lengths (kinds_of plan.columns) (meeting plan.tests rows)) holds stored
      → GivesBack scanned returned → AreMet holds (scan ++ (stored ++ returned))
  met scanned holds scan stored returned many few first second back =
      let part = returned-part scanned returned back in
      let calls = scan ++ (stored ++ returned) in
      let counts : length scanned ≡ 2 * width plan = first.count ∙ many in
      let gives : given_by calls ≡ scanned ++ (holds ++ given_by returned) =
      map-append _ scan (stored ++ returned)
      ∙ ap (λ rs. given_by scan ++ rs) (map-append _ stored returned)
      ∙ ap (λ rs. rs ++ (given_by stored ++ given_by returned)) first.given
      ∙ ap (λ rs. scanned ++ (rs ++ given_by returned)) second.given in
      record {
        scanned = scanned;
        returned = given_by returned;
        given = gives;
        scanned_count = counts;
        holds_count = second.count ∙ few;
        returned_count = back-count back ∙ counts;
        planned = λ number given starts. plans number given starts counts;
        done = All-append IsDone scan (stored ++ returned) first.done (All-append IsDone stored returned second.done part.done);
        buffers = All-append IsBufferCall scan (stored ++ returned) first.buffers
            (All-append IsBufferCall stored returned second.buffers part.buffers);
        leaves = leaves-append [] scan (scanned ++ []) (stored ++ returned) holds (first.leaves [])
            (leaves-append (scanned ++ []) stored (holds ++ (scanned ++ [])) returned holds (second.leaves (scanned ++ []))
            (leaves-from (holds ++ (scanned ++ [])) ((scanned ++ []) ++ holds) returned holds (same-swap holds (scanned ++ []))
            (subst (λ rs. Leaves (rs ++ holds) returned holds) (sym (append-nil scanned)) (part.leaves holds))));
        turns =
            let one = first.turns in
            let two = second.turns in
            let three = part.turns in
            let outer = turns-append scan (stored ++ returned) in
            let inner = turns-append stored returned in
            omega (arith, one, two, three, outer, inner, many, few);
      }
    where
      back-count : GivesBack scanned returned → length (given_by returned) ≡ length scanned
      back-count back =
          ap (λ cs. length (given_by cs)) back.1 ∙ length-releases back.0
          ∙ sym (length-map back.0 (λ (one : Ref × Bool). one.0)) ∙ ap length back.2

      plans : (number : ℕ) (given : List Ref) → length given ≡ first_place plan number → length scanned ≡ 2 * width plan
          → ArePlanned given (met_calls number) (scan ++ (stored ++ returned))
      plans number given starts counts =
          let one = store_calls scan_id (kinds_of plan.columns) rows in
          let two = store_calls filter_id (kinds_of plan.columns) (meeting plan.tests rows) in
          let three = release_calls (scan_places plan number) in
          planned-append given one (two ++ three) scan (stored ++ returned) (first.planned given)
          (subst (λ rs. ArePlanned (given ++ rs) (two ++ three) (stored ++ returned)) (sym first.given)
          (planned-append (given ++ scanned) two three stored returned (second.planned (given ++ scanned))
          (subst (λ rs. ArePlanned rs (release_calls (scan_places plan number)) returned)
          (sym (append_assoc given scanned holds) ∙ ap (λ rs. (given ++ scanned) ++ rs) (sym second.given))
          (given-back given scanned holds returned number starts counts back))))

  -- the calls of a batch are those of the scan and the filter, and then those for the output
  pub batch-split : (number : ℕ) → batch_calls plan number rows ≡ met_calls number ++ output_calls plan rows number plan.output
  batch-split number =
      let scan = store_calls scan_id (kinds_of plan.columns) rows in
      let stored = store_calls filter_id (kinds_of plan.columns) (meeting plan.tests rows) in
      let back = release_calls (scan_places plan number) in
      let output = output_calls plan rows number plan.output in
      sym (append_assoc scan (stored ++ back) output ∙ ap (λ ps. scan ++ ps) (append_assoc stored back output))

  -- the references of the rows that met the tests stand at their places
  met-there : (holds : List Ref) (calls : List MemoryCall) → AreMet holds calls → (number : ℕ) (given more : List Ref)
      → length given ≡ first_place plan number
      → (columns : List ℕ) → All (λ column. column < width plan) columns
      → map (given_at ((given ++ given_by calls) ++ more)) (column_places (first_place plan number + 2 * width plan) columns)
      ≡ of_columns holds columns
  met-there holds calls is number given more starts columns within =
      let before = given ++ is.scanned in
      let all : (given ++ given_by calls) ++ more ≡ before ++ (holds ++ (is.returned ++ more)) =
      ap (λ rs. (given ++ rs) ++ more) is.given ∙ simp append_assoc in
      let long = length-append given is.scanned in
      let counts = is.scanned_count in
      subst (λ rs. map (given_at rs) (column_places (first_place plan number + 2 * width plan) columns) ≡ of_columns holds columns) (sym all)
      (columns-there before holds (is.returned ++ more) (first_place plan number + 2 * width plan) (width plan) columns
      (omega (arith, starts, long, counts)) is.holds_count within)

  -- as many references are given behind them
  met-long : (holds : List Ref) (calls : List MemoryCall) → AreMet holds calls → (number : ℕ) (given : List Ref)
      → length given ≡ first_place plan number → length (given ++ given_by calls) ≡ first_place plan number + 6 * width plan
  met-long holds calls is number given starts =
      let outer = length-append given (given_by calls) in
      let all : length (given_by calls) ≡ length is.scanned + (length holds + length is.returned) =
      ap length is.given ∙ simp (length-append) in
      let one = is.scanned_count in
      let two = is.holds_count in
      let three = is.returned_count in
      omega (arith, starts, outer, all, one, two, three)

  met-stand : (holds : List Ref) (calls : List MemoryCall) → AreMet holds calls → (number : ℕ) (given more : List Ref)
      → length given ≡ first_place plan number
      → (columns : List ℕ) → All (λ column. column < width plan) columns
      → All (StandsIn ((given ++ given_by calls) ++ more)) (column_places (first_place plan number + 2 * width plan) columns)
  met-stand holds calls is number given more starts columns within =
      let long = met-long holds calls is number given starts in
      let outer = length-append (given ++ given_by calls) more in
      columns-stand ((given ++ given_by calls) ++ more) (first_place plan number + 2 * width plan) (width plan) columns
      (omega (arith, long, outer)) within

  -- calls behind those of the scan and the filter, which leave another batch held
  behind-met : (holds : List Ref) (calls : List MemoryCall) (more : List MemoryCall) (left : List Ref) → AreMet holds calls
      → ((number : ℕ) (given : List Ref) → length given ≡ first_place plan number
      → ArePlanned (given ++ given_by calls) (output_calls plan rows number plan.output) more)
      → ((number : ℕ) (given : List Ref) → length given ≡ first_place plan number
      → map (given_at ((given ++ given_by calls) ++ given_by more)) (answer_places plan number plan.output) ≡ left)
      → All IsDone more → Leaves holds more left → IsBatchDone plan rows left (calls ++ more)
  behind-met holds calls more left is planned stand done leaves = record {
    planned = λ number given starts.
        subst (λ ps. ArePlanned given ps (calls ++ more)) (sym (batch-split number))
        (planned-append given (met_calls number) (output_calls plan rows number plan.output) calls more (is.planned number given starts)
        (planned number given starts));
    answer = λ number given starts.
        ap (λ rs. map (given_at (given ++ rs)) (answer_places plan number plan.output)) (map-append _ calls more)
        ∙ ap (λ rs. map (given_at rs) (answer_places plan number plan.output)) (sym (append_assoc given (given_by calls) (given_by more)))
        ∙ stand number given starts;
    done = All-append IsDone calls more is.done done;
    leaves = leaves-append [] calls holds more left is.leaves leaves;
  }

  -- all of them stand at the places of the filter
  filter-there : (holds : List Ref) (calls : List MemoryCall) → AreMet holds calls → (number : ℕ) (given more : List Ref)
      → length given ≡ first_place plan number
      → map (given_at ((given ++ given_by calls) ++ more)) (filter_places plan number) ≡ holds
  filter-there holds calls is number given more starts =
      let before = given ++ is.scanned in
      let all : (given ++ given_by calls) ++ more ≡ before ++ (holds ++ (is.returned ++ more)) =
      ap (λ rs. (given ++ rs) ++ more) is.given ∙ simp append_assoc in
      let long = length-append given is.scanned in
      let counts = is.scanned_count in
      subst (λ rs. map (given_at rs) (filter_places plan number) ≡ holds) (sym all)
      (whole before holds (is.returned ++ more) (first_place plan number + 2 * width plan) (2 * width plan)
      (omega (arith, starts, long, counts)) is.holds_count)

  filter-stand : (holds : List Ref) (calls : List MemoryCall) → AreMet holds calls → (number : ℕ) (given more : List Ref)
      → length given ≡ first_place plan number
      → All (StandsIn ((given ++ given_by calls) ++ more)) (filter_places plan number)
  filter-stand holds calls is number given more starts =
      let long = met-long holds calls is number given starts in
      let outer = length-append (given ++ given_by calls) more in
      range-stands ((given ++ given_by calls) ++ more) (first_place plan number + 2 * width plan) (2 * width plan)
      (omega (arith, long, outer))

  -- groups were stored where the rows were given back
  pub grouped : (key : ℕ) (sums : List ℕ) (holds groups : List Ref) (calls stored returned : List MemoryCall)
      → plan.output ≡ Group key sums → AreMet holds calls
      → length (buffer_lengths (answer_kinds plan) (answer_of plan rows)) ≡ 2 * answer_width plan
      → IsStored sums_id (buffer_lengths (answer_kinds plan) (answer_of plan rows)) groups stored
      → GivesBack holds returned → IsBatchDone plan rows groups (calls ++ (stored ++ returned))
  grouped key sums holds groups calls stored returned output is many made back =
      let part = returned-part holds returned back in
      behind-met holds calls (stored ++ returned) groups is planned stand
      (All-append IsDone stored returned made.done part.done)
      (leaves-append holds stored (groups ++ holds) returned groups (made.leaves holds)
      (leaves-from (groups ++ holds) (holds ++ groups) returned groups (same-swap groups holds) (part.leaves groups)))
    where
      planned : (number : ℕ) (given : List Ref) → length given ≡ first_place plan number
          → ArePlanned (given ++ given_by calls) (output_calls plan rows number plan.output) (stored ++ returned)
      planned number given starts =
          let before = given ++ given_by calls in
          subst (λ o. ArePlanned before (output_calls plan rows number o) (stored ++ returned)) (sym output)
          (planned-append before (store_calls sums_id (answer_kinds plan) (answer_of plan rows)) (release_calls (filter_places plan number))
          stored returned (made.planned before)
          (subst (ArePlanned (before ++ given_by stored) (release_calls (filter_places plan number))) (sym back.1)
          (releases-planned (before ++ given_by stored) (filter_places plan number) back.0
          (back.2 ∙ sym (filter-there holds calls is number given (given_by stored) starts))
          (filter-stand holds calls is number given (given_by stored) starts))))

      stand : (number : ℕ) (given : List Ref) → length given ≡ first_place plan number
          → map (given_at ((given ++ given_by calls) ++ given_by (stored ++ returned))) (answer_places plan number plan.output) ≡ groups
      stand number given starts =
          let before = given ++ given_by calls in
          let all : given_by (stored ++ returned) ≡ groups ++ given_by returned =
          map-append _ stored returned ∙ ap (λ rs. rs ++ given_by returned) made.given in
          ap (λ o. map (given_at (before ++ given_by (stored ++ returned))) (answer_places plan number o)) output
          ∙ ap (λ rs. map (given_at (before ++ rs)) (answer_places plan number (Group key sums))) all
          ∙ whole before groups (given_by returned) (first_place plan number + 6 * width plan) (2 * answer_width plan)
          (met-long holds calls is number given starts) (made.count ∙ many)

  -- picked columns moved, and the others were given back
  pub projected : (picks : List ℕ) (holds targets : List Ref) (calls moved returned : List MemoryCall)
      → plan.output ≡ Select picks → All (λ pick. pick < width plan) picks → AreMet holds calls
      → AreMoved project_id (of_columns holds picks) targets moved
      → GivesBack (of_columns holds (unpicked (width plan) picks)) returned
      → length targets ≡ 2 * answer_width plan
      → AreSame holds (of_columns holds picks ++ of_columns holds (unpicked (width plan) picks))
      → IsBatchDone plan rows targets (calls ++ (moved ++ returned))
  projected picks holds targets calls moved returned output within is moves back many parts =
      let part = returned-part (of_columns holds (unpicked (width plan) picks)) returned back in
      let rest = of_columns holds (unpicked (width plan) picks) in
      behind-met holds calls (moved ++ returned) targets is planned stand
      (All-append IsDone moved returned (subst (All IsDone) (sym moves.order) (moves-done project_id moves.moves)) part.done)
      (leaves-from holds (of_columns holds picks ++ rest) (moved ++ returned) targets parts
      (leaves-append (of_columns holds picks ++ rest) moved (targets ++ rest) returned targets
      (subst (λ rs. Leaves (rs ++ rest) moved (targets ++ rest)) moves.from
      (subst (λ rs. Leaves (map (λ move. move.from) moves.moves ++ rest) moved (rs ++ rest)) moves.to
      (subst (λ cs. Leaves (map (λ move. move.from) moves.moves ++ rest) cs (map (λ move. move.to) moves.moves ++ rest))
      (sym moves.order) (leaves-moves project_id moves.moves rest))))
      (leaves-from (targets ++ rest) (rest ++ targets) returned targets (same-swap targets rest) (part.leaves targets))))
    where
      planned : (number : ℕ) (given : List Ref) → length given ≡ first_place plan number
          → ArePlanned (given ++ given_by calls) (output_calls plan rows number plan.output) (moved ++ returned)
      planned number given starts =
          let before = given ++ given_by calls in
          let first = first_place plan number + 2 * width plan in
          let none : before ++ [] ≡ before = append-nil before in
          let others = unpicked-within (width plan) picks in
          let there : map (given_at before) (column_places first picks) ≡ of_columns holds picks =
          subst (λ rs. map (given_at rs) (column_places first picks) ≡ of_columns holds picks) none
          (met-there holds calls is number given [] starts picks within) in
          let stands : All (StandsIn before) (column_places first picks) =
          subst (λ rs. All (StandsIn rs) (column_places first picks)) none (met-stand holds calls is number given [] starts picks within) in
          subst (λ o. ArePlanned before (output_calls plan rows number o) (moved ++ returned)) (sym output)
          (planned-append before (sequential.move_calls project_id (column_places first picks))
          (release_calls (column_places first (unpicked (width plan) picks))) moved returned
          (subst (ArePlanned before (sequential.move_calls project_id (column_places first picks))) (sym moves.order)
          (moves-planned before project_id (column_places first picks) moves.moves (moves.from ∙ sym there) stands))
          (subst (ArePlanned (before ++ given_by moved) (release_calls (column_places first (unpicked (width plan) picks)))) (sym back.1)
          (releases-planned (before ++ given_by moved) (column_places first (unpicked (width plan) picks)) back.0
          (back.2 ∙ sym (met-there holds calls is number given (given_by moved) starts (unpicked (width plan) picks) others))
          (met-stand holds calls is number given (given_by moved) starts (unpicked (width plan) picks) others))))

      stand : (number : ℕ) (given : List Ref) → length given ≡ first_place plan number
          → map (given_at ((given ++ given_by calls) ++ given_by (moved ++ returned))) (answer_places plan number plan.output) ≡ targets
      stand number given starts =
          let before = given ++ given_by calls in
          let first = first_place plan number + 6 * width plan in
          let counts : length moves.moves ≡ 2 * answer_width plan =
          sym (length-map moves.moves (λ (move : Move). move.to)) ∙ ap length moves.to ∙ many in
          let start = met-long holds calls is number given starts in
          let all : given_by (moved ++ returned) ≡ given_by (flat_map (move_calls project_id) moves.moves) ++ given_by returned =
          map-append _ moved returned ∙ ap (λ cs. given_by cs ++ given_by returned) moves.order in
          ap (λ o. map (given_at (before ++ given_by (moved ++ returned))) (answer_places plan number o)) output
          ∙ ap (λ rs. map (given_at (before ++ rs)) (answer_places plan number (Select picks))) all
          ∙ moved-there before project_id moves.moves (given_by returned) first 0 (2 * answer_width plan) (omega (arith, start)) counts
          ∙ moves.to
