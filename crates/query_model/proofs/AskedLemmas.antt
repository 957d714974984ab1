-- The calls of a query ask for the buffers that its batches are said to ask for, and for its reservations.
use Rattle.std.specs.Prelude.{◌≡◌, ◌≢◌, ◌≤◌, ◌+◌, ◌*◌, ℕ, List, [], ◌∷◌, ◌++◌, map, flat_map, drop, length, sum, sum_by, All, refl}
use Rattle.std.specs.List.{range_with_len}
use Rattle.std.proofs.Common.{arith, ap, sym, ◌∙◌}
use Rattle.std.proofs.lemmas.List.Elements.{All-head, All-tail, All-cons, All-nil, All-append, All-map}
use Rattle.std.proofs.lemmas.List.Sums.{sum_by-append, sum_by-cons}
use Rattle.mem_num.specs.declared.alloc_id.AllocId.{AllocId}
use Rattle.mem_model.specs.Calls.{Child, Grant, Transfer, Release}
use Rattle.mem_model.specs.PlannedCalls.{PlannedCall}
use Rattle.query_model.specs.declared.cell.Cell.{Cell}
use Rattle.query_model.specs.declared.kind.Kind.{Kind}
use Rattle.query_model.specs.declared.output.Output.{Output}
use Rattle.query_model.specs.declared.output.Output.TheVariants.{Select, Group}
use Rattle.query_model.specs.declared.plan.Plan.{Plan}
use Rattle.query_model.specs.Answer.{answer_of}
use Rattle.query_model.specs.Buffers.{buffer_lengths, buffer_sizes}
use Rattle.query_model.specs.Filter.{meeting}
use Rattle.query_model.specs.Requests.{root_id, scan_id, filter_id, project_id, sums_id, result_id, kinds_of, answer_kinds, batches_of}
use Rattle.query_model.specs.Requests.{group_sizes, rows_requests, buffer_requests, query_worst}
use Rattle.query_model.specs.SequentialCalls.{store_calls, release_calls, move_calls, column_places, unpicked, width, first_place}
use Rattle.query_model.specs.SequentialCalls.{scan_places, filter_places, answer_places, output_calls, batch_calls, merge_calls}
use Rattle.query_model.specs.SequentialCalls.{opening_calls, BatchCall, in_batch, calls_from, sequential_calls}
use Rattle.query_model.proofs.CeilingLemmas.{amounts, sum-requests, sum-amounts, sum-rows}
use Rattle.query_model.proofs.RoomLemmas.{asked_by, IsRoomy}
use Rattle.query_model.proofs.RoundingLemmas.{sizes-summed}
use Rattle.query_model.proofs.WithinLemmas.{sum_by-map}

-- the bytes that calls ask for
abbrev asked : List PlannedCall → ℕ
asked calls = sum_by asked_by calls

-- buffers ask for their sizes
asked-stored : (at : AllocId) (kinds : List Kind) (rows : List (List Cell))
    → asked (store_calls at kinds rows) ≡ sum (buffer_sizes kinds rows)
asked-stored at kinds rows = sum_by-map asked_by (Grant at) (buffer_lengths kinds rows) ∙ sym (sizes-summed (buffer_lengths kinds rows))

-- what is given back asks for nothing
asked-released : (places : List ℕ) → asked (release_calls places) ≡ 0
asked-released [] = refl
asked-released (place ∷ places) =
    let call : PlannedCall = Release place in
    let a = sum_by-cons asked_by call (release_calls places) in let b = asked-released places in omega (arith, a, b)

-- nor does what moves
asked-moved : (target : AllocId) (places : List ℕ) → asked (move_calls target places) ≡ 0
asked-moved target [] = refl
asked-moved target (place ∷ places) =
    let first : PlannedCall = Transfer place target in
    let second : PlannedCall = Release place in
    let a = sum_by-cons asked_by first (second ∷ move_calls target places) in
    let b = sum_by-cons asked_by second (move_calls target places) in
    let c = asked-moved target places in
    omega (arith, a, b, c)

-- calls for each of some numbers, which ask for nothing
asked-none : (calls : ℕ → List PlannedCall) → ((n : ℕ) → asked (calls n) ≡ 0) → (numbers : List ℕ) → asked (flat_map calls numbers) ≡ 0
asked-none calls none [] = refl
asked-none calls none (n ∷ numbers) =
    let a = sum_by-append asked_by (calls n) (flat_map calls numbers) in
    let b = none n in let c = asked-none calls none numbers in omega (arith, a, b, c)

-- the answer of a batch
asked-output : (plan : Plan) (rows : List (List Cell)) (batch : ℕ) (output : Output)
    → asked (output_calls plan rows batch output) ≡ sum (group_sizes plan rows output)
asked-output plan rows batch (Select picks) =
    let first = first_place plan batch + 2 * width plan in
    let moved = move_calls project_id (column_places first picks) in
    let rest = release_calls (column_places first (unpicked (width plan) picks)) in
    let a = sum_by-append asked_by moved rest in
    let b = asked-moved project_id (column_places first picks) in
    let c = asked-released (column_places first (unpicked (width plan) picks)) in
    omega (arith, a, b, c)
asked-output plan rows batch (Group key sums) =
    let stored = store_calls sums_id (answer_kinds plan) (answer_of plan rows) in
    let a = sum_by-append asked_by stored (release_calls (filter_places plan batch)) in
    let b = asked-stored sums_id (answer_kinds plan) (answer_of plan rows) in
    let c = asked-released (filter_places plan batch) in
    omega (arith, a, b, c)

-- a batch
asked-batch : (plan : Plan) (batch : ℕ) (rows : List (List Cell))
    → asked (batch_calls plan batch rows) ≡ sum (amounts (rows_requests plan rows))
asked-batch plan batch rows =
    let kinds = kinds_of plan.columns in
    let scan = store_calls scan_id kinds rows in
    let filtered = store_calls filter_id kinds (meeting plan.tests rows) in
    let released = release_calls (scan_places plan batch) in
    let output = output_calls plan rows batch plan.output in
    let a = sum_by-append asked_by scan (filtered ++ (released ++ output)) in
    let b = sum_by-append asked_by filtered (released ++ output) in
    let c = sum_by-append asked_by released output in
    let d = asked-stored scan_id kinds rows in
    let e = asked-stored filter_id kinds (meeting plan.tests rows) in
    let f = asked-released (scan_places plan batch) in
    let g = asked-output plan rows batch plan.output in
    let h = sum-rows plan rows in
    omega (arith, a, b, c, d, e, f, g, h)

-- the merge
asked-merge : (plan : Plan) (rows : List (List Cell)) (batches : List ℕ) (output : Output)
    → asked (merge_calls plan rows batches output) ≡ sum (group_sizes plan rows output)
asked-merge plan rows batches (Select picks) =
    asked-none (λ batch. move_calls result_id (answer_places plan batch (Select picks)))
    (λ batch. asked-moved result_id (answer_places plan batch (Select picks))) batches
asked-merge plan rows batches (Group key sums) =
    let stored = store_calls result_id (answer_kinds plan) (answer_of plan rows) in
    let released : ℕ → List PlannedCall = λ batch. release_calls (answer_places plan batch (Group key sums)) in
    let a = sum_by-append asked_by stored (flat_map released batches) in
    let b = asked-stored result_id (answer_kinds plan) (answer_of plan rows) in
    let c = asked-none released (λ batch. asked-released (answer_places plan batch (Group key sums))) batches in
    omega (arith, a, b, c)

-- the children
asked-opening : (limits reserves : List ℕ) → asked (opening_calls limits reserves) ≤ sum reserves
asked-opening [] reserves = omega arith
asked-opening (limit ∷ limits) [] = omega arith
asked-opening (limit ∷ limits) (reservation ∷ reserves) =
    let call : PlannedCall = Child root_id reservation limit in
    let a = sum_by-cons asked_by call (opening_calls limits reserves) in
    let b = sum_by-cons (λ (n : ℕ). n) reservation reserves in
    let c = asked-opening limits reserves in
    omega (arith, a, b, c)

-- calls with their batches
abbrev asked_in : List BatchCall → ℕ
asked_in calls = sum_by (λ one. asked_by one.call) calls

-- calls of one batch
asked-in_batch : (batch : ℕ) (calls : List PlannedCall) → asked_in (in_batch batch calls) ≡ asked calls
asked-in_batch batch calls = sum_by-map (λ (one : BatchCall). asked_by one.call) (λ call. record { batch = batch; call = call }) calls

-- all batches
asked-from : (plan : Plan) (batch : ℕ) (parts : List (List (List Cell)))
    → asked_in (calls_from plan batch parts) ≡ sum (amounts (flat_map (rows_requests plan) parts))
asked-from plan batch [] = refl
asked-from plan batch (rows ∷ parts) =
    let here = in_batch batch (batch_calls plan batch rows) in
    let a = sum_by-append (λ (one : BatchCall). asked_by one.call) here (calls_from plan (batch + 1) parts) in
    let b = asked-in_batch batch (batch_calls plan batch rows) in
    let c = asked-batch plan batch rows in
    let d = asked-from plan (batch + 1) parts in
    let e = sum-amounts (rows_requests plan rows) (flat_map (rows_requests plan) parts) in
    omega (arith, a, b, c, d, e)

-- all calls of a query ask for no more than the worst that it comes to
pub asked-query : (plan : Plan) (rows : List (List Cell)) →
    asked (map (λ one. one.call) (sequential_calls plan rows)) ≤ query_worst plan rows
asked-query plan rows =
    let opening = opening_calls (drop 1 plan.limits) plan.reserves in
    let parts = batches_of plan rows in
    let numbers = range_with_len 1 (length parts) in
    let merge = merge_calls plan rows numbers plan.output in
    let weight : BatchCall → ℕ = λ one. asked_by one.call in
    let a = sum_by-map asked_by (λ (one : BatchCall). one.call) (sequential_calls plan rows) in
    let b = sum_by-append weight (in_batch 0 opening) (calls_from plan 1 parts ++ in_batch 0 merge) in
    let c = sum_by-append weight (calls_from plan 1 parts) (in_batch 0 merge) in
    let d = asked-in_batch 0 opening in
    let e = asked-opening (drop 1 plan.limits) plan.reserves in
    let f = asked-from plan 1 parts in
    let g = asked-in_batch 0 merge in
    let h = asked-merge plan rows numbers plan.output in
    let i = sum-amounts (flat_map (rows_requests plan) parts) (buffer_requests plan rows 0) in
    let j = ap sum (sum-requests result_id (group_sizes plan rows plan.output)) in
    omega (arith, a, b, c, d, e, f, g, h, i, j)

-- the allocators of a query but the root
other : (n : ℕ) → 1 ≤ n → n ≢ 0
other n some none = omega (arith, some, none)

-- calls of a query's kinds, whose children have limits of at least `most`
module _ (most : ℕ) where
  -- all calls are
  abbrev AreRoomy : List PlannedCall → Type 0
  AreRoomy calls = All (IsRoomy most) calls

  -- buffers away from the root
  roomy-stored : (at : AllocId) (kinds : List Kind) (rows : List (List Cell)) → at.0 ≢ 0 → AreRoomy (store_calls at kinds rows)
  roomy-stored at kinds rows away = All-map (IsRoomy most) (Grant at) (buffer_lengths kinds rows) (λ k d within. away)

  -- what is given back
  roomy-released : (places : List ℕ) → AreRoomy (release_calls places)
  roomy-released places = All-map (IsRoomy most) Release places (λ k d within. tt)

  -- what moves
  roomy-moved : (target : AllocId) (places : List ℕ) → AreRoomy (move_calls target places)
  roomy-moved target [] = All-nil (IsRoomy most)
  roomy-moved target (place ∷ places) =
      All-cons (IsRoomy most) (Transfer place target) (Release place ∷ move_calls target places) tt
      (All-cons (IsRoomy most) (Release place) (move_calls target places) tt (roomy-moved target places))

  -- calls for each of some numbers
  roomy-each : (calls : ℕ → List PlannedCall) → ((n : ℕ) → AreRoomy (calls n)) → (numbers : List ℕ) → AreRoomy (flat_map calls numbers)
  roomy-each calls all [] = All-nil (IsRoomy most)
  roomy-each calls all (n ∷ numbers) = All-append (IsRoomy most) (calls n) (flat_map calls numbers) (all n) (roomy-each calls all numbers)

  -- the answer of a batch
  roomy-output : (plan : Plan) (rows : List (List Cell)) (batch : ℕ) (output : Output) → AreRoomy (output_calls plan rows batch output)
  roomy-output plan rows batch (Select picks) =
      let first = first_place plan batch + 2 * width plan in
      All-append (IsRoomy most) _ _ (roomy-moved project_id (column_places first picks))
      (roomy-released (column_places first (unpicked (width plan) picks)))
  roomy-output plan rows batch (Group key sums) =
      All-append (IsRoomy most) _ _ (roomy-stored sums_id (answer_kinds plan) (answer_of plan rows) (other 4 (omega arith)))
      (roomy-released (filter_places plan batch))

  -- a batch
  roomy-batch : (plan : Plan) (batch : ℕ) (rows : List (List Cell)) → AreRoomy (batch_calls plan batch rows)
  roomy-batch plan batch rows =
      let kinds = kinds_of plan.columns in
      All-append (IsRoomy most) _ _ (roomy-stored scan_id kinds rows (other 1 (omega arith)))
      (All-append (IsRoomy most) _ _ (roomy-stored filter_id kinds (meeting plan.tests rows) (other 2 (omega arith)))
      (All-append (IsRoomy most) _ _ (roomy-released (scan_places plan batch)) (roomy-output plan rows batch plan.output)))

  -- the merge
  roomy-merge : (plan : Plan) (rows : List (List Cell)) (batches : List ℕ) (output : Output)
      → AreRoomy (merge_calls plan rows batches output)
  roomy-merge plan rows batches (Select picks) =
      roomy-each (λ batch. move_calls result_id (answer_places plan batch (Select picks)))
      (λ batch. roomy-moved result_id (answer_places plan batch (Select picks))) batches
  roomy-merge plan rows batches (Group key sums) =
      All-append (IsRoomy most) _ _ (roomy-stored result_id (answer_kinds plan) (answer_of plan rows) (other 5 (omega arith)))
      (roomy-each (λ batch. release_calls (answer_places plan batch (Group key sums)))
      (λ batch. roomy-released (answer_places plan batch (Group key sums))) batches)

  -- the children, by their limits
  roomy-opening : (limits reserves : List ℕ) → All (λ limit. most ≤ limit) limits → AreRoomy (opening_calls limits reserves)
  roomy-opening [] reserves all = All-nil (IsRoomy most)
  roomy-opening (limit ∷ limits) [] all = All-nil (IsRoomy most)
  roomy-opening (limit ∷ limits) (reservation ∷ reserves) all =
      All-cons (IsRoomy most) (Child root_id reservation limit) (opening_calls limits reserves)
      (All-head (λ l. most ≤ l) limit limits all)
      (roomy-opening limits reserves (All-tail (λ l. most ≤ l) limit limits all))

  -- all limits but the root's
  others : (limits : List ℕ) → All (λ limit. most ≤ limit) limits → All (λ limit. most ≤ limit) (drop 1 limits)
  others [] all = all
  others (limit ∷ limits) all = All-tail (λ l. most ≤ l) limit limits all

  -- calls with their batches
  abbrev AreRoomyIn : List BatchCall → Type 0
  AreRoomyIn calls = All (λ one. IsRoomy most one.call) calls

  -- calls of one batch
  roomy-in_batch : (batch : ℕ) (calls : List PlannedCall) → AreRoomy calls → AreRoomyIn (in_batch batch calls)
  roomy-in_batch batch calls all =
      All-map (λ (one : BatchCall). IsRoomy most one.call) (λ call. record { batch = batch; call = call }) calls all

  -- all batches
  roomy-from : (plan : Plan) (batch : ℕ) (parts : List (List (List Cell))) → AreRoomyIn (calls_from plan batch parts)
  roomy-from plan batch [] = All-nil (λ (one : BatchCall). IsRoomy most one.call)
  roomy-from plan batch (rows ∷ parts) =
      All-append (λ (one : BatchCall). IsRoomy most one.call) _ _
      (roomy-in_batch batch (batch_calls plan batch rows) (roomy-batch plan batch rows)) (roomy-from plan (batch + 1) parts)

  -- all calls of a query are of its kinds, with limits that are the plan's
  pub roomy-query : (plan : Plan) (rows : List (List Cell)) → All (λ limit. most ≤ limit) plan.limits
      → AreRoomy (map (λ one. one.call) (sequential_calls plan rows))
  roomy-query plan rows all =
      let opening = opening_calls (drop 1 plan.limits) plan.reserves in
      let numbers = range_with_len 1 (length (batches_of plan rows)) in
      let merge = merge_calls plan rows numbers plan.output in
      All-map (IsRoomy most) (λ (one : BatchCall). one.call) (sequential_calls plan rows)
      (All-append (λ (one : BatchCall). IsRoomy most one.call) _ _
      (roomy-in_batch 0 opening (roomy-opening (drop 1 plan.limits) plan.reserves (others plan.limits all)))
      (All-append (λ (one : BatchCall). IsRoomy most one.call) _ _
      (roomy-from plan 1 (batches_of plan rows))
      (roomy-in_batch 0 merge (roomy-merge plan rows numbers plan.output))))
