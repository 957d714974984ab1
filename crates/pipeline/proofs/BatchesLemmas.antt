-- Batches, one after another: their planned calls, and where the references of their parts stand.
use Rattle.std.proofs.Common.{◌≡◌, ◌+◌, ◌*◌, ◌-◌, ◌<◌, ◌≤◌, ℕ, zero, suc, List, []}
use Rattle.std.proofs.Common.{◌∷◌, ◌++◌, All, length, map, refl, sym, ◌∙◌, ap, subst, append_assoc, arith}
use Rattle.std.proofs.lemmas.Grind.{flat_map-append}
use Rattle.std.proofs.lemmas.List.{append-nil, length-append, length-map, map-append}
use Rattle.std.proofs.lemmas.List.Elements.{All-append, All-cons, All-map, All-nil, All-weaker}
use Rattle.std.proofs.lemmas.List.FromFn.{length-range_with_len}
use Rattle.std.proofs.lemmas.List.Sums.{sum_by-cons}
use Rattle.std.specs.Prelude.{flat_map, sum_by}
use Rattle.std.specs.List.{range_with_len}
use Rattle.mem_num.specs.declared.alloc_id.AllocId.{AllocId}
use Rattle.mem_model.specs.Calls.{Grant, Release}
use Rattle.mem_model.specs.PlannedCalls.{PlannedCall}
use Rattle.query_model.specs.Answer.{answer_of}
use Rattle.query_model.specs.Fit.{FitsColumns, IsFit}
use Rattle.query_model.specs.Filter.{meeting}
use Rattle.query_model.specs.Buffers.{buffer_lengths}
use Rattle.query_model.specs.Requests.{answer_kinds, batch_rows, filter_id, kinds_of, output_kinds, project_id, scan_id, sums_id}
use Rattle.query_model.specs.SequentialCalls.{BatchCall, answer_places, answer_width}
use Rattle.query_model.specs.SequentialCalls.{batch_calls, calls_a_batch, calls_from, column_places}
use Rattle.query_model.specs.SequentialCalls.{filter_places, first_place, in_batch, move_calls, output_calls, release_calls, scan_places}
use Rattle.query_model.specs.SequentialCalls.{store_calls, unpicked, width}
use Rattle.query_model.specs.declared.cell.Cell.{Cell}
use Rattle.query_model.specs.declared.kind.Kind.{Kind}
use Rattle.query_model.specs.declared.output.Output.{Output}
use Rattle.query_model.specs.declared.output.Output.TheVariants.{Group, Select}
use Rattle.query_model.specs.declared.plan.Plan.{Plan}
use Rattle.pipeline.specs.Stages.{parts_places}
use Rattle.pipeline.proofs.PickLemmas.{picks-sum}
use Rattle.pipeline.proofs.TokenLemmas.{buffers-count}

-- a range with one number more
pub range-more : (first count : ℕ) → range_with_len first (suc count) ≡ range_with_len first count ++ ((first + count) ∷ [])
range-more first zero = ap (λ n. n ∷ []) (let same : first ≡ first + zero = omega arith in same)
range-more first (suc count) =
    let last : first + 1 + count ≡ first + suc count = omega arith in
    ap (λ ns. first ∷ ns) (range-more (first + 1) count)
    ∙ ap (λ n. first ∷ (range_with_len (first + 1) count ++ (n ∷ []))) last

-- what holds for each number of a range
range-all : (P : ℕ → Type 0) (first count : ℕ) → ((n : ℕ) → first ≤ n → n < first + count → P n) → All P (range_with_len first count)
range-all P first zero each = All-nil P
range-all P first (suc count) each =
    All-cons P first (range_with_len (first + 1) count) (each first (omega arith) (omega arith))
    (range-all P (first + 1) count (λ n from to. each n (omega (arith, from)) (omega (arith, to))))

-- a sum of ones
ones : (xs : List ℕ) → sum_by (λ x. 1) xs ≡ length xs
ones [] = refl
ones (x ∷ xs) =
    let one = sum_by-cons (λ (x : ℕ). 1) x xs in
    let rest = ones xs in
    omega (arith, one, rest)

-- the first batches of rows
abbrev pub first_batches : Plan → List (List Cell) → ℕ → List (List (List Cell))
first_batches plan rows count = map (batch_rows plan rows) (range_with_len 1 count)

pub batches-more : (plan : Plan) (rows : List (List Cell)) (count : ℕ)
    → first_batches plan rows (suc count) ≡ first_batches plan rows count ++ (batch_rows plan rows (suc count) ∷ [])
batches-more plan rows count =
    let last : 1 + count ≡ suc count = omega arith in
    ap (map (batch_rows plan rows)) (range-more 1 count)
    ∙ map-append (batch_rows plan rows) (range_with_len 1 count) ((1 + count) ∷ [])
    ∙ ap (λ n. first_batches plan rows count ++ (batch_rows plan rows n ∷ [])) last

pub batches-long : (plan : Plan) (rows : List (List Cell)) (count : ℕ) → length (first_batches plan rows count) ≡ count
batches-long plan rows count = length-map (range_with_len 1 count) (batch_rows plan rows) ∙ length-range_with_len 1 count

-- the calls of batches, and of others behind them
pub calls-append : (plan : Plan) (number : ℕ) (parts more : List (List (List Cell)))
    → calls_from plan number (parts ++ more) ≡ calls_from plan number parts ++ calls_from plan (number + length parts) more
calls-append plan number [] more =
    let same : number ≡ number + zero = omega arith in
    ap (λ n. calls_from plan n more) same
calls-append plan number (rows ∷ parts) more =
    let next : number + 1 + length parts ≡ number + suc (length parts) = omega arith in
    ap (λ cs. in_batch number (batch_calls plan number rows) ++ cs)
    (calls-append plan (number + 1) parts more ∙ ap (λ n. calls_from plan (number + 1) parts ++ calls_from plan n more) next)
    ∙ sym (append_assoc (in_batch number (batch_calls plan number rows)) (calls_from plan (number + 1) parts)
    (calls_from plan (number + suc (length parts)) more))

-- calls without their batch
pub calls-of : (number : ℕ) (calls : List PlannedCall) → map (λ (one : BatchCall). one.call) (in_batch number calls) ≡ calls
calls-of number [] = refl
calls-of number (call ∷ calls) = ap (λ cs. call ∷ cs) (calls-of number calls)

-- the calls of the first batches, and of one more
pub first-more : (plan : Plan) (rows : List (List Cell)) (count : ℕ)
    → calls_from plan 1 (first_batches plan rows (suc count))
    ≡ calls_from plan 1 (first_batches plan rows count)
    ++ in_batch (suc count) (batch_calls plan (suc count) (batch_rows plan rows (suc count)))
first-more plan rows count =
    let part = batch_rows plan rows (suc count) in
    let long = batches-long plan rows count in
    let number : 1 + length (first_batches plan rows count) ≡ suc count = omega (arith, long) in
    ap (calls_from plan 1) (batches-more plan rows count)
    ∙ calls-append plan 1 (first_batches plan rows count) (part ∷ [])
    ∙ ap (λ n. calls_from plan 1 (first_batches plan rows count) ++ (in_batch n (batch_calls plan n part) ++ [])) number
    ∙ ap (λ cs. calls_from plan 1 (first_batches plan rows count) ++ cs)
    (append-nil (in_batch (suc count) (batch_calls plan (suc count) part)))

-- the places of the next batch begin behind the calls of one
pub next-place : (plan : Plan) (count : ℕ) → first_place plan (suc (suc count)) ≡ first_place plan (suc count) + calls_a_batch plan
next-place plan count = step (length plan.reserves) (calls_a_batch plan) count
  where
    step : (first calls count : ℕ) → first + calls * (suc (suc count) - 1) ≡ first + calls * (suc count - 1) + calls
    step first calls count =
        let one : suc (suc count) - 1 ≡ count + 1 = omega arith in
        let other : suc count - 1 ≡ count = omega arith in
        let more : first + calls * (count + 1) ≡ first + calls * count + calls = omega arith in
        ap (λ n. first + calls * n) one ∙ more ∙ sym (ap (λ n. first + calls * n + calls) other)

-- two calls move a reference
moves-long : (target : AllocId) (places : List ℕ) → length (move_calls target places) ≡ 2 * length places
moves-long target [] = refl
moves-long target (place ∷ places) = let rest = moves-long target places in omega (arith, rest)

columns-places : (first : ℕ) (columns : List ℕ) → length (column_places first columns) ≡ 2 * length columns
columns-places first [] = refl
columns-places first (column ∷ columns) =
    let both = length-append (range_with_len (first + 2 * column) 2) (column_places first columns) in
    let two = length-range_with_len (first + 2 * column) 2 in
    let rest = columns-places first columns in
    omega (arith, both, two, rest)

stores-long : (at : AllocId) (kinds : List Kind) (rows : List (List Cell)) → length (store_calls at kinds rows) ≡ 2 * length kinds
stores-long at kinds rows = length-map (buffer_lengths kinds rows) (Grant at) ∙ buffers-count kinds rows

releases-long : (places : List ℕ) → length (release_calls places) ≡ length places
releases-long places = length-map places Release

module _ (plan : Plan) (fit : IsFit plan) where
  kinds-long : length (kinds_of plan.columns) ≡ width plan
  kinds-long = length-map plan.columns (λ column. column.kind)

  -- picked columns and the others are all columns
  pub picked-count : (picks : List ℕ) → plan.output ≡ Select picks
      → (answer_width plan ≡ length picks) × (length picks + length (unpicked (width plan) picks) ≡ width plan)
  picked-count picks output =
      let fits : FitsColumns plan.columns (Select picks) = subst (FitsColumns plan.columns) output fit.output in
      let all = picks-sum (λ (column : ℕ). 1) picks (width plan) fits.1 fits.0.different in
      let one = ones picks in
      let two = ones (unpicked (width plan) picks) in
      let three = ones (range_with_len 0 (width plan)) in
      let long = length-range_with_len 0 (width plan) in (
        ap (λ o. length (output_kinds (kinds_of plan.columns) o)) output ∙ length-map picks _,
        omega (arith, all, one, two, three, long),
      )

  output-long : (output : Output) → plan.output ≡ output → (rows : List (List Cell)) (number : ℕ)
      → length (output_calls plan rows number output) ≡ 2 * width plan + 2 * answer_width plan
  output-long (Select picks) is rows number =
      let first = first_place plan number + 2 * width plan in
      let rest = unpicked (width plan) picks in
      let both = length-append (move_calls project_id (column_places first picks)) (release_calls (column_places first rest)) in
      let moved = moves-long project_id (column_places first picks) in
      let released = releases-long (column_places first rest) in
      let one = columns-places first picks in
      let other = columns-places first rest in
      let counts = picked-count picks is in
      let wide = counts.0 in
      let all = counts.1 in
      omega (arith, both, moved, released, one, other, wide, all)
  output-long (Group key sums) is rows number =
      let both = length-append (store_calls sums_id (answer_kinds plan) (answer_of plan rows))
      (release_calls (filter_places plan number)) in
      let stored = stores-long sums_id (answer_kinds plan) (answer_of plan rows) in
      let released = releases-long (filter_places plan number) in
      let long = length-range_with_len (first_place plan number + 2 * width plan) (2 * width plan) in
      omega (arith, both, stored, released, long)

  -- how many calls a batch makes
  pub batch-long : (rows : List (List Cell)) (number : ℕ) → length (batch_calls plan number rows) ≡ calls_a_batch plan
  batch-long rows number =
      let kinds = kinds_of plan.columns in
      let met = meeting plan.tests rows in
      let scan = store_calls scan_id kinds rows in
      let stored = store_calls filter_id kinds met in
      let released = release_calls (scan_places plan number) in
      let others = output_calls plan rows number plan.output in
      let one = length-append scan (stored ++ (released ++ others)) in
      let two = length-append stored (released ++ others) in
      let three = length-append released others in
      let first = stores-long scan_id kinds rows in
      let second = stores-long filter_id kinds met in
      let third = releases-long (scan_places plan number) in
      let long = length-range_with_len (first_place plan number) (2 * width plan) in
      let last = output-long plan.output refl rows number in
      let wide = kinds-long in
      omega (arith, one, two, three, first, second, third, long, last, wide)

  -- the references of a batch stand before the next batch
  output-within : (output : Output) → plan.output ≡ output → (count : ℕ)
      → All (λ place. place < first_place plan (suc (suc count))) (answer_places plan (suc count) output)
  output-within (Select picks) is count =
      let first = first_place plan (suc count) in
      let next = next-place plan count in
      let counts = picked-count picks is in
      let wide = counts.0 in
      let all = counts.1 in
      All-map (λ place. place < first_place plan (suc (suc count))) (λ i. first + 6 * width plan + 2 * i)
      (range_with_len 0 (2 * answer_width plan))
      (range-all (λ i. first + 6 * width plan + 2 * i < first_place plan (suc (suc count))) 0 (2 * answer_width plan)
      (λ n from to. omega (arith, next, wide, all, to)))
  output-within (Group key sums) is count =
      let first = first_place plan (suc count) in
      let next = next-place plan count in
      range-all (λ place. place < first_place plan (suc (suc count))) (first + 6 * width plan) (2 * answer_width plan)
      (λ n from to. omega (arith, next, to))

  pub places-more : (count : ℕ)
      → parts_places plan (suc count) ≡ parts_places plan count ++ answer_places plan (suc count) plan.output
  places-more count =
      let places : ℕ → List ℕ = λ batch. answer_places plan batch plan.output in
      let last : 1 + count ≡ suc count = omega arith in
      ap (flat_map places) (range-more 1 count)
      ∙ flat_map-append places (range_with_len 1 count) ((1 + count) ∷ [])
      ∙ ap (λ n. parts_places plan count ++ (answer_places plan n plan.output ++ [])) last
      ∙ ap (λ ps. parts_places plan count ++ ps) (append-nil (answer_places plan (suc count) plan.output))

  pub places-within : (count : ℕ) → All (λ place. place < first_place plan (suc count)) (parts_places plan count)
  places-within zero = All-nil (λ place. place < first_place plan 1)
  places-within (suc count) =
      let next = next-place plan count in
      subst (All (λ place. place < first_place plan (suc (suc count)))) (sym (places-more count))
      (All-append (λ place. place < first_place plan (suc (suc count))) (parts_places plan count)
      (answer_places plan (suc count) plan.output)
      (All-weaker (λ place. place < first_place plan (suc count)) (λ place. place < first_place plan (suc (suc count)))
      (λ place before. omega (arith, next, before)) (parts_places plan count) (places-within count))
      (output-within plan.output refl count))
