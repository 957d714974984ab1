-- A token that can run a batch can pay for each operator, after those before it.
use Rattle.std.proofs.Common.{◌≡◌, ◌+◌, ◌*◌, ◌<◌, ◌≤◌, ℕ, List, [], ◌∷◌, ◌++◌, All, length, map, refl, sym, ◌∙◌, ap, subst, arith}
use Rattle.std.proofs.lemmas.List.{length-map, map-append}
use Rattle.std.proofs.lemmas.List.Elements.{All-append}
use Rattle.std.proofs.lemmas.List.Sums.{sum_by-append}
use Rattle.std.specs.Prelude.{slice_index_or, sum, sum_by}
use Rattle.mem_num.specs.Rounded.{rounded_size}
use Rattle.mem_num.specs.declared.rounding.Rounding.TheVariants.{Power}
use Rattle.mem_num.specs.declared.alloc_id.AllocId.{AllocId}
use Rattle.mem_num.specs.declared.buffer_ref.Ref.{Ref}
use Rattle.mem_model.specs.declared.charge.Charge.{Charge}
use Rattle.mem_buf.specs.Callers.{CanPay, CanShare, GivesBack}
use Rattle.mem_buf.specs.Chain.{MakesCalls, MemoryModel}
use Rattle.mem_buf.specs.MemoryCall.{MemoryCall}
use Rattle.mem_buf.specs.TokenView.{CanName}
use Rattle.query_model.proofs.RoundingLemmas.{sizes-summed}
use Rattle.query_model.specs.Answer.{answer_of}
use Rattle.query_model.specs.Buffers.{buffer_lengths, buffer_sizes}
use Rattle.query_model.specs.Filter.{meeting}
use Rattle.query_model.specs.Requests.{answer_kinds, filter_id, group_sizes, kinds_of, project_id, requests_at, rows_requests, scan_id, sums_id}
use Rattle.query_model.specs.SequentialCalls.{answer_width, width}
use Rattle.query_model.specs.declared.cell.Cell.{Cell}
use Rattle.query_model.specs.declared.output.Output.TheVariants.{Group}
use Rattle.query_model.specs.declared.plan.Plan.{Plan}
use Rattle.pipeline.specs.BatchRun.{CanRun, operator_ids}
use Rattle.pipeline.specs.Holding.{IsBufferCall}
use Rattle.pipeline.proofs.StoredLemmas.{AsksAt, IsStored, asked_bytes, returned-part, turns-append}
use Rattle.pipeline.proofs.TokenLemmas.{buffers-count, can_pay, can_share, kept-names, kept-pins, spent-bytes, spent-turns}

-- what requests at an allocator ask for
asked-are : (at : AllocId) (sizes : List ℕ) → map (λ request. request.amount) (requests_at at sizes) ≡ sizes
asked-are at [] = refl
asked-are at (size ∷ sizes) = ap (λ ns. size ∷ ns) (asked-are at sizes)

-- the bytes of rows, of those that meet the tests, and of their groups
abbrev pub scan_bytes : Plan → List (List Cell) → ℕ
scan_bytes plan rows = sum_by (rounded_size Power) (buffer_lengths (kinds_of plan.columns) rows)

abbrev pub met_bytes : Plan → List (List Cell) → ℕ
met_bytes plan rows = sum_by (rounded_size Power) (buffer_lengths (kinds_of plan.columns) (meeting plan.tests rows))

pub asked-sum : (plan : Plan) (rows : List (List Cell)) → sum (map (λ request. request.amount) (rows_requests plan rows))
    ≡ scan_bytes plan rows + (met_bytes plan rows + sum (group_sizes plan rows plan.output))
asked-sum plan rows =
    let scan = requests_at scan_id (buffer_sizes (kinds_of plan.columns) rows) in
    let met = requests_at filter_id (buffer_sizes (kinds_of plan.columns) (meeting plan.tests rows)) in
    let groups = requests_at sums_id (group_sizes plan rows plan.output) in
    let amounts : map (λ request. request.amount) (rows_requests plan rows)
    ≡ buffer_sizes (kinds_of plan.columns) rows
    ++ (buffer_sizes (kinds_of plan.columns) (meeting plan.tests rows) ++ group_sizes plan rows plan.output) =
    map-append (λ (request : Charge). request.amount) scan (met ++ groups)
    ∙ ap (λ ns. map (λ request. request.amount) scan ++ ns) (map-append (λ (request : Charge). request.amount) met groups)
    ∙ ap (λ ns. ns ++ (map (λ request. request.amount) met ++ map (λ request. request.amount) groups))
    (asked-are scan_id (buffer_sizes (kinds_of plan.columns) rows))
    ∙ ap (λ ns. buffer_sizes (kinds_of plan.columns) rows ++ (ns ++ map (λ request. request.amount) groups))
    (asked-are filter_id (buffer_sizes (kinds_of plan.columns) (meeting plan.tests rows)))
    ∙ ap (λ ns. buffer_sizes (kinds_of plan.columns) rows ++ (buffer_sizes (kinds_of plan.columns) (meeting plan.tests rows) ++ ns))
    (asked-are sums_id (group_sizes plan rows plan.output)) in
    let all = ap sum amounts in
    let outer = sum_by-append (λ (n : ℕ). n) (buffer_sizes (kinds_of plan.columns) rows)
    (buffer_sizes (kinds_of plan.columns) (meeting plan.tests rows) ++ group_sizes plan rows plan.output) in
    let inner = sum_by-append (λ (n : ℕ). n) (buffer_sizes (kinds_of plan.columns) (meeting plan.tests rows))
    (group_sizes plan rows plan.output) in
    let one = sizes-summed (buffer_lengths (kinds_of plan.columns) rows) in
    let two = sizes-summed (buffer_lengths (kinds_of plan.columns) (meeting plan.tests rows)) in
    omega (arith, all, outer, inner, one, two)

-- how many buffers the rows have, and the groups
pub rows-count : (plan : Plan) (rows : List (List Cell)) → length (buffer_lengths (kinds_of plan.columns) rows) ≡ 2 * width plan
rows-count plan rows =
    let many = buffers-count (kinds_of plan.columns) rows in
    let long = length-map plan.columns (λ column. column.kind) in
    omega (arith, many, long)

module _ {Token Hold : Type 0} (memory : MemoryModel Token Hold) (plan : Plan) (rows : List (List Cell)) where
  -- the rows were scanned
  pub record HasScanned (old new : Token) (holds : List Ref) : Type 0 where
    pub calls : List MemoryCall
    pub made : MakesCalls memory calls old new
    pub stored : IsStored scan_id (buffer_lengths (kinds_of plan.columns) rows) holds calls

  -- and those that meet the tests were stored in their place
  pub record HasMet (old new : Token) (holds : List Ref) : Type 0 where
    pub middle : Token
    pub scanned : List Ref
    pub scan : HasScanned old middle scanned
    pub stored : List MemoryCall
    pub returned : List MemoryCall
    pub made : MakesCalls memory (stored ++ returned) middle new
    pub storing : IsStored filter_id (buffer_lengths (kinds_of plan.columns) (meeting plan.tests rows)) holds stored
    pub given_back : GivesBack scanned returned

  module _ (old : Token) (can : CanRun (memory.view old) plan rows) where
    pub can-scan : CanPay (memory.view old) scan_id (buffer_lengths (kinds_of plan.columns) rows)
    can-scan =
        let all = asked-sum plan rows in
        let bytes = can.bytes in
        let turns = can.turns in
        let count = rows-count plan rows in
        can_pay (memory.view old) scan_id (buffer_lengths (kinds_of plan.columns) rows) (can.named 0 scan_id (omega arith))
        (omega (arith, all, bytes)) (omega (arith, turns, count))

    -- calls for buffers leave pins and names
    pub still-pinned : (calls : List MemoryCall) (new : Token) → All IsBufferCall calls → MakesCalls memory calls old new
        → (place : ℕ) → place < 4 → 1 ≤ (memory.view new).pins (slice_index_or operator_ids place scan_id).0
    still-pinned calls new are made place within =
        subst (λ (pins : ℕ → ℕ). 1 ≤ pins (slice_index_or operator_ids place scan_id).0) (sym (kept-pins memory calls old new are made))
        (can.pinned place scan_id within)

    pub can-filter : (middle : Token) (holds : List Ref) → HasScanned old middle holds
        → CanPay (memory.view middle) filter_id (buffer_lengths (kinds_of plan.columns) (meeting plan.tests rows))
    can-filter middle holds scan =
        let all = asked-sum plan rows in
        let bytes = can.bytes in
        let turns = can.turns in
        let count = rows-count plan rows in
        let few = rows-count plan (meeting plan.tests rows) in
        let paid = spent-bytes memory scan_id scan.calls old middle (can.named 0 scan_id (omega arith)) scan.stored.place scan.made in
        let spent = spent-turns memory scan.calls old middle scan.made in
        let one = scan.stored.bytes in
        let two = scan.stored.turns in
        can_pay (memory.view middle) filter_id (buffer_lengths (kinds_of plan.columns) (meeting plan.tests rows))
        (kept-names memory scan.calls old middle filter_id (can.named 1 scan_id (omega arith)) scan.made)
        (omega (arith, all, bytes, paid, one)) (omega (arith, turns, count, few, spent, two))

    -- what is left behind the filter
    left-turns : (new : Token) (holds : List Ref) → HasMet old new holds → (memory.view old).turns ≤ (memory.view new).turns + 4 * width plan
    left-turns new holds met =
        let part = returned-part met.scanned met.returned met.given_back in
        let first = spent-turns memory met.scan.calls old met.middle met.scan.made in
        let second = spent-turns memory (met.stored ++ met.returned) met.middle new met.made in
        let both = turns-append met.stored met.returned in
        let one = met.scan.stored.turns in
        let two = met.storing.turns in
        let three = part.turns in
        let count = rows-count plan rows in
        let few = rows-count plan (meeting plan.tests rows) in
        omega (arith, first, second, both, one, two, three, count, few)

    left-bytes : (new : Token) (holds : List Ref) → HasMet old new holds
        → (memory.view old).bytes ≤ (memory.view new).bytes + (scan_bytes plan rows + met_bytes plan rows)
    left-bytes new holds met =
        let part = returned-part met.scanned met.returned met.given_back in
        let first = spent-bytes memory scan_id met.scan.calls old met.middle (can.named 0 scan_id (omega arith)) met.scan.stored.place
        met.scan.made in
        let named = kept-names memory met.scan.calls old met.middle filter_id (can.named 1 scan_id (omega arith)) met.scan.made in
        let second = spent-bytes memory filter_id (met.stored ++ met.returned) met.middle new named
        (All-append (AsksAt filter_id) met.stored met.returned met.storing.place (part.place filter_id)) met.made in
        let both = sum_by-append asked_bytes met.stored met.returned in
        let one = met.scan.stored.bytes in
        let two = met.storing.bytes in
        let three = part.bytes in
        omega (arith, first, second, both, one, two, three)

    still-named : (new : Token) (holds : List Ref) → HasMet old new holds → (place : ℕ) → place < 4
        → CanName (memory.view new) (slice_index_or operator_ids place scan_id)
    still-named new holds met place within =
        kept-names memory (met.stored ++ met.returned) met.middle new (slice_index_or operator_ids place scan_id)
        (kept-names memory met.scan.calls old met.middle (slice_index_or operator_ids place scan_id) (can.named place scan_id within)
        met.scan.made)
        met.made

    pub can-group : (new : Token) (holds : List Ref) (key : ℕ) (sums : List ℕ) → plan.output ≡ Group key sums → HasMet old new holds
        → CanPay (memory.view new) sums_id (buffer_lengths (answer_kinds plan) (answer_of plan rows))
    can-group new holds key sums output met =
        let all = asked-sum plan rows in
        let bytes = can.bytes in
        let turns = can.turns in
        let left = left-turns new holds met in
        let paid = left-bytes new holds met in
        let many = buffers-count (answer_kinds plan) (answer_of plan rows) in
        let groups : sum (group_sizes plan rows plan.output)
        ≡ sum_by (rounded_size Power) (buffer_lengths (answer_kinds plan) (answer_of plan rows)) =
        ap (λ o. sum (group_sizes plan rows o)) output ∙ sizes-summed (buffer_lengths (answer_kinds plan) (answer_of plan rows)) in
        can_pay (memory.view new) sums_id (buffer_lengths (answer_kinds plan) (answer_of plan rows))
        (still-named new holds met 3 (omega arith))
        (omega (arith, all, bytes, paid, groups)) (omega (arith, turns, left, many))

    pub can-project : (new : Token) (holds moved : List Ref) → HasMet old new holds → length moved ≤ 2 * answer_width plan
        → CanShare (memory.view new) project_id moved
    can-project new holds moved met few =
        let turns = can.turns in
        let left = left-turns new holds met in
        can_share (memory.view new) project_id moved (still-named new holds met 2 (omega arith)) (omega (arith, turns, left, few))
