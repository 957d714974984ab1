-- What a batch asks for is within its ceiling.
use Rattle.std.specs.Prelude.{◌≡◌, ◌≤◌, ◌+◌, ℕ, zero, suc, List, [], ◌∷◌, ◌++◌, length, map, flat_map, get_or, sum, sum_by, refl}
use Rattle.std.specs.List.{list_all}
use Rattle.std.specs.Cmp.Lexicographic.{slice_cmp}
use Rattle.std.specs.Ordering.{match_ordering, nat_cmp}
use Rattle.std.specs.declared.cmp.Ordering.{Ordering}
use Rattle.std.specs.declared.cmp.Ordering.TheVariants.{Less, Equal, Greater}
use Rattle.std.proofs.Common.{ℤ, arith, sym, ap, subst, ◌∙◌}
use Rattle.std.proofs.lemmas.List.{length-map, map-append}
use Rattle.std.proofs.lemmas.List.Sums.{sum_by-append, sum_by-cons}
use Rattle.mem_num.specs.declared.alloc_id.AllocId.{AllocId}
use Rattle.mem_model.specs.declared.charge.Charge.{Charge}
use Rattle.query_model.specs.declared.cell.Cell.{Cell}
use Rattle.query_model.specs.declared.cell.Cell.TheVariants.{Null, Text}
use Rattle.query_model.specs.declared.output.Output.{Output}
use Rattle.query_model.specs.declared.output.Output.TheVariants.{Select, Group}
use Rattle.query_model.specs.declared.plan.Plan.{Plan}
use Rattle.query_model.specs.declared.test.Test.{Test}
use Rattle.query_model.specs.Answer.{with_key, distinct, key_of, rows_with_key, numbers_at, sum_cell, sum_of, group_of, groups_of}
use Rattle.query_model.specs.Answer.{output_of}
use Rattle.query_model.specs.Buffers.{text_length, texts_length, buffer_sizes}
use Rattle.query_model.specs.Cells.{cell_at, column_of}
use Rattle.query_model.specs.Filter.{meets, meeting}
use Rattle.query_model.specs.Requests.{scan_id, filter_id, sums_id, result_id, kinds_of, answer_kinds, batch_rows, requests_at, group_sizes}
use Rattle.query_model.specs.Requests.{buffer_requests, sizes_apart, rows_requests, byte_ceiling}
use Rattle.query_model.proofs.KeyLemmas.{Key}
use Rattle.query_model.proofs.WithinLemmas.{AreLess, charges-within, met-less, met-charges, sum_by-map, sum_by-passing}

-- what keys come to, by a number for each
module _ (f : Key → ℕ) where
  -- whatever the order of a key and the first one is
  put-first : (key first : Key) (rest put : List Key) (order : Ordering) → sum_by f put ≤ f key + sum_by f rest
      → sum_by f (match_ordering order (key ∷ first ∷ rest) (first ∷ rest) (first ∷ put)) ≤ f key + sum_by f (first ∷ rest)
  put-first key first rest put Less h = let a = sum_by-cons f key (first ∷ rest) in omega (arith, a)
  put-first key first rest put Equal h = omega arith
  put-first key first rest put Greater h =
      let a = sum_by-cons f first put in let b = sum_by-cons f first rest in omega (arith, a, b, h)

  -- a key that is put adds no more than its own
  sum_by-put : (key : Key) (keys : List Key) → sum_by f (with_key key keys) ≤ f key + sum_by f keys
  sum_by-put key [] = let a = sum_by-cons f key [] in omega (arith, a)
  sum_by-put key (first ∷ rest) = put-first key first rest (with_key key rest) (slice_cmp nat_cmp key first) (sum_by-put key rest)

  -- so keys in order come to no more than all of them
  sum_by-distinct : (keys : List Key) → sum_by f (distinct keys) ≤ sum_by f keys
  sum_by-distinct [] = omega arith
  sum_by-distinct (key ∷ keys) =
      let a = sum_by-put key (distinct keys) in let b = sum_by-cons f key keys in let c = sum_by-distinct keys in omega (arith, a, b, c)

-- a list is as long as it has ones
sum_by-one : {X : Type 0} (xs : List X) → sum_by (λ x. 1) xs ≡ length xs
sum_by-one [] = refl
sum_by-one (x ∷ xs) = let a = sum_by-cons (λ (y : _). 1) x xs in let b = sum_by-one xs in omega (arith, a, b)

-- keys in order are no more than all of them
pub length-distinct : (keys : List Key) → length (distinct keys) ≤ length keys
length-distinct keys =
    let a = sum_by-one (distinct keys) in let b = sum_by-one keys in let c = sum_by-distinct (λ key. 1) keys in omega (arith, a, b, c)

-- a sum has no text
cell-no_text : (numbers : List ℤ) → text_length (sum_cell numbers) ≡ 0
cell-no_text [] = refl
cell-no_text (n ∷ numbers) = refl

-- nor has the sum of a column
sum-no_text : (rows : List (List Cell)) (column : ℕ) → text_length (sum_of rows column) ≡ 0
sum-no_text rows column = cell-no_text (numbers_at column rows)

-- nor has any of several
sums-no_text : (rows : List (List Cell)) (sums : List ℕ) (place : ℕ) →
    text_length (get_or (map (sum_of rows) sums) place Null) ≡ 0
sums-no_text rows [] place = refl
sums-no_text rows (sum ∷ sums) zero = sum-no_text rows sum
sums-no_text rows (sum ∷ sums) (suc place) = sums-no_text rows sums place

-- the groups of a plan
module _ (key : ℕ) (sums : List ℕ) where
  -- groups, one for each row
  abbrev apart : List (List Cell) → List (List Cell)
  apart rows = flat_map (λ row. groups_of key sums (row ∷ [])) rows

  -- they are as many as the rows
  length-apart : (rows : List (List Cell)) → length (apart rows) ≡ length rows
  length-apart [] = refl
  length-apart (row ∷ rows) = ap (λ n. suc n) (length-apart rows)

  -- their keys have as much text as the rows' keys
  pub keys-apart : (rows : List (List Cell)) → texts_length (column_of 0 (apart rows)) ≡ sum_by (λ row. length (key_of key row)) rows
  keys-apart [] = refl
  keys-apart (row ∷ rows) =
      let a = sum_by-cons text_length (Text (key_of key row)) (column_of 0 (apart rows)) in
      let b = sum_by-cons (λ r. length (key_of key r)) row rows in
      let c = keys-apart rows in
      omega (arith, a, b, c)

  -- the other columns of groups have none
  no_text : (rows : List (List Cell)) (place : ℕ) (keys : List Key) →
      texts_length (column_of (suc place) (map (group_of key sums rows) keys)) ≡ 0
  no_text rows place [] = refl
  no_text rows place (k ∷ keys) =
      let others = column_of (suc place) (map (group_of key sums rows) keys) in
      let a = sum_by-cons text_length (cell_at (suc place) (group_of key sums rows k)) others in
      let b = sums-no_text (rows_with_key key k rows) sums place in
      let c = no_text rows place keys in
      omega (arith, a, b, c)

  -- the groups of some rows have no more text than all rows apart
  pub groups-texts : (rows many : List (List Cell)) → ((f : List Cell → ℕ) → sum_by f rows ≤ sum_by f many)
      → (column : ℕ) → texts_length (column_of column (groups_of key sums rows)) ≤ texts_length (column_of column (apart many))
  groups-texts rows many less zero =
      let keys = map (key_of key) rows in
      let groups = map (group_of key sums rows) (distinct keys) in
      let a = sum_by-map text_length (cell_at 0) groups in
      let b = sum_by-map (λ row. text_length (cell_at 0 row)) (group_of key sums rows) (distinct keys) in
      let c = sum_by-distinct (λ k. length k) keys in
      let d = sum_by-map (λ k. length k) (key_of key) rows in
      let e = less (λ row. length (key_of key row)) in
      let f = keys-apart many in
      omega (arith, a, b, c, d, e, f)
  groups-texts rows many less (suc place) = let a = no_text rows place (distinct (map (key_of key) rows)) in omega (arith, a)

  -- the groups of the rows that meet tests are less than groups of all rows apart
  groups-less : (tests : List Test) (rows : List (List Cell)) → AreLess (groups_of key sums (meeting tests rows)) (apart rows)
  groups-less tests rows = record {
    count =
        let met = meeting tests rows in
        let keys = map (key_of key) met in
        let a = length-map (distinct keys) (group_of key sums met) in
        let b = length-distinct keys in
        let c = length-map met (key_of key) in
        let d : length met ≤ length rows = (met-less tests rows).count in
        let e = length-apart rows in
        omega (arith, a, b, c, d, e);
    texts = groups-texts (meeting tests rows) rows (λ f. sum_by-passing f (λ row. list_all (meets row) tests) rows);
  }

-- what groups ask for is within what groups apart would
groups-within : (plan : Plan) (rows : List (List Cell)) (output : Output) → plan.output ≡ output
    → sum (group_sizes plan rows output) ≤ sum (sizes_apart plan rows output)
groups-within plan rows (Select picks) is = omega arith
groups-within plan rows (Group key sums) is =
    subst (λ output. sum (buffer_sizes (answer_kinds plan) (output_of output (meeting plan.tests rows)))
    ≤ sum (sizes_apart plan rows (Group key sums))) (sym is)
    (charges-within (answer_kinds plan) _ _ (groups-less key sums plan.tests rows))

-- requests at one allocator ask for their sizes
pub sum-requests : (at : AllocId) (sizes : List ℕ) → map (λ request. request.amount) (requests_at at sizes) ≡ sizes
sum-requests at [] = refl
sum-requests at (size ∷ sizes) = ap (λ rest. size ∷ rest) (sum-requests at sizes)

-- what requests ask for
abbrev pub amounts : List Charge → List ℕ
amounts requests = map (λ request. request.amount) requests

-- what requests ask for, some and more
pub sum-amounts : (requests more : List Charge) → sum (amounts (requests ++ more)) ≡ sum (amounts requests) + sum (amounts more)
sum-amounts requests more = ap sum (map-append (λ request. request.amount) requests more)
    ∙ sum_by-append (λ size. size) (amounts requests) (amounts more)

-- what the rows of a batch ask for: the scan, the filter and the groups
pub sum-rows : (plan : Plan) (rows : List (List Cell)) → sum (amounts (rows_requests plan rows))
    ≡ sum (buffer_sizes (kinds_of plan.columns) rows)
    + (sum (buffer_sizes (kinds_of plan.columns) (meeting plan.tests rows)) + sum (group_sizes plan rows plan.output))
sum-rows plan rows =
    let scan = buffer_sizes (kinds_of plan.columns) rows in
    let filtered = buffer_sizes (kinds_of plan.columns) (meeting plan.tests rows) in
    let groups = group_sizes plan rows plan.output in
    sum-amounts (requests_at scan_id scan) (requests_at filter_id filtered ++ requests_at sums_id groups)
    ∙ (λ k. sum (sum-requests scan_id scan k) + sum-amounts (requests_at filter_id filtered) (requests_at sums_id groups) k)
    ∙ (λ k. sum scan + (sum (sum-requests filter_id filtered k) + sum (sum-requests sums_id groups k)))

-- what a batch asks for is within its ceiling
pub needs-within : (plan : Plan) (rows : List (List Cell)) (batch : ℕ) →
    sum (map (λ request. request.amount) (buffer_requests plan rows batch)) ≤ byte_ceiling plan rows batch
needs-within plan rows zero =
    let a : sum (amounts (requests_at result_id (group_sizes plan rows plan.output))) ≡ sum (group_sizes plan rows plan.output) =
    ap sum (sum-requests result_id (group_sizes plan rows plan.output)) in
    let b = groups-within plan rows plan.output refl in
    omega (arith, a, b)
needs-within plan rows (suc batch) =
    let part = batch_rows plan rows (suc batch) in
    let a = sum-rows plan part in
    let b = met-charges (kinds_of plan.columns) plan.tests part in
    let c = groups-within plan part plan.output refl in
    omega (arith, a, b, c)
