-- References at the places of a batch.
use Rattle.std.proofs.Common.{◌≡◌, ◌+◌, ◌*◌, ◌<◌, ◌≤◌, ℕ, zero, suc, List, [], ◌∷◌, ◌++◌, All, length, map, take, refl, sym, ◌∙◌, ap, subst, append_assoc, arith}
use Rattle.std.proofs.Math.Seq.{get_or-append_seam, take-append-add}
use Rattle.std.proofs.lemmas.List.{length-append, map-append, take-append-le, take_all}
use Rattle.std.proofs.lemmas.List.Elements.{All-append, All-cons, All-filter, All-head, All-nil, All-tail}
use Rattle.std.specs.Prelude.{flat_map, not, ◌==◌}
use Rattle.std.specs.List.{list_any, range_with_len}
use Rattle.mem_num.specs.declared.alloc_id.AllocId.{AllocId}
use Rattle.mem_num.specs.declared.buffer_ref.Ref.{Ref}
use Rattle.mem_model.specs.PlannedCalls.{PlannedCall, no_reference}
use Rattle.mem_buf.specs.MemoryCall.{MemoryCall}
use Rattle.mem_buf.specs.Moving.{Move, move_calls}
use Rattle.query_model.specs.SequentialCalls.{column_places, unpicked}
use Rattle.alloc_tree.specs.SoloPlanned.{ArePlanned, given_at, reference_by}
use Rattle.batch_vec.specs.Moving.{of_columns, two_of}
use Rattle.pipeline.proofs.PlannedLemmas.{StandsIn, given_by, neighbours, planned-append}

-- as many calls were made as were planned
pub planned-length : (given : List Ref) (plans : List PlannedCall) (calls : List MemoryCall) → ArePlanned given plans calls
    → length calls ≡ length plans
planned-length given [] [] planned = refl
planned-length given [] (call ∷ calls) impossible = absurd impossible
planned-length given (one ∷ plans) [] impossible = absurd impossible
planned-length given (one ∷ plans) (call ∷ calls) planned = ap suc (planned-length (given ++ (reference_by call ∷ [])) plans calls planned.1)

-- neighbouring places stand before as many references as are given
pub range-stands : (given : List Ref) (first count : ℕ) → first + count ≤ length given
    → All (StandsIn given) (range_with_len first count)
range-stands given first zero within = All-nil (StandsIn given)
range-stands given first (suc count) within =
    All-cons (StandsIn given) first (range_with_len (first + 1) count) (omega (arith, within))
    (range-stands given (first + 1) count (omega (arith, within)))

-- all references of a list, among more
pub whole : (before xs after : List Ref) (first count : ℕ) → length before ≡ first → length xs ≡ count
    → map (given_at (before ++ (xs ++ after))) (range_with_len first count) ≡ xs
whole before xs after first count starts counts =
    neighbours before xs after first 0 count (omega (arith, starts)) (omega (arith, counts))
    ∙ take_all count xs (omega (arith, counts))

-- the references of columns, among more
pub columns-there : (before xs after : List Ref) (first width : ℕ) (columns : List ℕ) → length before ≡ first → length xs ≡ 2 * width
    → All (λ column. column < width) columns
    → map (given_at (before ++ (xs ++ after))) (column_places first columns) ≡ of_columns xs columns
columns-there before xs after first width [] starts counts within = refl
columns-there before xs after first width (column ∷ columns) starts counts within =
    let is = All-head (λ column. column < width) column columns within in
    map-append (given_at (before ++ (xs ++ after))) (range_with_len (first + 2 * column) 2) (column_places first columns)
    ∙ ap (λ rs. rs ++ map (given_at (before ++ (xs ++ after))) (column_places first columns))
    (neighbours before xs after (first + 2 * column) (2 * column) 2 (omega (arith, starts)) (omega (arith, counts, is)))
    ∙ ap (λ rs. two_of xs column ++ rs)
    (columns-there before xs after first width columns starts counts (All-tail (λ column. column < width) column columns within))

pub columns-stand : (given : List Ref) (first width : ℕ) (columns : List ℕ) → first + 2 * width ≤ length given
    → All (λ column. column < width) columns → All (StandsIn given) (column_places first columns)
columns-stand given first width [] long within = All-nil (StandsIn given)
columns-stand given first width (column ∷ columns) long within =
    let is = All-head (λ column. column < width) column columns within in
    All-append (StandsIn given) (range_with_len (first + 2 * column) 2) (column_places first columns)
    (range-stands given (first + 2 * column) 2 (omega (arith, long, is)))
    (columns-stand given first width columns long (All-tail (λ column. column < width) column columns within))

-- the columns that aren't picked are columns
pub unpicked-within : (width : ℕ) (picks : List ℕ) → All (λ column. column < width) (unpicked width picks)
unpicked-within width picks = All-filter (λ column. not (list_any (λ pick. pick == column) picks)) (λ column. column < width)
    (range_with_len 0 width) (below 0 width width (omega arith))
  where
    below : (first count width : ℕ) → first + count ≤ width → All (λ column. column < width) (range_with_len first count)
    below first zero width within = All-nil (λ column. column < width)
    below first (suc count) width within =
        All-cons (λ column. column < width) first (range_with_len (first + 1) count) (omega (arith, within))
        (below (first + 1) count width (omega (arith, within)))

-- references that moved stand at every other place
pub moved-there : (before : List Ref) (target : AllocId) (moves : List Move) (after : List Ref) (first from count : ℕ)
    → length before ≡ first + 2 * from → length moves ≡ count
    → map (given_at (before ++ (given_by (flat_map (move_calls target) moves) ++ after)))
    (map (λ i. first + 2 * i) (range_with_len from count)) ≡ map (λ move. move.to) moves
moved-there before target [] after first from zero starts counts = refl
moved-there before target [] after first from (suc count) starts counts = absurd (omega (arith, counts))
moved-there before target (move ∷ moves) after first from zero starts counts = absurd (omega (arith, counts))
moved-there before target (move ∷ moves) after first from (suc count) starts counts =
    let later = given_by (flat_map (move_calls target) moves) ++ after in
    let all = before ++ (move.to ∷ no_reference ∷ later) in
    let here : given_at all (first + 2 * from) ≡ move.to =
    ap (given_at all) (sym starts) ∙ get_or-append_seam before move.to (no_reference ∷ later) no_reference in
    let moved_on : all ≡ (before ++ (move.to ∷ no_reference ∷ [])) ++ later =
    sym (append_assoc before (move.to ∷ no_reference ∷ []) later) in
    let longer : length (before ++ (move.to ∷ no_reference ∷ [])) ≡ length before + 2 =
    length-append before (move.to ∷ no_reference ∷ []) in
    let rest = moved-there (before ++ (move.to ∷ no_reference ∷ [])) target moves after first (from + 1) count
    (omega (arith, starts, longer)) (omega (arith, counts)) in
    ap (λ r. r ∷ map (given_at all) (map (λ i. first + 2 * i) (range_with_len (from + 1) count))) here
    ∙ ap (λ rs. move.to ∷ rs)
    (ap (λ rs. map (given_at rs) (map (λ i. first + 2 * i) (range_with_len (from + 1) count))) moved_on ∙ rest)

-- a call that was planned behind others, among those that are planned for later
pub refused-behind : (given : List Ref) (before plans rest : List PlannedCall) (calls asked : List MemoryCall) (refused : MemoryCall)
    → ArePlanned given before calls
    → ArePlanned (given ++ given_by calls) (take (suc (length asked)) plans) (asked ++ (refused ∷ []))
    → suc (length asked) ≤ length plans
    → ArePlanned given (take (suc (length (calls ++ asked))) (before ++ (plans ++ rest))) ((calls ++ asked) ++ (refused ∷ []))
refused-behind given before plans rest calls asked refused done one within =
    let many = planned-length given before calls done in
    let long = length-append calls asked in
    let count : suc (length (calls ++ asked)) ≡ length before + suc (length asked) = omega (arith, many, long) in
    let split : take (suc (length (calls ++ asked))) (before ++ (plans ++ rest)) ≡ before ++ take (suc (length asked)) plans =
    ap (λ n. take n (before ++ (plans ++ rest))) count
    ∙ take-append-add before (plans ++ rest) (suc (length asked))
    ∙ ap (λ ps. before ++ ps) (take-append-le (suc (length asked)) plans rest within) in
    subst (λ ps. ArePlanned given ps ((calls ++ asked) ++ (refused ∷ []))) (sym split)
    (subst (ArePlanned given (before ++ take (suc (length asked)) plans)) (sym (append_assoc calls asked (refused ∷ [])))
    (planned-append given before (take (suc (length asked)) plans) calls (asked ++ (refused ∷ [])) done one))
