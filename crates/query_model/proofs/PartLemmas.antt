-- A part of rows has buffers that are no longer than those of all rows, and rows of the same kinds.
use Rattle.std.specs.Prelude.{◌≤◌, ℕ, List, All, length, take, drop, sum_by}
use Rattle.std.specs.List.{list_all}
use Rattle.std.proofs.Common.{arith}
use Rattle.std.proofs.lemmas.List.{length-drop, length-take}
use Rattle.std.proofs.lemmas.List.Elements.{All-drop, All-filter, All-take}
use Rattle.std.proofs.lemmas.List.Sums.{sum_by-take-drop, sum_by-take-le}
use Rattle.query_model.specs.declared.cell.Cell.{Cell}
use Rattle.query_model.specs.declared.kind.Kind.{Kind}
use Rattle.query_model.specs.declared.test.Test.{Test}
use Rattle.query_model.specs.Buffers.{text_length, buffer_lengths}
use Rattle.query_model.specs.Cells.{IsRow, cell_at}
use Rattle.query_model.specs.Filter.{meets, meeting}
use Rattle.query_model.proofs.WithinLemmas.{AreLess, at_most-bound, lengths-within, sum_by-map}

-- a sum over a part is no greater
sum_by-part : {X : Type 0} (f : X → ℕ) (from len : ℕ) (xs : List X) → sum_by f (take len (drop from xs)) ≤ sum_by f xs
sum_by-part f from len xs =
    let first = sum_by-take-le f (drop from xs) len in
    let rest = sum_by-take-drop f xs from in
    omega (arith, first, rest)

-- a part has no more elements
length-part : {X : Type 0} (from len : ℕ) (xs : List X) → length (take len (drop from xs)) ≤ length xs
length-part from len xs =
    let first = length-take len (drop from xs) in
    let rest = length-drop from xs in
    omega (arith, first, rest)

-- a part of rows
pub part-less : (from len : ℕ) (rows : List (List Cell)) → AreLess (take len (drop from rows)) rows
part-less from len rows = record {
  count = length-part from len rows;
  texts = λ column.
      let few = sum_by-map text_length (cell_at column) (take len (drop from rows)) in
      let many = sum_by-map text_length (cell_at column) rows in
      let less = sum_by-part (λ row. text_length (cell_at column row)) from len rows in
      omega (arith, few, many, less);
}

-- what bounds all buffers bounds those of a part
pub parts-shorter : (kinds : List Kind) (rows : List (List Cell)) (from len most : ℕ)
    → All (λ length. length ≤ most) (buffer_lengths kinds rows)
    → All (λ length. length ≤ most) (buffer_lengths kinds (take len (drop from rows)))
parts-shorter kinds rows from len most all =
    at_most-bound most _ _ (lengths-within 0 kinds (take len (drop from rows)) rows (part-less from len rows)) all

-- a part of rows are rows
pub part-rows : (kinds : List Kind) (rows : List (List Cell)) (from len : ℕ) → All (IsRow kinds) rows
    → All (IsRow kinds) (take len (drop from rows))
part-rows kinds rows from len all = All-take (IsRow kinds) len (drop from rows) (All-drop (IsRow kinds) from rows all)

-- the rows that meet tests are rows
pub meeting-rows : (kinds : List Kind) (tests : List Test) (rows : List (List Cell)) → All (IsRow kinds) rows
    → All (IsRow kinds) (meeting tests rows)
meeting-rows kinds tests rows all = All-filter (λ row. list_all (meets row) tests) (IsRow kinds) rows all
