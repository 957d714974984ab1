-- What a query answers: no word of batches, threads or buffers.
use Rattle.std.specs.Prelude.{ℕ, ℤ, ◌+ℤ◌, List, [], ◌∷◌, map, filter, fold, Option, Some, None, nat_eq, length}
use Rattle.std.specs.Cmp.Lexicographic.{slice_cmp, pointwise}
use Rattle.std.specs.List.{filter_map, range_with_len}
use Rattle.std.specs.Ordering.{match_ordering, nat_cmp}
use Rattle.query_model.specs.declared.cell.Cell.{Cell}
use Rattle.query_model.specs.declared.cell.Cell.TheVariants.{Null, Int, Sum, Text}
use Rattle.query_model.specs.declared.output.Output.{Output}
use Rattle.query_model.specs.declared.output.Output.TheVariants.{Select, Group}
use Rattle.query_model.specs.declared.plan.Plan.{Plan}
use Rattle.query_model.specs.Cells.{cell_at, column_of, printed}
use Rattle.query_model.specs.Filter.{meeting}

-- the picked cells of a row
abbrev pub picked : List ℕ → List Cell → List Cell
picked picks row = map (λ column. cell_at column row) picks

-- keys in order of their bytes, with one more, unless it is there
abbrev pub with_key : List ℕ → List (List ℕ) → List (List ℕ)
with_key key [] = key ∷ []
with_key key (first ∷ rest) =
    match_ordering (slice_cmp nat_cmp key first) (key ∷ first ∷ rest) (first ∷ rest) (first ∷ with_key key rest)

-- each key once, in order of its bytes
abbrev pub distinct : List (List ℕ) → List (List ℕ)
distinct [] = []
distinct (key ∷ keys) = with_key key (distinct keys)

-- the key of a row, as it is printed
abbrev pub key_of : ℕ → List Cell → List ℕ
key_of column row = printed (cell_at column row)

-- the rows of a key
abbrev pub rows_with_key : ℕ → List ℕ → List (List Cell) → List (List Cell)
rows_with_key column key rows = filter (λ row. pointwise nat_eq key (key_of column row)) rows

-- the number of a cell, if it has one
abbrev pub number_of : Cell → Option ℤ
number_of Null = None
number_of (Int n) = Some n
number_of (Sum n) = Some n
number_of (Text bytes) = None

-- the sum of numbers, null where there is none
abbrev pub sum_cell : List ℤ → Cell
sum_cell [] = Null
sum_cell (n ∷ numbers) = Sum (fold (λ a b. a +ℤ b) n numbers)

-- the numbers of a column that aren't null
abbrev pub numbers_at : ℕ → List (List Cell) → List ℤ
numbers_at column rows = filter_map number_of (column_of column rows)

-- the sum of a column's cells that aren't null
abbrev pub sum_of : List (List Cell) → ℕ → Cell
sum_of rows column = sum_cell (numbers_at column rows)

-- the row of a key: the key, and its rows' sums
abbrev pub group_of : ℕ → List ℕ → List (List Cell) → List ℕ → List Cell
group_of column sums rows key = Text key ∷ map (sum_of (rows_with_key column key rows)) sums

-- a row for each key
abbrev pub groups_of : ℕ → List ℕ → List (List Cell) → List (List Cell)
groups_of column sums rows = map (group_of column sums rows) (distinct (map (key_of column) rows))

-- rows that met the tests, as they are answered
abbrev pub output_of : Output → List (List Cell) → List (List Cell)
output_of (Select picks) rows = map (picked picks) rows
output_of (Group key sums) rows = groups_of key sums rows

-- the rows that a query answers
abbrev pub answer_of : Plan → List (List Cell) → List (List Cell)
answer_of plan rows = output_of plan.output (meeting plan.tests rows)

-- the answers of parts, one after the other, as the answer of the whole: groups are grouped again, by their first column
abbrev pub merged : Output → List (List Cell) → List (List Cell)
merged (Select picks) answers = answers
merged (Group key sums) answers = groups_of 0 (range_with_len 1 (length sums)) answers
