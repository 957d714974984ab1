-- Sums, as numbers are added to them.
use Rattle.std.specs.Prelude.{ℕ, ◌-◌, ℤ, ◌+ℤ◌, List, [], ◌∷◌, ◌++◌, get_or, length, slice_set, ⊤}
use Rattle.std.proofs.Math.ListN.{replicate}
use Rattle.std.specs.Option.{option_map_or}
use Rattle.query_model.specs.Answer.{number_of}
use Rattle.query_model.specs.Cells.{IsOfKind, column_of}
use Rattle.query_model.specs.declared.cell.Cell.{Cell}
use Rattle.query_model.specs.declared.cell.Cell.TheVariants.{Null, Sum}
use Rattle.query_model.specs.declared.kind.Kind.TheVariants as kind

-- a sum with a number more: a null is the sum of none
abbrev pub with_number : Cell → ℤ → Cell
with_number (Sum sum) n = Sum (sum +ℤ n)
with_number other n = Sum n

-- a sum with a cell more, which may be no number
abbrev pub with_cell : Cell → Cell → Cell
with_cell sum cell = option_map_or (with_number sum) (number_of cell) sum

-- sums with a cell more at a place
abbrev pub with_cell_at : List Cell → ℕ → Cell → List Cell
with_cell_at sums place cell = slice_set sums place (with_cell (get_or sums place Null) cell)

-- sums with a cell more at each of some places
unfoldable pub with_cells : List Cell → List ℕ → List Cell → List Cell
with_cells sums [] cells = sums
with_cells sums (place ∷ places) [] = sums
with_cells sums (place ∷ places) (cell ∷ cells) = with_cells (with_cell_at sums place cell) places cells

-- each of these sums is a number of 128 bits
unfoldable pub CanAdd : List Cell → List ℕ → List Cell → Type 0
CanAdd sums [] cells = ⊤
CanAdd sums (place ∷ places) [] = ⊤
CanAdd sums (place ∷ places) (cell ∷ cells) =
    IsOfKind kind.Sum (with_cell (get_or sums place Null) cell) × CanAdd (with_cell_at sums place cell) places cells

-- the sums of some columns, each grown to so many and with its cells of the rows
unfoldable pub all_added : ℕ → List ℕ → List (List Cell) → List ℕ → List (List Cell) → List (List Cell)
all_added count places rows [] sums = []
all_added count places rows (column ∷ columns) [] = []
all_added count places rows (column ∷ columns) (sum ∷ sums) =
    with_cells (sum ++ replicate (count - length sum) Null) places (column_of column rows) ∷ all_added count places rows columns sums

-- there is room for them
unfoldable pub CanAddAll : ℕ → List ℕ → List (List Cell) → List ℕ → List (List Cell) → Type 0
CanAddAll count places rows [] sums = ⊤
CanAddAll count places rows (column ∷ columns) [] = ⊤
CanAddAll count places rows (column ∷ columns) (sum ∷ sums) =
    CanAdd (sum ++ replicate (count - length sum) Null) places (column_of column rows) × CanAddAll count places rows columns sums
