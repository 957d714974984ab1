-- A column of rows as slices.
use Rattle.std.specs.Prelude.{◌≡◌, ◌<◌, ℕ, List, length, map, Some, slice_get}
use Rattle.csv.specs.Records.{Rising, cut_from}
use Rattle.query_model.specs.Cells.{column_of}
use Rattle.query_model.specs.declared.cell.Cell.{Cell}
use Rattle.query_model.specs.declared.cell.Cell.TheVariants.{Int, Sum, Text}
use Rattle.query_model.specs.declared.kind.Kind.{Kind}
use Rattle.query_model.specs.declared.kind.Kind.TheVariants as kind
use Rattle.row_text.specs.declared.column_slice.ColumnSlice.{ColumnSlice}
use Rattle.row_text.specs.declared.column_slice.ColumnSlice.TheVariants.{Ints, Sums, Texts}
use Rattle.row_text.specs.Rows.{Table}
use Rattle.row_text.specs.Stored.{numbers}

-- the kind of a column
abbrev pub kind_of : ColumnSlice → Kind
kind_of (Ints values known) = kind.Int
kind_of (Sums values known) = kind.Sum
kind_of (Texts start ends bytes) = kind.Text

-- the cells of a column
abbrev pub cells_of_slice : ColumnSlice → List Cell
cells_of_slice (Ints values known) = numbers Int values.now known.now
cells_of_slice (Sums values known) = numbers Sum values.now known.now
cells_of_slice (Texts start ends bytes) = map Text (cut_from start ends.now bytes.now)

-- the slices of a column fit: a mark for each number, and texts that end in order, within their bytes
abbrev pub IsSlice : ColumnSlice → Type 0
IsSlice (Ints values known) = length values.now ≡ length known.now
IsSlice (Sums values known) = length values.now ≡ length known.now
IsSlice (Texts start ends bytes) = Rising start ends.now (length bytes.now)

-- slices are the column of this number of a table
pub record IsColumnOf (table : Table) (column : ℕ) (slice : ColumnSlice) : Type 0 where
  pub within : column < length table.kinds
  pub kind : slice_get table.kinds column ≡ Some (kind_of slice)
  pub cells : cells_of_slice slice ≡ column_of column table.rows
  pub slices : IsSlice slice
