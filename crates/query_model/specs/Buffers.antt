-- Columns in buffers, after the Arrow columnar format: how long each buffer is, and what it is charged.
use Rattle.std.specs.Prelude.{ℕ, ◌+◌, ◌*◌, ◌/◌, nat_lt, List, [], ◌∷◌, ◌++◌, map, filter, length, sum_by}
use Rattle.mem_num.specs.Rounded.{rounded_size}
use Rattle.mem_num.specs.declared.rounding.Rounding.TheVariants.{Power}
use Rattle.query_model.specs.declared.cell.Cell.{Cell}
use Rattle.query_model.specs.declared.cell.Cell.TheVariants.{Null, Int, Sum, Text}
use Rattle.query_model.specs.declared.kind.Kind.{Kind}
use Rattle.query_model.specs.declared.kind.Kind.TheVariants as kind
use Rattle.query_model.specs.Cells.{column_of}

-- a bit for each cell, in whole bytes
abbrev pub validity_length : ℕ → ℕ
validity_length count = (count + 7) / 8

-- how many bytes of text a cell has
abbrev pub text_length : Cell → ℕ
text_length Null = 0
text_length (Int n) = 0
text_length (Sum n) = 0
text_length (Text bytes) = length bytes

-- how many bytes of text cells have together
abbrev pub texts_length : List Cell → ℕ
texts_length cells = sum_by text_length cells

-- the lengths of the two buffers of a column, in bytes: validity and data, or offsets and texts
abbrev pub column_lengths : Kind → List Cell → List ℕ
column_lengths kind.Int cells = validity_length (length cells) ∷ 8 * length cells ∷ []
column_lengths kind.Sum cells = validity_length (length cells) ∷ 16 * length cells ∷ []
column_lengths kind.Text cells = 4 * (length cells + 1) ∷ texts_length cells ∷ []

-- the lengths of the buffers of the columns from this number on
abbrev pub lengths_from : ℕ → List Kind → List (List Cell) → List ℕ
lengths_from column [] rows = []
lengths_from column (kind ∷ kinds) rows = column_lengths kind (column_of column rows) ++ lengths_from (column + 1) kinds rows

-- the lengths of the buffers of rows, column by column
abbrev pub buffer_lengths : List Kind → List (List Cell) → List ℕ
buffer_lengths kinds rows = lengths_from 0 kinds rows

-- what buffers are charged: each that isn't empty, rounded
abbrev pub sizes_of : List ℕ → List ℕ
sizes_of lengths = map (rounded_size Power) (filter (nat_lt 0) lengths)

-- what the buffers of rows are charged, column by column
abbrev pub buffer_sizes : List Kind → List (List Cell) → List ℕ
buffer_sizes kinds rows = sizes_of (buffer_lengths kinds rows)
