-- Columns and rows as the bytes of their buffers.
use Rattle.std.specs.Prelude.{◌≡◌, ◌≤◌, ◌+◌, ℕ, List, [], ◌∷◌, ◌++◌, length, take, drop, All}
use Rattle.query_model.specs.Buffers.{buffer_lengths, texts_length}
use Rattle.query_model.specs.Bytes.{cells_in, column_bytes}
use Rattle.query_model.specs.Cells.{IsOfKind, column_of}
use Rattle.query_model.specs.declared.bounds.TheConstants.{MOST_TEXT_BYTES}
use Rattle.query_model.specs.declared.cell.Cell.{Cell}
use Rattle.query_model.specs.declared.kind.Kind.{Kind}
use Rattle.row_text.specs.Rows.{AreRows, rows_from}
use Rattle.row_text.specs.Stored.{ColumnCells}

-- two buffers hold a column of so many cells
pub record IsColumn (kind : Kind) (count : ℕ) (first second : List ℕ) (cells : List Cell) : Type 0 where
  pub counted : length cells ≡ count
  pub typed : All (IsOfKind kind) cells
  pub short : texts_length cells ≤ MOST_TEXT_BYTES
  pub bytes : first ∷ second ∷ [] ≡ column_bytes kind cells

-- the bytes of the buffers of the columns from this number on
abbrev pub bytes_from : ℕ → List Kind → List (List Cell) → List (List ℕ)
bytes_from column [] rows = []
bytes_from column (kind ∷ kinds) rows = column_bytes kind (column_of column rows) ++ bytes_from (column + 1) kinds rows

-- the bytes of the buffers of rows, two a column, column by column
abbrev pub buffer_bytes : List Kind → List (List Cell) → List (List ℕ)
buffer_bytes kinds rows = bytes_from 0 kinds rows

-- the cells of columns that buffers hold, two a column
unfoldable pub columns_in : ℕ → List Kind → List (List ℕ) → List (List Cell)
columns_in count [] buffers = []
columns_in count (kind ∷ kinds) buffers = cells_in kind count (take 2 buffers) ∷ columns_in count kinds (drop 2 buffers)

-- the rows that buffers hold
abbrev pub rows_in : ℕ → List Kind → List (List ℕ) → List (List Cell)
rows_in count kinds buffers = rows_from count (columns_in count kinds buffers)

-- buffers hold so many rows, and none of them is longer than a place among texts can tell
pub record IsStored (count : ℕ) (kinds : List Kind) (buffers : List (List ℕ)) (rows : List (List Cell)) : Type 0 where
  pub counted : length rows ≡ count
  pub typed : AreRows kinds rows
  pub short : All (λ length. length ≤ MOST_TEXT_BYTES) (buffer_lengths kinds rows)
  pub bytes : buffers ≡ buffer_bytes kinds rows

-- the columns of rows from this number on, each with its kind
abbrev pub cells_from : ℕ → List Kind → List (List Cell) → List ColumnCells
cells_from column [] rows = []
cells_from column (kind ∷ kinds) rows = record { kind = kind; cells = column_of column rows } ∷ cells_from (column + 1) kinds rows
