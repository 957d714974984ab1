-- Rows as they are seen, and columns as rows.
use Rattle.std.specs.Prelude.{◌≡◌, Bool, true, false, Some, None, ◌≤◌, ℕ, List, [], ◌∷◌, ◌++◌, length, take, drop, map, All}
use Rattle.std.proofs.Math.ListN.{replicate}
use Rattle.query_model.specs.Cells.{IsRow}
use Rattle.query_model.specs.declared.cell.Cell.{Cell}
use Rattle.query_model.specs.declared.kind.Kind.{Kind}
use Rattle.row_text.specs.Fields.{cells_of}
use Rattle.row_text.specs.Stored.{ColumnCells, TakesField}

-- rows, with the kinds of their columns
pub record Table : Type 0 where
  pub kinds : List Kind
  pub rows : List (List Cell)

-- each row has a cell of its kind for each column
abbrev pub AreRows : List Kind → List (List Cell) → Type 0
AreRows kinds rows = All (IsRow kinds) rows

-- a column before the cells of rows
unfoldable pub beside : List Cell → List (List Cell) → List (List Cell)
beside [] rows = []
beside (cell ∷ cells) [] = []
beside (cell ∷ cells) (row ∷ rows) = (cell ∷ row) ∷ beside cells rows

-- so many rows, from their columns
unfoldable pub rows_from : ℕ → List (List Cell) → List (List Cell)
rows_from count [] = replicate count []
rows_from count (column ∷ columns) = beside column (rows_from count columns)

-- the cells of columns
abbrev pub cells_in : List ColumnCells → List (List Cell)
cells_in columns = map (λ column. column.cells) columns

abbrev pub kinds_in : List ColumnCells → List Kind
kinds_in columns = map (λ column. column.kind) columns

-- each column has so many cells
abbrev pub AreLong : ℕ → List (List Cell) → Type 0
AreLong count columns = All (λ column. length column ≡ count) columns

-- columns are a table of so many rows
abbrev pub table_of : ℕ → List ColumnCells → Table
table_of count columns = record { kinds = kinds_in columns; rows = rows_from count (cells_in columns) }

-- the columns of a table lie in memory: each has a cell for each row, of its kind
pub record IsStoredTable (count : ℕ) (columns : List ColumnCells) : Type 0 where
  pub long : AreLong count (cells_in columns)
  pub typed : AreRows (kinds_in columns) (rows_from count (cells_in columns))

-- columns with a cell more each
unfoldable pub with_row : List (List Cell) → List Cell → List (List Cell)
with_row [] cells = []
with_row (column ∷ columns) [] = column ∷ columns
with_row (column ∷ columns) (cell ∷ cells) = (column ++ cell ∷ []) ∷ with_row columns cells

-- a record was read into columns: each has its cell at the end, or the record has no reading
abbrev pub TakesRecord : List ColumnCells → List ColumnCells → List (List ℕ) → Bool → Type 0
TakesRecord old new fields true = (cells : List Cell) × (cells_of (kinds_in old) fields ≡ Some cells)
    × (cells_in new ≡ with_row (cells_in old) cells) × (kinds_in new ≡ kinds_in old)
TakesRecord old new fields false = cells_of (kinds_in old) fields ≡ None

-- a column took a field
abbrev pub Took : ColumnCells → List ℕ → ColumnCells → Type 0
Took old field new = (new.kind ≡ old.kind) × TakesField old.kind field old.cells new.cells true

-- so many rows of a table, from a place on
abbrev pub part_of : ℕ → ℕ → Table → Table
part_of from len table = record { kinds = table.kinds; rows = take len (drop from table.rows) }

-- places between which there are rows of a table
pub record IsRange (from to : ℕ) (table : Table) : Type 0 where
  pub order : from ≤ to
  pub within : to ≤ length table.rows
