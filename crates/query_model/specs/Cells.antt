-- Cells, rows and their columns. A row is the list of its cells, one a column.
use Rattle.std.specs.Prelude.{◌<◌, ◌^◌, ℕ, ℤ, pos, negsuc, List, [], ◌∷◌, map, slice_index_or, IsUtf8, ⊤}
use Rattle.std.specs.Fmt.{signed_decimal}
use Rattle.query_model.specs.declared.cell.Cell.{Cell}
use Rattle.query_model.specs.declared.cell.Cell.TheVariants.{Null, Int, Sum, Text}
use Rattle.query_model.specs.declared.kind.Kind.{Kind}
use Rattle.query_model.specs.declared.kind.Kind.TheVariants as kind

-- the cell of a row at the column of this number, from 0 on
abbrev pub cell_at : ℕ → List Cell → Cell
cell_at column row = slice_index_or row column Null

-- the cells of rows at a column
abbrev pub column_of : ℕ → List (List Cell) → List Cell
column_of column rows = map (cell_at column) rows

-- a cell as it is printed: a null as no bytes
abbrev pub printed : Cell → List ℕ
printed Null = []
printed (Int n) = signed_decimal n
printed (Sum n) = signed_decimal n
printed (Text bytes) = bytes

-- a number of 64 bits
abbrev pub IsInt : ℤ → Type 0
IsInt (pos n) = n < 2 ^ 63
IsInt (negsuc n) = n < 2 ^ 63

-- a number of 128 bits
abbrev pub IsSum : ℤ → Type 0
IsSum (pos n) = n < 2 ^ 127
IsSum (negsuc n) = n < 2 ^ 127

-- a column of this kind may have this cell: numbers may be null, texts are UTF-8
abbrev pub IsOfKind : Kind → Cell → Type 0
IsOfKind kind.Int Null = ⊤
IsOfKind kind.Int (Int n) = IsInt n
IsOfKind kind.Int (Sum n) = ⊥
IsOfKind kind.Int (Text bytes) = ⊥
IsOfKind kind.Sum Null = ⊤
IsOfKind kind.Sum (Int n) = ⊥
IsOfKind kind.Sum (Sum n) = IsSum n
IsOfKind kind.Sum (Text bytes) = ⊥
IsOfKind kind.Text Null = ⊥
IsOfKind kind.Text (Int n) = ⊥
IsOfKind kind.Text (Sum n) = ⊥
IsOfKind kind.Text (Text bytes) = IsUtf8 bytes

-- a row has a cell of its kind for each column
unfoldable pub IsRow : List Kind → List Cell → Type 0
IsRow [] [] = ⊤
IsRow [] (cell ∷ cells) = ⊥
IsRow (kind ∷ kinds) [] = ⊥
IsRow (kind ∷ kinds) (cell ∷ cells) = IsOfKind kind cell × IsRow kinds cells
