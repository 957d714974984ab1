-- Rows as the text of a table.
use Rattle.std.specs.Prelude.{◌≢◌, ℕ, List, [], ◌∷◌, ◌++◌, map, flat_map, ⊤}
use Rattle.csv.specs.Writing.{default_writer, row_text}
use Rattle.query_model.specs.Cells.{printed}
use Rattle.query_model.specs.declared.cell.Cell.{Cell}

-- the fields of a row, as they are printed
abbrev pub fields_of_row : List Cell → List (List ℕ)
fields_of_row row = map printed row

-- the text of rows, without a header: a record of each, as csv writes records with its defaults
abbrev pub rows_text : List (List Cell) → List ℕ
rows_text rows = flat_map (row_text default_writer) (map fields_of_row rows)

-- the text of a table: a record of its header, and then its rows
abbrev pub table_text : List (List ℕ) → List (List Cell) → List ℕ
table_text header rows = row_text default_writer header ++ rows_text rows

-- a header in whose text no byte order mark is seen: its first name doesn't begin with the first byte of one
abbrev pub BeginsPlain : List (List ℕ) → Type 0
BeginsPlain [] = ⊥
BeginsPlain ([] ∷ names) = ⊤
BeginsPlain ((byte ∷ bytes) ∷ names) = byte ≢ 239
