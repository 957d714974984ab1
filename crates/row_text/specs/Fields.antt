-- What a field of a record reads as.
use Rattle.std.specs.Prelude.{ℕ, ℤ, pos, neg_ℤ, ◌^◌, Bool, ◌&&◌, nat_le, nat_lt, if◌then◌else◌}
use Rattle.std.specs.Prelude.{List, [], ◌∷◌, length, drop, Option, Some, None, option_map}
use Rattle.std.specs.Str.{all_ascii_digits}
use Rattle.std.specs.Str.Parse.{digits_value, starts_with_minus}
use Rattle.std.specs.Str.{is_utf8}
use Rattle.query_model.specs.declared.cell.Cell.{Cell}
use Rattle.query_model.specs.declared.cell.Cell.TheVariants.{Null, Int, Text}
use Rattle.query_model.specs.declared.kind.Kind.{Kind}
use Rattle.query_model.specs.declared.kind.Kind.TheVariants as kind

-- one or more digits
abbrev pub are_digits : List ℕ → Bool
are_digits bytes = nat_lt 0 (length bytes) && all_ascii_digits bytes

-- the value of digits
abbrev pub digits_of : List ℕ → Option ℕ
digits_of bytes = if all_ascii_digits bytes then Some (digits_value 10 bytes) else None

-- the number that a field is: an optional '-' and one or more digits, with a value from -(2 ^ 63) to 2 ^ 63 - 1
abbrev pub int_of : List ℕ → Option ℤ
int_of field =
    if starts_with_minus field
    then (if are_digits (drop 1 field) && nat_le (digits_value 10 (drop 1 field)) (2 ^ 63)
    then Some (neg_ℤ (pos (digits_value 10 (drop 1 field)))) else None)
    else (if are_digits field && nat_lt (digits_value 10 field) (2 ^ 63) then Some (pos (digits_value 10 field)) else None)

-- the cell that a field is in a column of this kind: an int field is empty, which is null, or a number, and a text field is any text
abbrev pub cell_of : Kind → List ℕ → Option Cell
cell_of kind.Int [] = Some Null
cell_of kind.Int (byte ∷ bytes) = option_map Int (int_of (byte ∷ bytes))
cell_of kind.Sum field = None
cell_of kind.Text field = if is_utf8 field then Some (Text field) else None

-- a cell before cells, where all are there
abbrev pub joined : Option Cell → Option (List Cell) → Option (List Cell)
joined None cells = None
joined (Some cell) None = None
joined (Some cell) (Some cells) = Some (cell ∷ cells)

-- the cells that the fields of a record are: as many as the columns, each of its column's kind
unfoldable pub cells_of : List Kind → List (List ℕ) → Option (List Cell)
cells_of [] [] = Some []
cells_of [] (field ∷ fields) = None
cells_of (kind ∷ kinds) [] = None
cells_of (kind ∷ kinds) (field ∷ fields) = joined (cell_of kind field) (cells_of kinds fields)
