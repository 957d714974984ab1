-- Columns in buffers, after the Arrow columnar format: which bytes each buffer has, and which cells they are.
use Rattle.std.specs.Prelude.{ℕ, ◌+◌, ◌*◌, ◌/◌, ◌%◌, ◌^◌, ◌==◌, Bool, true, false, List, [], ◌∷◌, map, take, drop, length, get_or, if◌then◌else◌}
use Rattle.std.specs.Int.{Width, w32, w64, w128, to_le_bytes, from_le_bytes, byte_len, cast_unsigned, cast_signed}
use Rattle.std.specs.List.{flat_map, range_with_len}
use Rattle.query_model.specs.declared.cell.Cell.{Cell}
use Rattle.query_model.specs.declared.cell.Cell.TheVariants.{Null, Int, Sum, Text}
use Rattle.query_model.specs.declared.kind.Kind.{Kind}
use Rattle.query_model.specs.declared.kind.Kind.TheVariants as kind
use Rattle.query_model.specs.Buffers.{validity_length, texts_length}

-- a number, least byte first, in two's complement; a null is as 0
abbrev pub number_bytes : Width → Cell → List ℕ
number_bytes w Null = to_le_bytes w 0
number_bytes w (Int n) = to_le_bytes w (cast_unsigned w n)
number_bytes w (Sum n) = to_le_bytes w (cast_unsigned w n)
number_bytes w (Text bytes) = to_le_bytes w 0

-- whether a cell is known, as a bit
abbrev pub known_bit : Cell → ℕ
known_bit Null = 0
known_bit (Int n) = 1
known_bit (Sum n) = 1
known_bit (Text bytes) = 1

-- bits as a number, the least first
unfoldable pub number_of_bits : List ℕ → ℕ
number_of_bits [] = 0
number_of_bits (bit ∷ bits) = bit + 2 * number_of_bits bits

-- a mark as a bit
abbrev pub bit_of : Bool → ℕ
bit_of true = 1
bit_of false = 0

-- the byte of this place of bits
abbrev pub bit_byte : List ℕ → ℕ → ℕ
bit_byte bits place = number_of_bits (take 8 (drop (8 * place) bits))

-- bits as bytes, eight to a byte, the least first; those that are left over are 0
abbrev pub bit_bytes : List ℕ → List ℕ
bit_bytes bits = map (bit_byte bits) (range_with_len 0 (validity_length (length bits)))

-- a bit for each cell, which says whether it is known
abbrev pub validity_bytes : List Cell → List ℕ
validity_bytes cells = bit_bytes (map known_bit cells)

-- the bytes of a text
abbrev pub text_bytes : Cell → List ℕ
text_bytes Null = []
text_bytes (Int n) = []
text_bytes (Sum n) = []
text_bytes (Text bytes) = bytes

-- where each text begins, and where the last one ends
abbrev pub offset_bytes : List Cell → List ℕ
offset_bytes cells = flat_map (λ i. to_le_bytes w32 (texts_length (take i cells))) (range_with_len 0 (length cells + 1))

-- the bytes of the two buffers of a column: validity and data, or offsets and texts
abbrev pub column_bytes : Kind → List Cell → List (List ℕ)
column_bytes kind.Int cells = validity_bytes cells ∷ flat_map (number_bytes w64) cells ∷ []
column_bytes kind.Sum cells = validity_bytes cells ∷ flat_map (number_bytes w128) cells ∷ []
column_bytes kind.Text cells = offset_bytes cells ∷ flat_map text_bytes cells ∷ []

-- the bit of this number
abbrev pub bit_at : List ℕ → ℕ → ℕ
bit_at bytes i = get_or bytes (i / 8) 0 / 2 ^ (i % 8) % 2

-- the number of this place
abbrev pub number_at : Width → List ℕ → ℕ → ℕ
number_at w bytes i = from_le_bytes w (take (byte_len w) (drop (byte_len w * i) bytes))

-- the cell of this place in a column of a kind, by the bytes of its buffers
abbrev pub cell_in : Kind → List ℕ → List ℕ → ℕ → Cell
cell_in kind.Int validity numbers i = if bit_at validity i == 0 then Null else Int (cast_signed w64 (number_at w64 numbers i))
cell_in kind.Sum validity numbers i = if bit_at validity i == 0 then Null else Sum (cast_signed w128 (number_at w128 numbers i))
cell_in kind.Text offsets texts i =
    Text (drop (number_at w32 offsets i) (take (number_at w32 offsets (i + 1)) texts))

-- the cells of so many rows, by the bytes of the two buffers of their column
abbrev pub cells_in : Kind → ℕ → List (List ℕ) → List Cell
cells_in kind count (first ∷ second ∷ []) = map (cell_in kind first second) (range_with_len 0 count)
cells_in kind count _ = []
