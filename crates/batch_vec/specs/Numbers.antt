-- Numbers in bytes.
use Rattle.std.specs.Prelude.{ℕ, ◌*◌, ℤ, List, take, drop}
use Rattle.std.specs.Int.{w64, w128, cast_signed, from_le_bytes}

-- eight bytes as a number
unfoldable pub int_from : List ℕ → ℤ
int_from bytes = cast_signed w64 (from_le_bytes w64 bytes)

-- sixteen bytes as a number
unfoldable pub sum_from : List ℕ → ℤ
sum_from bytes = cast_signed w128 (from_le_bytes w128 bytes)

-- the number of 64 bits of this place
abbrev pub int_at : List ℕ → ℕ → ℤ
int_at bytes place = int_from (take 8 (drop (8 * place) bytes))

-- the number of 128 bits of this place
abbrev pub sum_at : List ℕ → ℕ → ℤ
sum_at bytes place = sum_from (take 16 (drop (16 * place) bytes))
