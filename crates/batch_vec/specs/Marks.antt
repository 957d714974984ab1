-- Marks in bytes of bits.
use Rattle.std.specs.Prelude.{ℕ, ◌==◌, Bool, List}
use Rattle.query_model.specs.Bytes.{bit_at}

-- whether the bit of this number is set
abbrev pub is_set : List ℕ → ℕ → Bool
is_set bytes place = bit_at bytes place == 1
