-- What a name is. A name is a list of bytes.
use Rattle.std.specs.Prelude.{ℕ, Bool, Option, Some, None, if◌then◌else◌, ◌&&◌, ◌||◌, nat_le, nat_lt, ◌==◌, List, length}
use Rattle.std.specs.List.{list_all}
use Rattle.std.specs.Char.{is_ascii_alphanumeric}

-- a letter, a digit, '_', '-' or '.'
abbrev pub is_name_byte : ℕ → Bool
is_name_byte byte = is_ascii_alphanumeric byte || (byte == 95) || (byte == 45) || (byte == 46)

-- a name is 1 to 32 bytes, each a letter, a digit, '_', '-' or '.'
unfoldable pub is_name : List ℕ → Bool
is_name word = nat_lt 0 (length word) && nat_le (length word) 32 && list_all is_name_byte word

-- the name that a word is
abbrev pub name_word : List ℕ → Option (List ℕ)
name_word word = if is_name word then Some word else None
