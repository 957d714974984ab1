-- The words of a line, and the names and numbers among them. A line and a word are lists of bytes.
use Rattle.std.specs.Prelude.{ℕ, Bool, true, not, ◌&&◌, ◌||◌, nat_le, nat_lt, ◌==◌, List, [], ◌∷◌, length, filter, map, if◌then◌else◌, Option, Some, None, slice_index}
use Rattle.std.specs.List.{slice_split, list_all}
use Rattle.std.specs.Char.{is_ascii_digit}
use Rattle.std.specs.Str.Parse.{digits_value}
use Rattle.mem_num.specs.declared.bounds.TheConstants.{MAX_LIMIT, MAX_RESERVATION}

-- a space or a tab
abbrev pub is_blank : ℕ → Bool
is_blank byte = (byte == 32) || (byte == 9)

-- the words of a line: its parts between blanks, without the empty ones
abbrev pub words_of : List ℕ → List (List ℕ)
words_of line = filter (λ word. nat_lt 0 (length word)) (slice_split is_blank line)

-- the words of a line that begins with this part, before one with these words: an empty part is no word
abbrev pub words_with : List ℕ → List (List ℕ) → List (List ℕ)
words_with part words = if nat_lt 0 (length part) then part ∷ words else words

-- a number is one or more digits, whose value is at most the greatest limit
unfoldable pub is_numeral : List ℕ → Bool
is_numeral word =
    nat_lt 0 (length word) && list_all is_ascii_digit word && nat_le (digits_value 10 word) MAX_LIMIT

-- the value of a number
abbrev pub number_of : List ℕ → Option ℕ
number_of word = if is_numeral word then Some (digits_value 10 word) else None

-- the value of a number that is at most the largest reservation
abbrev pub reservation_of : List ℕ → Option ℕ
reservation_of word =
    if is_numeral word && nat_le (digits_value 10 word) MAX_RESERVATION then Some (digits_value 10 word) else None

-- a line is skipped if it has no words, or its first word begins with '#'
abbrev pub is_skipped : List (List ℕ) → Bool
is_skipped [] = true
is_skipped (word ∷ more) = slice_index word 0 == 35

-- the words of each line that isn't skipped
abbrev pub commands_of : List (List ℕ) → List (List (List ℕ))
commands_of text = filter (λ words. not (is_skipped words)) (map words_of text)
