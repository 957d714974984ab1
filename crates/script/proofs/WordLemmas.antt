-- Names and numbers are text, no number is above the bound, and the first byte that is no blank skips a line or not.
use Rattle.std.proofs.Common.{◌≡◌, sym, refl, ℕ, List, [], ◌∷◌, length, ◌<◌, ◌^◌, ◌+◌, Bool, true, false, not, ltb, leb, eqb, None, Some, Err, rules, arith, inl, inr, filter, take, drop, ap, ◌&&◌}
use Rattle.std.specs.List.{list_all, find, slice_split, onto_first, position}
use Rattle.std.specs.Option.{option_map_or}
use Rattle.std.specs.Char.{is_ascii_digit}
use Rattle.std.specs.Str.{IsUtf8}
use Rattle.std.specs.Str.Parse.{digits_value, ParsesUnsigned}
use Rattle.std.proofs.Math.Bool.{and-false}
use Rattle.std.proofs.lemmas.Bool.{cases_lt, cases_Bool}
use Rattle.std.proofs.lemmas.Bool.Decides.{nat_tests}
use Rattle.std.proofs.lemmas.Fmt.{IsAscii-from_digits}
use Rattle.std.proofs.lemmas.Str.{IsUtf8-from_ascii}
use Rattle.std.proofs.lemmas.Str.Parse.{IsNumeralModel, numerals_by_value, parse_digits}
use Rattle.script.specs.Words.{is_numeral, number_of, is_blank, is_skipped, words_of, words_with}
use Rattle.script.proofs.TextLemmas.{split-at, split-none}

-- each byte is a digit
abbrev pub AreDigits : List ℕ → Type 0
AreDigits ds = list_all is_ascii_digit ds ≡ true

-- digits are numerals by their value
numerals : IsNumeralModel AreDigits (digits_value 10)
numerals = numerals_by_value _ (search rules)

-- digits are text
pub digits_utf8 : (ds : List ℕ) → AreDigits ds → IsUtf8 ds
digits_utf8 ds h = IsUtf8-from_ascii ds (IsAscii-from_digits ds (numerals.to ds h))

-- a value past the bound is no number
number_of-large : (ds : List ℕ) → 9223372036854775807 < digits_value 10 ds → None ≡ number_of ds
unfolding is_numeral
number_of-large ds h =
    let large : leb (digits_value 10 ds) 9223372036854775807 ≡ false = grind (arith, nat_tests) in
    rw (large, and-false (ltb 0 (length ds) && list_all is_ascii_digit ds)) refl

-- digits that don't fit 64 bits are no number
pub number_of-unparsed : {E : Type 0} (ds : List ℕ) (e : E) → AreDigits ds → 0 < length ds
    → ParsesUnsigned 64 10 ds (Err e) → None ≡ number_of ds
number_of-unparsed ds e digits some parsed =
    let refused = parse_digits numerals 64 ds (Err e) parsed digits in
    number_of-large ds (elim (cases_lt (digits_value 10 ds) (2 ^ 64)) [
      | inl lt ↦ absurd (refused (some, lt))
      | inr ge ↦ omega arith
    ])

-- a byte that is no blank begins the first word
is_skipped-onto_first : (byte : ℕ) (parts : List (List ℕ))
    → is_skipped (filter (λ word. ltb 0 (length word)) (onto_first byte parts)) ≡ eqb byte 35
is_skipped-onto_first byte [] = refl
is_skipped-onto_first byte (part ∷ parts) =
    let some : ltb 0 (length (byte ∷ part)) ≡ true = grind (arith, nat_tests) in
    rw some refl

-- the first byte that is no blank says whether a line is skipped
pub is_skipped-find : (line : List ℕ)
    → option_map_or (λ byte. eqb byte 35) (find (λ byte. not (is_blank byte)) line) true ≡ is_skipped (words_of line)
is_skipped-find [] = refl
is_skipped-find (byte ∷ line) = elim (cases_Bool (is_blank byte)) [
  | inl blank ↦ rw blank (is_skipped-find line)
  | inr word ↦ rw word (sym (is_skipped-onto_first byte (slice_split is_blank line)))
]

-- a part with a byte is a word
abbrev nonempty : List ℕ → Bool
nonempty word = ltb 0 (length word)

-- the first blank ends the first part
pub words-at : (line : List ℕ) (end : ℕ) → Some end ≡ position is_blank line
    → words_of line ≡ words_with (take end line) (words_of (drop (end + 1) line))
words-at line end found = ap (filter nonempty) (split-at is_blank line end found)

-- a line without blanks is one part
pub words-none : (line : List ℕ) → None ≡ position is_blank line → words_of line ≡ words_with line []
words-none line missed = ap (filter nonempty) (split-none is_blank line missed)
