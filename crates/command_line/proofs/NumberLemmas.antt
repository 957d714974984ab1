-- A word of digits that doesn't fit 32 bits is no number up to a bound of 32 bits.
use Rattle.std.proofs.Common.{◌≡◌, refl, ℕ, List, length, ◌<◌, ◌^◌, true, false, ltb, leb, None, Err, rules, arith, inl, inr, ◌&&◌}
use Rattle.std.specs.List.{list_all}
use Rattle.std.specs.Char.{is_ascii_digit}
use Rattle.std.specs.Str.Parse.{digits_value, ParsesUnsigned}
use Rattle.std.proofs.Math.Bool.{and-false}
use Rattle.std.proofs.lemmas.Bool.{cases_lt}
use Rattle.std.proofs.lemmas.Bool.Decides.{nat_tests}
use Rattle.std.proofs.lemmas.Str.Parse.{IsNumeralModel, numerals_by_value, parse_digits}
use Rattle.command_line.specs.Command.{number_in}

-- a text of digits
abbrev AreDigits : List ℕ → Type 0
AreDigits ds = list_all is_ascii_digit ds ≡ true

-- which is a numeral of its value
numerals : IsNumeralModel AreDigits (digits_value 10)
numerals = numerals_by_value _ (search rules)

-- a value above the greatest is no number
number_in-large : (least most : ℕ) (ds : List ℕ) → most < digits_value 10 ds → None ≡ number_in least most ds
number_in-large least most ds h =
    let large : leb (digits_value 10 ds) most ≡ false = grind (arith, nat_tests) in
    rw (large, and-false (ltb 0 (length ds) && list_all is_ascii_digit ds && leb least (digits_value 10 ds))) refl

-- nor is a text whose parse fails
pub number_in-unparsed : {E : Type 0} (least most : ℕ) (ds : List ℕ) (e : E) → AreDigits ds → 0 < length ds → most < 2 ^ 32
    → ParsesUnsigned 32 10 ds (Err e) → None ≡ number_in least most ds
number_in-unparsed least most ds e digits some fits parsed =
    let refused = parse_digits numerals 32 ds (Err e) parsed digits in
    number_in-large least most ds (elim (cases_lt (digits_value 10 ds) (2 ^ 32)) [
      | inl lt ↦ absurd (refused (some, lt))
      | inr ge ↦ omega arith
    ])
