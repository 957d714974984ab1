-- The first part of a list that is cut, and the first line of a text.
use Rattle.std.proofs.Common.{◌≡◌, ℕ, ◌+◌, ◌-◌, ◌<◌, List, [], ◌∷◌, length, take, drop, Bool, true, false, eqb, ltb, None, Some, refl, sym, ap, ◌∙◌, arith, inl, inr, subst}
use Rattle.std.specs.List.{slice_split, position, position_or_len}
use Rattle.std.specs.Str.Lines.{lines, lines_of_parts, strip_carriage_return}
use Rattle.std.proofs.Math.Seq.{take-length}
use Rattle.std.proofs.lemmas.Bool.{cases_lt}
use Rattle.std.proofs.lemmas.Bool.Decides.{nat_tests}
use Rattle.std.proofs.lemmas.List.{length-drop}
use Rattle.std.proofs.lemmas.List.Splits.{slice_split_none, slice_split_first, length-slice_split}
use Rattle.std.proofs.lemmas.List.Sums.{fails_before_first}

-- a line feed
abbrev pub is_feed : ℕ → Bool
is_feed byte = eqb byte 10

-- a part before another is a line without its carriage return
lines_of_parts-cons : (part : List ℕ) (parts : List (List ℕ)) → 0 < length parts
    → lines_of_parts (part ∷ parts) ≡ strip_carriage_return part ∷ lines_of_parts parts
lines_of_parts-cons part [] some = absurd (omega arith)
lines_of_parts-cons part (next ∷ parts) some = refl

-- the first element that passes ends the first part
pub split-at : (p : ℕ → Bool) (text : List ℕ) (end : ℕ) → Some end ≡ position p text
    → slice_split p text ≡ take end text ∷ slice_split p (drop (end + 1) text)
split-at p text end found = elim (cases_lt (position_or_len p text) (length text)) [
  | inl lt ↦ (
      let within : ltb (position_or_len p text) (length text) ≡ true = grind (arith, nat_tests) in
      let is : Some end ≡ Some (position_or_len p text) = rw within at found in
      let same : end ≡ position_or_len p text = cc in
      subst (λ n. slice_split p text ≡ take n text ∷ slice_split p (drop (n + 1) text)) (sym same)
      (slice_split_first p text 0 lt))
  | inr ge ↦ (
      let past : ltb (position_or_len p text) (length text) ≡ false = grind (arith, nat_tests) in
      let is : Some end ≡ None = rw past at found in cc)
]

-- where no element passes, all is one part
pub split-none : (p : ℕ → Bool) (text : List ℕ) → None ≡ position p text → slice_split p text ≡ text ∷ []
split-none p text missed = elim (cases_lt (position_or_len p text) (length text)) [
  | inl lt ↦ (
      let within : ltb (position_or_len p text) (length text) ≡ true = grind (arith, nat_tests) in
      let is : None ≡ Some (position_or_len p text) = rw within at missed in cc)
  | inr ge ↦ slice_split_none p text (λ k d lt. fails_before_first p text k d (omega arith))
]

-- the first line feed ends the first line
pub lines-at : (text : List ℕ) (end : ℕ) → Some end ≡ position is_feed text
    → lines text ≡ strip_carriage_return (take end text) ∷ lines (drop (end + 1) text)
lines-at text end found =
    let rest = drop (end + 1) text in
    let some : 0 < length (slice_split is_feed rest) = omega (arith, length-slice_split is_feed rest) in
    ap lines_of_parts (split-at is_feed text end found) ∙ lines_of_parts-cons (take end text) (slice_split is_feed rest) some

-- a text without a line feed is one line
pub lines-none : (text : List ℕ) → 0 < length text → None ≡ position is_feed text → lines text ≡ text ∷ []
lines-none text some missed =
    let some' : eqb (length text) 0 ≡ false = grind (arith, nat_tests) in
    ap lines_of_parts (split-none is_feed text missed) ∙ rw some'

-- all that is left of a list
pub take-drop : (n : ℕ) (text : List ℕ) → take (length text - n) (drop n text) ≡ drop n text
take-drop n text = subst (λ k. take k (drop n text) ≡ drop n text) (length-drop n text) (take-length (drop n text))
