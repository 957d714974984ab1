-- Sums of parts, summed again, are the sum of the whole.
use Rattle.std.specs.Prelude.{◌≡◌, ℤ, ◌+ℤ◌, List, [], ◌∷◌, ◌++◌, flat_map, fold, refl}
use Rattle.std.proofs.Common.{sym, ap, ◌∙◌}
use Rattle.std.proofs.Math.IntN.{+ℤ_assoc}
use Rattle.query_model.specs.declared.cell.Cell.{Cell}
use Rattle.query_model.specs.declared.cell.Cell.TheVariants.{Null, Int, Sum, Text}
use Rattle.query_model.specs.Answer.{sum_cell}

-- a number and those of a list together
abbrev added : ℤ → List ℤ → ℤ
added n numbers = fold (λ a b. a +ℤ b) n numbers

-- a part's sum, if it has one
abbrev pub total : List ℤ → List ℤ
total [] = []
total (n ∷ numbers) = added n numbers ∷ []

-- numbers that follow others are added to their sum
added-append : (n : ℤ) (numbers more : List ℤ) → added n (numbers ++ more) ≡ added (added n numbers) more
added-append n [] more = refl
added-append n (m ∷ numbers) more = added-append (n +ℤ m) numbers more

-- what is added first may be added last
added-start : (a n : ℤ) (numbers : List ℤ) → added (a +ℤ n) numbers ≡ a +ℤ added n numbers
added-start a n [] = refl
added-start a n (m ∷ numbers) = ap (λ s. added s numbers) (+ℤ_assoc a n m) ∙ added-start a (n +ℤ m) numbers

-- a number first, then the sum of a list, null counting nothing
abbrev onto : ℤ → Cell → Cell
onto a (Sum n) = Sum (a +ℤ n)
onto a Null = Sum a
onto a (Int n) = Null
onto a (Text bytes) = Null

-- a list's sum begins with its first number
onto-sum : (a : ℤ) (numbers : List ℤ) → sum_cell (a ∷ numbers) ≡ onto a (sum_cell numbers)
onto-sum a [] = refl
onto-sum a (n ∷ numbers) = ap Sum (added-start a n numbers)

-- numbers before two lists of one sum
sum-rest : (numbers some other : List ℤ) → sum_cell some ≡ sum_cell other → sum_cell (numbers ++ some) ≡ sum_cell (numbers ++ other)
sum-rest [] some other same = same
sum-rest (n ∷ numbers) some other same =
    onto-sum n (numbers ++ some) ∙ ap (onto n) (sum-rest numbers some other same) ∙ sym (onto-sum n (numbers ++ other))

-- a sum stands for its numbers
sum-again : (numbers more : List ℤ) → sum_cell (total numbers ++ more) ≡ sum_cell (numbers ++ more)
sum-again [] more = refl
sum-again (n ∷ numbers) more = ap Sum (sym (added-append n numbers more))

-- the sums of parts, summed again
pub sum_cut : (parts : List (List ℤ)) → sum_cell (flat_map total parts) ≡ sum_cell (flat_map (λ part. part) parts)
sum_cut [] = refl
sum_cut (part ∷ parts) =
    sum-again part (flat_map total parts) ∙ sum-rest part (flat_map total parts) (flat_map (λ p. p) parts) (sum_cut parts)
