-- Columns that are picked and those that aren't are all columns.
use Rattle.std.proofs.Common.{◌≡◌, ◌+◌, ◌*◌, ◌<◌, ◌≤◌, min, ℕ, zero, suc, Bool, true, false, inl, inr, List, [], ◌∷◌, ◌++◌, All, length, take, drop, filter, refl, sym, ◌∙◌, ap, subst, arith}
use Rattle.std.proofs.lemmas.Bool.{and_parts, cases_lt}
use Rattle.std.proofs.lemmas.Bool.Decides.{nat_tests}
use Rattle.std.proofs.lemmas.List.{drop_all, drop-drop, length-append, length-drop, length-take, take-append-drop}
use Rattle.std.proofs.lemmas.List.Elements.{All-head, All-tail}
use Rattle.std.proofs.lemmas.List.Sums.{sum_by-cons}
use Rattle.std.specs.Prelude.{sum_by, not, ◌==◌, nat_eq, if◌then◌else◌}
use Rattle.std.specs.List.{list_any, range_with_len}
use Rattle.mem_num.specs.declared.buffer_ref.Ref.{Ref}
use Rattle.query_model.specs.Fit.{are_different}
use Rattle.query_model.specs.SequentialCalls.{unpicked}
use Rattle.batch_vec.specs.Moving.{of_columns, two_of}
use Rattle.pipeline.specs.Holding.{AreSame, held_count}
use Rattle.pipeline.proofs.HoldingLemmas.{held-append}

-- whether a column isn't among some
abbrev is_left : List ℕ → ℕ → Bool
is_left picks column = not (list_any (λ pick. pick == column) picks)

-- sums over columns
module _ (f : ℕ → ℕ) where
  -- a number that is kept or not, before lists whose sums are known
  keep-sum : (b : Bool) (x more : ℕ) (xs ys : List ℕ) → sum_by f xs ≡ more + sum_by f ys
      → sum_by f (if b then x ∷ xs else xs) ≡ more + sum_by f (if b then x ∷ ys else ys)
  keep-sum true x more xs ys same =
      let one = sum_by-cons f x xs in
      let other = sum_by-cons f x ys in
      omega (arith, same, one, other)
  keep-sum false x more xs ys same = same

  -- what the columns of a range that aren't among some come to
  abbrev left-sum : List ℕ → ℕ → ℕ → ℕ
  left-sum picks first count = sum_by f (filter (is_left picks) (range_with_len first count))

  -- a column before the range takes nothing out of it
  past : (pick : ℕ) (picks : List ℕ) (first count : ℕ) → pick < first → left-sum (pick ∷ picks) first count ≡ 0 + left-sum picks first count
  past pick picks first zero before = refl
  past pick picks first (suc count) before =
      let no : (pick == first) ≡ false = grind (arith, nat_tests) in
      let rest = past pick picks (first + 1) count (omega (arith, before)) in
      rw no (keep-sum (is_left picks first) first 0 (filter (is_left (pick ∷ picks)) (range_with_len (first + 1) count))
      (filter (is_left picks) (range_with_len (first + 1) count)) rest)

  -- and one within it takes itself out
  taken : (pick : ℕ) (picks : List ℕ) (first count : ℕ) → first ≤ pick → pick < first + count → is_left picks pick ≡ true
      → left-sum picks first count ≡ f pick + left-sum (pick ∷ picks) first count
  taken pick picks first zero from to left = absurd (omega (arith, from, to))
  taken pick picks first (suc count) from to left = elim (cases_lt first pick) [
    | inl before ↦ (let no : (pick == first) ≡ false = grind (arith, nat_tests) in
        let rest = taken pick picks (first + 1) count (omega (arith, before)) (omega (arith, to)) left in
        rw no (keep-sum (is_left picks first) first (f pick) (filter (is_left picks) (range_with_len (first + 1) count))
        (filter (is_left (pick ∷ picks)) (range_with_len (first + 1) count)) rest))
    | inr here ↦ (let at : first ≡ pick = omega (arith, from, here) in
        let yes : (pick == first) ≡ true = grind (arith, nat_tests) in
        let kept : is_left picks first ≡ true = subst (λ c. is_left picks c ≡ true) (sym at) left in
        let others = past pick picks (first + 1) count (omega (arith, at)) in
        let one = sum_by-cons f first (filter (is_left picks) (range_with_len (first + 1) count)) in
        rw yes (rw kept (let same : f first ≡ f pick = ap f at in omega (arith, others, one, same))))
  ]

  all-left : (first count : ℕ) → left-sum [] first count ≡ sum_by f (range_with_len first count)
  all-left first zero = refl
  all-left first (suc count) =
      let one = sum_by-cons f first (filter (is_left []) (range_with_len (first + 1) count)) in
      let other = sum_by-cons f first (range_with_len (first + 1) count) in
      let rest = all-left (first + 1) count in
      omega (arith, one, other, rest)

  -- each column is picked, or is not
  pub picks-sum : (picks : List ℕ) (width : ℕ) → All (λ pick. pick < width) picks → are_different nat_eq picks ≡ true
      → sum_by f picks + sum_by f (unpicked width picks) ≡ sum_by f (range_with_len 0 width)
  unfolding are_different
  picks-sum [] width are different = let all = all-left 0 width in omega (arith, all)
  picks-sum (pick ∷ picks) width are different =
      let parts = and_parts (not (list_any (λ other. nat_eq other pick) picks)) (are_different nat_eq picks) different in
      let fresh : is_left picks pick ≡ true = parts.0 in
      let rest = picks-sum picks width (All-tail (λ pick. pick < width) pick picks are) parts.1 in
      let out = taken pick picks 0 width (omega arith) (let is = All-head (λ pick. pick < width) pick picks are in omega (arith, is)) fresh in
      let one = sum_by-cons f pick picks in
      omega (arith, rest, out, one)

-- all columns, from one on
columns-from : (holds : List Ref) (first count : ℕ) → length holds ≡ 2 * (first + count)
    → of_columns holds (range_with_len first count) ≡ drop (2 * first) holds
columns-from holds first zero long = sym (drop_all (2 * first) holds (omega (arith, long)))
columns-from holds first (suc count) long =
    let next : 2 * (first + 1) ≡ 2 * first + 2 = omega arith in
    ap (λ hs. take 2 (drop (2 * first) holds) ++ hs)
    (columns-from holds (first + 1) count (omega (arith, long)) ∙ ap (λ n. drop n holds) next ∙ sym (drop-drop 2 (2 * first) holds))
    ∙ take-append-drop 2 (drop (2 * first) holds)

-- what columns hold, column by column
columns-held : (holds : List Ref) (columns : List ℕ) (k n : ℕ)
    → held_count (of_columns holds columns) k n ≡ sum_by (λ column. held_count (two_of holds column) k n) columns
columns-held holds [] k n = refl
columns-held holds (column ∷ columns) k n =
    let first = held-append (two_of holds column) (of_columns holds columns) k n in
    let rest = columns-held holds columns k n in
    let one = sum_by-cons (λ c. held_count (two_of holds c) k n) column columns in
    omega (arith, first, rest, one)

-- the picked columns and the others hold what all do
pub picked-apart : (holds : List Ref) (picks : List ℕ) (width : ℕ) → length holds ≡ 2 * width → All (λ pick. pick < width) picks
    → are_different nat_eq picks ≡ true → AreSame holds (of_columns holds picks ++ of_columns holds (unpicked width picks))
picked-apart holds picks width long inside different k n real =
    let f : ℕ → ℕ = λ column. held_count (two_of holds column) k n in
    let all : held_count (of_columns holds (range_with_len 0 width)) k n ≡ held_count holds k n =
    ap (λ hs. held_count hs k n) (columns-from holds 0 width (omega (arith, long))) in
    let whole = columns-held holds (range_with_len 0 width) k n in
    let picked = columns-held holds picks k n in
    let others = columns-held holds (unpicked width picks) k n in
    let together = held-append (of_columns holds picks) (of_columns holds (unpicked width picks)) k n in
    let sums = picks-sum f picks width inside different in
    omega (arith, all, whole, picked, others, together, sums)

-- two references a column
pub columns-long : (holds : List Ref) (width : ℕ) (columns : List ℕ) → length holds ≡ 2 * width
    → All (λ column. column < width) columns → length (of_columns holds columns) ≡ 2 * length columns
columns-long holds width [] long inside = refl
columns-long holds width (column ∷ columns) long inside =
    let is = All-head (λ column. column < width) column columns inside in
    let rest = columns-long holds width columns long (All-tail (λ column. column < width) column columns inside) in
    let both = length-append (two_of holds column) (of_columns holds columns) in
    let left = length-drop (2 * column) holds in
    let two = length-take 2 (drop (2 * column) holds) in
    let short : min 2 (length (drop (2 * column) holds)) ≡ 2 = omega (arith, left, long, is) in
    omega (arith, rest, both, two, short)
