-- Lists of which the first elements are new.
use Rattle.std.proofs.Common.{◌≡◌, ℕ, ◌+◌, ◌-◌, ◌<◌, ◌≤◌, zero, suc, List, [], ◌∷◌, ◌++◌, length, take, drop, get_or, refl, sym, ap, ◌∙◌}
use Rattle.std.proofs.Common.{arith}
use Rattle.std.proofs.Math.ListN.{replicate, set}
use Rattle.std.proofs.Math.Numerals.{add-one}
use Rattle.std.proofs.lemmas.List.{append-nil, drop_all, take_all}
use Rattle.query_model.specs.Cells.{column_of}
use Rattle.query_model.specs.declared.cell.Cell.{Cell}
use Rattle.query_model.specs.declared.cell.Cell.TheVariants.{Null}
use Rattle.operators.specs.Adding.{CanAdd, CanAddAll, all_added, with_cells}

-- the next element is the old one
pub mixed-at : {X : Type 0} (new old : List X) (i : ℕ) (d : X) → length new ≡ length old → i < length old
    → get_or (take i new ++ drop i old) i d ≡ get_or old i d
mixed-at new old zero d same within = refl
mixed-at [] old (suc i) d same within = absurd (omega arith)
mixed-at (n ∷ new) [] (suc i) d same within = absurd (omega arith)
mixed-at (n ∷ new) (o ∷ old) (suc i) d same within = mixed-at new old i d (omega arith) (omega arith)

mixed-suc : {X : Type 0} (new old : List X) (i : ℕ) (x d : X) → length new ≡ length old → i < length old → x ≡ get_or new i d
    → set (take i new ++ drop i old) i x ≡ take (suc i) new ++ drop (suc i) old
mixed-suc [] old i x d same within is = absurd (omega arith)
mixed-suc (n ∷ new) [] i x d same within is = absurd (omega arith)
mixed-suc (n ∷ new) (o ∷ old) zero x d same within is = ap (λ one. one ∷ old) is
mixed-suc (n ∷ new) (o ∷ old) (suc i) x d same within is = ap (λ rest. n ∷ rest) (mixed-suc new old i x d (omega arith) (omega arith) is)

-- and becomes the new one
pub mixed-set : {X : Type 0} (new old : List X) (i : ℕ) (x d : X) → length new ≡ length old → i < length old → x ≡ get_or new i d
    → set (take i new ++ drop i old) i x ≡ take (i + 1) new ++ drop (i + 1) old
mixed-set new old i x d same within is =
    mixed-suc new old i x d same within is ∙ ap (λ n. take n new ++ drop n old) (sym (add-one i))

-- all elements are new
pub mixed-all : {X : Type 0} (new old : List X) (i : ℕ) → length new ≡ length old → length old ≤ i → take i new ++ drop i old ≡ new
mixed-all new old i same behind =
    (λ k. take_all i new (omega (arith, same, behind)) k ++ drop_all i old behind k) ∙ append-nil new

front : {X : Type 0} (xs ys : List X) → take (length xs) (xs ++ ys) ≡ xs
front [] ys = refl
front (x ∷ xs) ys = ap (λ rest. x ∷ rest) (front xs ys)

-- a slice of a whole vector becomes the vector
pub whole-slice : {X : Type 0} (n : ℕ) (new old : List X) → length new ≡ n → take n (new ++ drop (length new) old) ≡ new
whole-slice n new old same = ap (λ m. take m (new ++ drop (length new) old)) (sym same) ∙ front new (drop (length new) old)

module _ (count : ℕ) (places : List ℕ) (rows : List (List Cell)) where
  -- a sum that grew has a null for each group that is new
  abbrev pub grown_sum : List Cell → List Cell
  grown_sum sum = sum ++ replicate (count - length sum) Null

  pub all-long : (columns : List ℕ) (sums : List (List Cell)) → length sums ≡ length columns
      → length (all_added count places rows columns sums) ≡ length sums
  unfolding all_added
  all-long [] [] same = refl
  all-long [] (s ∷ sums) same = absurd (omega arith)
  all-long (c ∷ columns) [] same = refl
  all-long (c ∷ columns) (s ∷ sums) same = ap suc (all-long columns sums (omega arith))

  -- the sums of a column
  pub all-at : (columns : List ℕ) (sums : List (List Cell)) (i : ℕ) (d : List Cell) → length sums ≡ length columns → i < length columns
      → get_or (all_added count places rows columns sums) i d ≡ with_cells (grown_sum (get_or sums i d)) places (column_of
      (get_or columns i 0) rows)
  unfolding all_added
  all-at [] sums i d same within = absurd (omega arith)
  all-at (c ∷ columns) [] i d same within = absurd (omega arith)
  all-at (c ∷ columns) (s ∷ sums) zero d same within = refl
  all-at (c ∷ columns) (s ∷ sums) (suc i) d same within = all-at columns sums i d (omega arith) (omega arith)

  pub room-at : (columns : List ℕ) (sums : List (List Cell)) (i : ℕ) (d : List Cell) → CanAddAll count places rows columns sums
      → length sums ≡ length columns → i < length columns → CanAdd (grown_sum (get_or sums i d)) places (column_of
      (get_or columns i 0) rows)
  unfolding CanAddAll
  room-at [] sums i d room same within = absurd (omega arith)
  room-at (c ∷ columns) [] i d room same within = absurd (omega arith)
  room-at (c ∷ columns) (s ∷ sums) zero d room same within = room.0
  room-at (c ∷ columns) (s ∷ sums) (suc i) d room same within = room-at columns sums i d room.1 (omega arith) (omega arith)
