-- Sums to which numbers are added, one by one.
use Rattle.std.proofs.Common.{◌≡◌, ℕ, ℤ, ◌+◌, ◌-◌, ◌<◌, ◌≤◌, ◌+ℤ◌, zero, suc, List, [], ◌∷◌, ◌++◌, length, take, drop, map, get_or, Bool}
use Rattle.std.proofs.Common.{true, false}
use Rattle.std.proofs.Common.{refl, sym, ap, ◌∙◌, subst, arith, to_z, of_z}
use Rattle.std.specs.Prelude.{FitsSigned, pos, negsuc, if◌then◌else◌}
use Rattle.std.specs.Int.{w64, w128}
use Rattle.std.proofs.Math.ListN.{replicate, set}
use Rattle.std.proofs.Math.Numerals.{add-one}
use Rattle.std.proofs.Math.Seq.{drop-cons}
use Rattle.std.proofs.lemmas.Bool.{false≢true}
use Rattle.std.proofs.lemmas.Int.{to_z-of_z}
use Rattle.std.proofs.lemmas.List.{drop_all, set-get_or, take_all}
use borrow.Author.Rules.{sfits_of}
use Rattle.query_model.specs.Cells.{IsOfKind, IsSum}
use Rattle.query_model.specs.declared.cell.Cell.{Cell}
use Rattle.query_model.specs.declared.cell.Cell.TheVariants.{Null, Int, Sum, Text}
use Rattle.query_model.specs.declared.kind.Kind.TheVariants as kind
use Rattle.row_text.specs.Stored.{numbers}
use Rattle.row_text.proofs.PrintLemmas.{number-at}
use Rattle.operators.specs.Adding.{CanAdd, with_cell, with_cell_at, with_cells, with_number}

-- a number is added to a sum that is known
pub add-known : (sums : List ℤ) (seen : List Bool) (place : ℕ) (d n : ℤ) → length sums ≡ length seen → place < length sums
    → get_or seen place false ≡ true
    → numbers Sum (set sums place (get_or sums place d +ℤ n)) seen
    ≡ set (numbers Sum sums seen) place (with_number (get_or (numbers Sum sums seen) place Null) n)
unfolding numbers
add-known [] seen place d n same within known = absurd (omega arith)
add-known (s ∷ ss) [] place d n same within known = absurd (omega arith)
add-known (s ∷ ss) (true ∷ ms) zero d n same within known = refl
add-known (s ∷ ss) (false ∷ ms) zero d n same within known = absurd (false≢true known)
add-known (s ∷ ss) (m ∷ ms) (suc place) d n same within known =
    ap (λ rest. (if m then Sum s else Null) ∷ rest) (add-known ss ms place d n (omega arith) (omega arith) known)

-- a number is the first of its sum
pub add-first : (sums : List ℤ) (seen : List Bool) (place : ℕ) (n : ℤ) → length sums ≡ length seen → place < length sums
    → get_or seen place false ≡ false
    → numbers Sum (set sums place n) (set seen place true)
    ≡ set (numbers Sum sums seen) place (with_number (get_or (numbers Sum sums seen) place Null) n)
unfolding numbers
add-first [] seen place n same within known = absurd (omega arith)
add-first (s ∷ ss) [] place n same within known = absurd (omega arith)
add-first (s ∷ ss) (true ∷ ms) zero n same within known = absurd (false≢true (sym known))
add-first (s ∷ ss) (false ∷ ms) zero n same within known = refl
add-first (s ∷ ss) (m ∷ ms) (suc place) n same within known =
    ap (λ rest. (if m then Sum s else Null) ∷ rest) (add-first ss ms place n (omega arith) (omega arith) known)

-- the cells of the first places were added, and the others can be
pub record IsAdding (old now : List Cell) (places : List ℕ) (cells : List Cell) (i : ℕ) : Type 0 where
  pub left : with_cells now (drop i places) (drop i cells) ≡ with_cells old places cells
  pub room : CanAdd now (drop i places) (drop i cells)

pub IsAdding-none : (old : List Cell) (places : List ℕ) (cells : List Cell) → CanAdd old places cells → IsAdding old old places cells 0
IsAdding-none old places cells room = record { left = refl; room = room }

module _ (old now : List Cell) (places : List ℕ) (cells : List Cell) (i : ℕ) (adding : IsAdding old now places cells i)
    (within : i < length places) (same : length places ≡ length cells) where
  next-place : drop i places ≡ get_or places i 0 ∷ drop (i + 1) places
  next-place = drop-cons places i 0 within ∙ ap (λ n. get_or places i 0 ∷ drop n places) (sym (add-one i))

  next-cell : drop i cells ≡ get_or cells i Null ∷ drop (i + 1) cells
  next-cell =
      drop-cons cells i Null (omega (arith, within, same)) ∙ ap (λ n. get_or cells i Null ∷ drop n cells) (sym (add-one i))

  next-room : CanAdd now (get_or places i 0 ∷ drop (i + 1) places) (get_or cells i Null ∷ drop (i + 1) cells)
  next-room = subst (λ list. CanAdd now list (get_or cells i Null ∷ drop (i + 1) cells)) next-place
      (subst (CanAdd now (drop i places)) next-cell adding.room)

  -- there is room for the next one
  pub room-next : IsOfKind kind.Sum (with_cell (get_or now (get_or places i 0) Null) (get_or cells i Null))
  unfolding CanAdd
  room-next = next-room.0

  -- and for those after it
  pub IsAdding-one : (next : List Cell) → next ≡ with_cell_at now (get_or places i 0) (get_or cells i Null)
      → IsAdding old next places cells (i + 1)
  unfolding CanAdd with_cells
  IsAdding-one next is = record {
    left = ap (λ sums. with_cells sums (drop (i + 1) places) (drop (i + 1) cells)) is
        ∙ sym (λ k. with_cells now (next-place k) (next-cell k)) ∙ adding.left;
    room = subst (λ sums. CanAdd sums (drop (i + 1) places) (drop (i + 1) cells)) (sym is) next-room.1;
  }

  -- a number is added to its sum
  pub room-number : (n : ℤ) → ((sum : Cell) → with_cell sum (get_or cells i Null) ≡ with_number sum n)
      → IsOfKind kind.Sum (with_number (get_or now (get_or places i 0) Null) n)
  room-number n is = subst (IsOfKind kind.Sum) (is (get_or now (get_or places i 0) Null)) room-next

  pub IsAdding-number : (n : ℤ) (next : List Cell) → ((sum : Cell) → with_cell sum (get_or cells i Null) ≡ with_number sum n)
      → next ≡ set now (get_or places i 0) (with_number (get_or now (get_or places i 0) Null) n)
      → IsAdding old next places cells (i + 1)
  IsAdding-number n next is set_is =
      IsAdding-one next (set_is ∙ ap (set now (get_or places i 0)) (sym (is (get_or now (get_or places i 0) Null))))

  -- a null changes nothing
  pub IsAdding-null : get_or cells i Null ≡ Null → IsAdding old now places cells (i + 1)
  IsAdding-null null =
      IsAdding-one now (sym (ap (λ cell. with_cell_at now (get_or places i 0) cell) null ∙ set-get_or now (get_or places i 0) Null))

pub IsAdding-all : (old now : List Cell) (places : List ℕ) (cells : List Cell) (i : ℕ) → IsAdding old now places cells i
    → length places ≤ i → now ≡ with_cells old places cells
unfolding with_cells
IsAdding-all old now places cells i adding behind =
    sym (ap (λ list. with_cells now list (drop i cells)) (drop_all i places behind)) ∙ adding.left

-- sums that aren't known are nulls
pub grown : (values : List ℤ) (known : List Bool) (more : ℕ) (n : ℤ) → length values ≡ length known
    → numbers Sum (values ++ replicate more n) (known ++ replicate more false) ≡ numbers Sum values known ++ replicate more Null
unfolding numbers
grown [] [] zero n same = refl
grown [] [] (suc more) n same = ap (λ rest. Null ∷ rest) (grown [] [] more n same)
grown [] (m ∷ ms) more n same = absurd (omega arith)
grown (v ∷ vs) [] more n same = absurd (omega arith)
grown (v ∷ vs) (m ∷ ms) more n same = ap (λ rest. (if m then Sum v else Null) ∷ rest) (grown vs ms more n (omega arith))

-- a number of 128 bits
pub sum-fits : (n : ℤ) → IsSum n → FitsSigned w128 n
sum-fits (pos n) h = sfits_of h
sum-fits (negsuc n) h = sfits_of h

-- no sums
pub no-sums : numbers Sum [] [] ≡ []
unfolding numbers
no-sums = refl

wider : (n : ℤ) → FitsSigned w64 n → FitsSigned w128 n
wider (pos n) h = sfits_of (omega (arith, h.sfits))
wider (negsuc n) h = sfits_of (omega (arith, h.sfits))

-- a number of 64 bits is the same in 128
pub widened : (n : ℤ) → FitsSigned w64 n → to_z w128 (of_z w128 (to_z w64 (of_z w64 n))) ≡ n
widened n fits = ap (λ m. to_z w128 (of_z w128 m)) (to_z-of_z w64 n fits) ∙ to_z-of_z w128 n (wider n fits)

module _ (values : List ℤ) (known : List Bool) (i : ℕ) (number : ℤ) (same : length values ≡ length known) (within : i < length values)
    (is : number ≡ get_or values i (pos 0)) where
  -- a number that is known is added as it is
  pub int-added : get_or known i false ≡ true → (sum : Cell) → with_cell sum (get_or
      (numbers Int values known) i Null) ≡ with_number sum number
  int-added marked sum =
      ap (with_cell sum) (number-at Int values known i (pos 0) same within
      ∙ ap (λ mark. if mark then Int (get_or values i (pos 0)) else Null) marked) ∙ ap (with_number sum) (sym is)

  pub sum-added : get_or known i false ≡ true → (sum : Cell) → with_cell sum (get_or
      (numbers Sum values known) i Null) ≡ with_number sum number
  sum-added marked sum =
      ap (with_cell sum) (number-at Sum values known i (pos 0) same within
      ∙ ap (λ mark. if mark then Sum (get_or values i (pos 0)) else Null) marked) ∙ ap (with_number sum) (sym is)

-- one that isn't is a null
pub unknown-null : {N : Type 0} (make : N → Cell) (values : List N) (known : List Bool) (i : ℕ) (d : N) → length values ≡ length known
    → i < length values → get_or known i false ≡ false → get_or (numbers make values known) i Null ≡ Null
unknown-null make values known i d same within unmarked =
    number-at make values known i d same within ∙ ap (λ mark. if mark then make (get_or values i d) else Null) unmarked

-- texts add nothing
pub texts-unadded : (sums : List Cell) (places : List ℕ) (list : List (List ℕ)) → sums ≡ with_cells sums places (map Text list)
unfolding with_cells
texts-unadded sums [] list = refl
texts-unadded sums (place ∷ places) [] = refl
texts-unadded sums (place ∷ places) (text ∷ list) =
    let same : sums ≡ with_cell_at sums place (Text text) = sym (set-get_or sums place Null) in
    texts-unadded sums places list ∙ ap (λ all. with_cells all places (map Text list)) same

pub grown-both : (values values2 : List ℤ) (known known2 : List Bool) (count : ℕ) → length values ≡ length known → length values ≤ count
    → values2 ≡ take count values ++ replicate (count - length values) (pos 0)
    → known2 ≡ take count known ++ replicate (count - length known) false
    → numbers Sum values2 known2 ≡ numbers Sum values known ++ replicate (count - length values) Null
grown-both values values2 known known2 count same more e f =
    let one = e ∙ ap (λ list. list ++ replicate (count - length values) (pos 0)) (take_all count values more) in
    let two = f ∙ ap (λ list. list ++ replicate (count - length known) false) (take_all count known (omega (arith, same, more)))
    ∙ ap (λ n. known ++ replicate (count - n) false) (sym same) in
    (λ k. numbers Sum (one k) (two k)) ∙ grown values known (count - length values) (pos 0) same
