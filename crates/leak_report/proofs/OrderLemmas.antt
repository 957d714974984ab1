-- Allocators that are added one by one stand in order of number.
use Rattle.std.proofs.Common.{◌≡◌, ℕ, suc, ◌<◌, ◌==◌, List, [], ◌∷◌, Bool, true, false, All, if◌then◌else◌, cond, fold, nat_lt, get_or, refl, sym, ap, subst, ◌∙◌, arith, inl, inr, ◌⊎◌}
use Rattle.std.specs.Prelude.{count_by, insert}
use Rattle.std.specs.List.{list_any}
use Rattle.std.proofs.lemmas.Bool.{cases_Bool, cond-true, eqb-true, true≢false}
use Rattle.std.proofs.lemmas.Bool.Decides.{nat_tests}
use Rattle.std.proofs.lemmas.List.Elements.{All-cons, All-head, All-tail}
use Rattle.std.proofs.lemmas.List.Kept.{AllPairs-cons}
use Rattle.std.proofs.lemmas.List.Sums.{sum_by-cons}
use Rattle.mem_model.proofs.OpenLemmas.{count_none}
use Rattle.leak_report.specs.ReadReport.{with_allocator}
use Rattle.leak_report.specs.Report.{PrintedAllocator}
use Rattle.leak_report.proofs.MemberLemmas.{IsOf, NumbersRise, rise_behind, rise_tail}

-- whether an allocator has a smaller number than another
abbrev pub is_before : PrintedAllocator → PrintedAllocator → Bool
is_before x y = nat_lt y.number.0 x.number.0

-- whether it has the same
abbrev pub has_number_of : PrintedAllocator → PrintedAllocator → Bool
has_number_of x y = y.number.0 == x.number.0

-- those behind the first have greater numbers
behind_first : (y : PrintedAllocator) (ys : List PrintedAllocator) → NumbersRise (y ∷ ys) → All (λ z. y.number.0 < z.number.0) ys
behind_first y ys rise k d within = rise 0 (suc k) d (omega arith) (omega arith)

-- one behind another that isn't before isn't before either
not_before : (x y z : PrintedAllocator) → is_before x y ≡ false → y.number.0 < z.number.0 → is_before x z ≡ false
not_before x y z behind less = grind (arith, nat_tests)

-- an allocator that is before has a smaller number
before_less : (x y : PrintedAllocator) → is_before x y ≡ true → y.number.0 < x.number.0
before_less x y before = grind (arith, nat_tests)

-- one that isn't, and has not the same, has a greater one
behind_less : (x y : PrintedAllocator) → is_before x y ≡ false → has_number_of x y ≡ false → x.number.0 < y.number.0
behind_less x y behind other = grind (arith, nat_tests)

-- one more, before the first that has no smaller number
placed : PrintedAllocator → List PrintedAllocator → List PrintedAllocator
placed x [] = x ∷ []
placed x (y ∷ ys) = if is_before x y then y ∷ placed x ys else x ∷ y ∷ ys

-- that is where it is put, among numbers that rise
insert-placed : (x : PrintedAllocator) (xs : List PrintedAllocator) → NumbersRise xs → insert xs (count_by (is_before x) xs) x ≡ placed x xs
unfolding placed
insert-placed x [] rise = refl
insert-placed x (y ∷ ys) rise = elim (cases_Bool (is_before x y)) [
  | inl before ↦ (
      let counted : count_by (is_before x) (y ∷ ys) ≡ suc (count_by (is_before x) ys) =
      (let one : cond {A = ℕ} (is_before x y) 1 0 ≡ 1 = cond-true (is_before x y) 1 0 before in omega (arith, one, sum_by-cons (λ z. cond (is_before x z) 1 0) y ys)) in
      ap (λ k. insert (y ∷ ys) k x) counted ∙ ap (λ zs. y ∷ zs) (insert-placed x ys (rise_tail y ys rise)) ∙ rw before refl)
  | inr behind ↦ (
      let none : All (λ z. is_before x z ≡ false) (y ∷ ys) =
      All-cons (λ z. is_before x z ≡ false) y ys behind (λ k d within. not_before x y (get_or ys k d) behind (behind_first y ys rise k d within)) in
      ap (λ k. insert (y ∷ ys) k x) (count_none (is_before x) (y ∷ ys) none) ∙ rw behind refl)
]

-- what holds of it and of all holds of all then
All-placed : (P : PrintedAllocator → Type 0) (x : PrintedAllocator) (xs : List PrintedAllocator) → P x → All P xs → All P (placed x xs)
unfolding placed
All-placed P x [] here all' = All-cons P x [] here all'
All-placed P x (y ∷ ys) here all' = elim (cases_Bool (is_before x y)) [
  | inl before ↦ rw before (All-cons P y (placed x ys) (All-head P y ys all') (All-placed P x ys here (All-tail P y ys all')))
  | inr behind ↦ rw behind (All-cons P x (y ∷ ys) here all')
]

-- no allocator of a list has the number of another
abbrev LacksNumber : PrintedAllocator → List PrintedAllocator → Type 0
LacksNumber x xs = list_any (has_number_of x) xs ≡ false

-- numbers rise then, where none was the same
placed_rise : (x : PrintedAllocator) (xs : List PrintedAllocator) → NumbersRise xs → LacksNumber x xs → NumbersRise (placed x xs)
unfolding placed
placed_rise x [] rise lacks = AllPairs-cons (λ a b. a.number.0 < b.number.0) x [] (λ k d within. absurd (omega arith)) rise
placed_rise x (y ∷ ys) rise lacks = elim (cases_Bool (has_number_of x y)) [
  | inl same ↦ absurd (true≢false (rw same at lacks))
  | inr other ↦ elim (cases_Bool (is_before x y)) [
    | inl before ↦ rw before (AllPairs-cons (λ a b. a.number.0 < b.number.0) y (placed x ys)
        (All-placed (λ z. y.number.0 < z.number.0) x ys (before_less x y before) (behind_first y ys rise)) (placed_rise x ys (rise_tail y ys rise) (rw other at lacks)))
    | inr behind ↦ (
        let less = behind_less x y behind other in
        rw behind (AllPairs-cons (λ a b. a.number.0 < b.number.0) x (y ∷ ys)
        (All-cons (λ z. x.number.0 < z.number.0) y ys less (λ k d within. let more : y.number.0 < (get_or ys k d).number.0 = behind_first y ys rise k d within in omega arith)) rise))
  ]
]

-- it is one of them
of_placed : (x : PrintedAllocator) (xs : List PrintedAllocator) → IsOf x (placed x xs)
unfolding placed
of_placed x [] = inl refl
of_placed x (y ∷ ys) = elim (cases_Bool (is_before x y)) [
  | inl before ↦ rw before (inr (of_placed x ys))
  | inr behind ↦ rw behind (inl refl)
]

-- and so are the others
of_placed_old : (x z : PrintedAllocator) (xs : List PrintedAllocator) → IsOf z xs → IsOf z (placed x xs)
unfolding placed
of_placed_old x z [] of = absurd of
of_placed_old x z (y ∷ ys) of = elim (cases_Bool (is_before x y)) [
  | inl before ↦ rw before (elim of [ inl same ↦ inl same | inr later ↦ inr (of_placed_old x z ys later) ])
  | inr behind ↦ rw behind (inr of)
]

-- and nothing else is
from_placed : (x z : PrintedAllocator) (xs : List PrintedAllocator) → IsOf z (placed x xs) → (z ≡ x) ⊎ IsOf z xs
unfolding placed
from_placed x z [] (inl same) = inl same
from_placed x z [] (inr none) = absurd none
from_placed x z (y ∷ ys) of = elim (cases_Bool (is_before x y)) [
  | inl before ↦ elim (rw before at of) [
    | inl same ↦ inr (inl same)
    | inr later ↦ elim (from_placed x z ys later) [ inl same ↦ inl same | inr old ↦ inr (inr old) ]
  ]
  | inr behind ↦ rw behind at of
]

-- one that has the number is there
found_number : (x : PrintedAllocator) (xs : List PrintedAllocator) → list_any (has_number_of x) xs ≡ true → (y : PrintedAllocator) × IsOf y xs × (y.number.0 ≡ x.number.0)
found_number x [] found = absurd cc
found_number x (y ∷ ys) found = elim (cases_Bool (has_number_of x y)) [
  | inl here ↦ (y, inl refl, eqb-true y.number.0 x.number.0 here)
  | inr other ↦ (let rest = found_number x ys (rw other at found) in (rest.0, inr rest.1, rest.2))
]

-- what is put among numbers that rise
with_allocator-new : (xs : List PrintedAllocator) (x : PrintedAllocator) → NumbersRise xs → LacksNumber x xs → with_allocator xs x ≡ placed x xs
with_allocator-new xs x rise lacks = rw lacks (insert-placed x xs rise)

-- where the number is there, nothing is
with_allocator-old : (xs : List PrintedAllocator) (x : PrintedAllocator) → list_any (has_number_of x) xs ≡ true → with_allocator xs x ≡ xs
with_allocator-old xs x found = rw found refl

-- numbers rise with one more
with_allocator-rise : (xs : List PrintedAllocator) (x : PrintedAllocator) → NumbersRise xs → NumbersRise (with_allocator xs x)
with_allocator-rise xs x rise = elim (cases_Bool (list_any (has_number_of x) xs)) [
  | inl found ↦ subst NumbersRise (sym (with_allocator-old xs x found)) rise
  | inr lacks ↦ subst NumbersRise (sym (with_allocator-new xs x rise lacks)) (placed_rise x xs rise lacks)
]

-- none is lost
with_allocator-keeps : (xs : List PrintedAllocator) (x z : PrintedAllocator) → NumbersRise xs → IsOf z xs → IsOf z (with_allocator xs x)
with_allocator-keeps xs x z rise of = elim (cases_Bool (list_any (has_number_of x) xs)) [
  | inl found ↦ subst (IsOf z) (sym (with_allocator-old xs x found)) of
  | inr lacks ↦ subst (IsOf z) (sym (with_allocator-new xs x rise lacks)) (of_placed_old x z xs of)
]

-- and none but it comes
with_allocator-from : (xs : List PrintedAllocator) (x z : PrintedAllocator) → NumbersRise xs → IsOf z (with_allocator xs x) → (z ≡ x) ⊎ IsOf z xs
with_allocator-from xs x z rise of = elim (cases_Bool (list_any (has_number_of x) xs)) [
  | inl found ↦ inr (subst (IsOf z) (with_allocator-old xs x found) of)
  | inr lacks ↦ from_placed x z xs (subst (IsOf z) (with_allocator-new xs x rise lacks) of)
]

-- it comes, where none but it has its number
with_allocator-adds : (xs : List PrintedAllocator) (x : PrintedAllocator) → NumbersRise xs → ((y : PrintedAllocator) → IsOf y xs → y.number.0 ≡ x.number.0 → y ≡ x) → IsOf x (with_allocator xs x)
with_allocator-adds xs x rise alone = elim (cases_Bool (list_any (has_number_of x) xs)) [
  | inl found ↦ (
      let there = found_number x xs found in
      let same : there.0 ≡ x = alone there.0 there.1 there.2 in
      subst (IsOf x) (sym (with_allocator-old xs x found)) (subst (λ y. IsOf y xs) same there.1))
  | inr lacks ↦ subst (IsOf x) (sym (with_allocator-new xs x rise lacks)) (of_placed x xs)
]

-- numbers rise when some are added
pub added_rise : (xs news : List PrintedAllocator) → NumbersRise xs → NumbersRise (fold with_allocator xs news)
added_rise xs [] rise = rise
added_rise xs (x ∷ news) rise = added_rise (with_allocator xs x) news (with_allocator-rise xs x rise)

-- none but these come
pub added_from : (z : PrintedAllocator) (xs news : List PrintedAllocator) → NumbersRise xs → IsOf z (fold with_allocator xs news) → IsOf z xs ⊎ IsOf z news
added_from z xs [] rise of = inl of
added_from z xs (x ∷ news) rise of = elim (added_from z (with_allocator xs x) news (with_allocator-rise xs x rise) of) [
  | inl among ↦ elim (with_allocator-from xs x z rise among) [ inl same ↦ inr (inl same) | inr old ↦ inl old ]
  | inr later ↦ inr (inr later)
]

-- none is lost
added_keep : (z : PrintedAllocator) (xs news : List PrintedAllocator) → NumbersRise xs → IsOf z xs → IsOf z (fold with_allocator xs news)
added_keep z xs [] rise of = of
added_keep z xs (x ∷ news) rise of = added_keep z (with_allocator xs x) news (with_allocator-rise xs x rise) (with_allocator-keeps xs x z rise of)

-- each of them comes, where none but it has its number
pub added_new : (z : PrintedAllocator) (xs news : List PrintedAllocator) → NumbersRise xs → ((y : PrintedAllocator) → IsOf y xs → y.number.0 ≡ z.number.0 → y ≡ z)
    → ((y : PrintedAllocator) → IsOf y news → y.number.0 ≡ z.number.0 → y ≡ z) → IsOf z news → IsOf z (fold with_allocator xs news)
added_new z xs [] rise alone alone' of = absurd of
added_new z xs (x ∷ news) rise alone alone' (inl same) =
    let here : IsOf z (with_allocator xs x) = subst (λ y. IsOf z (with_allocator xs y)) same (with_allocator-adds xs z rise alone) in
    added_keep z (with_allocator xs x) news (with_allocator-rise xs x rise) here
added_new z xs (x ∷ news) rise alone alone' (inr later) =
    added_new z (with_allocator xs x) news (with_allocator-rise xs x rise)
    (λ y among number. elim (with_allocator-from xs x y rise among) [ inl same ↦ alone' y (inl same) number | inr old ↦ alone y old number ])
    (λ y among number. alone' y (inr among) number) later

-- among numbers that rise, none but it has its number
pub one_number : (xs : List PrintedAllocator) (x y : PrintedAllocator) → NumbersRise xs → IsOf x xs → IsOf y xs → y.number.0 ≡ x.number.0 → y ≡ x
one_number [] x y rise of of' number = absurd of
one_number (z ∷ zs) x y rise (inl same) (inl same') number = same' ∙ sym same
one_number (z ∷ zs) x y rise (inl same) (inr later) number =
    let less : z.number.0 < y.number.0 = rise_behind z y zs rise later in
    let here : x.number.0 ≡ z.number.0 = ap (λ (a : PrintedAllocator). a.number.0) same in
    absurd (omega arith)
one_number (z ∷ zs) x y rise (inr later) (inl same) number =
    let less : z.number.0 < x.number.0 = rise_behind z x zs rise later in
    let here : y.number.0 ≡ z.number.0 = ap (λ (a : PrintedAllocator). a.number.0) same in
    absurd (omega arith)
one_number (z ∷ zs) x y rise (inr later) (inr later') number = one_number zs x y (rise_tail z zs rise) later later' number
