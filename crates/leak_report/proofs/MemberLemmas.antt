-- The lines of a tree of allocators have all of them, so they tell the list in order of number.
use Rattle.std.proofs.Common.{◌≡◌, suc, ◌<◌, List, [], ◌∷◌, ◌++◌, true, All, AllPairs, Option, Some, None, is_none, refl, sym, ap, subst, ◌∙◌, arith, inl, inr, ◌⊎◌}
use Rattle.std.proofs.lemmas.Bool.{cases_Bool, eq-eqb}
use Rattle.std.proofs.lemmas.List.Elements.{All-head, All-tail}
use Rattle.mem_num.specs.declared.alloc_id.AllocId.{AllocId}
use Rattle.leak_report.specs.Report.{PrintedAllocator, has_parent}
use Rattle.leak_report.proofs.ParentLemmas.{in_line_order}

-- x is one of a list
abbrev pub IsOf : PrintedAllocator → List PrintedAllocator → Type 0
IsOf x [] = ⊥
IsOf x (y ∷ ys) = (x ≡ y) ⊎ IsOf x ys

-- one of the first list is one of both
of_left : (x : PrintedAllocator) (xs ys : List PrintedAllocator) → IsOf x xs → IsOf x (xs ++ ys)
of_left x [] ys of = absurd of
of_left x (y ∷ xs) ys (inl same) = inl same
of_left x (y ∷ xs) ys (inr of) = inr (of_left x xs ys of)

-- so is one of the second
of_right : (x : PrintedAllocator) (xs ys : List PrintedAllocator) → IsOf x ys → IsOf x (xs ++ ys)
of_right x [] ys of = of
of_right x (y ∷ xs) ys of = inr (of_right x xs ys of)

-- and one of both is one of either
of_cases : (x : PrintedAllocator) (xs ys : List PrintedAllocator) → IsOf x (xs ++ ys) → IsOf x xs ⊎ IsOf x ys
of_cases x [] ys of = inr of
of_cases x (y ∷ xs) ys (inl same) = inl (inl same)
of_cases x (y ∷ xs) ys (inr of) = elim (of_cases x xs ys of) [ inl first ↦ inl (inr first) | inr second ↦ inr second ]

-- what holds of all holds of it
pub All-of : (P : PrintedAllocator → Type 0) (x : PrintedAllocator) (xs : List PrintedAllocator) → All P xs → IsOf x xs → P x
All-of P x [] all' of = absurd of
All-of P x (y ∷ xs) all' (inl same) = subst P (sym same) (All-head P y xs all')
All-of P x (y ∷ xs) all' (inr of) = All-of P x xs (All-tail P y xs all') of

-- numbers rise along the list
abbrev pub NumbersRise : List PrintedAllocator → Type 0
NumbersRise xs = AllPairs (λ older newer. older.number.0 < newer.number.0) xs

-- those behind the first have greater numbers
pub rise_behind : (x y : PrintedAllocator) (xs : List PrintedAllocator) → NumbersRise (x ∷ xs) → IsOf y xs → x.number.0 < y.number.0
rise_behind x y xs rise of = All-of (λ z. x.number.0 < z.number.0) y xs (λ k d within. rise 0 (suc k) d (omega arith) (omega arith)) of

-- and rise
pub rise_tail : (x : PrintedAllocator) (xs : List PrintedAllocator) → NumbersRise (x ∷ xs) → NumbersRise xs
rise_tail x xs rise i j d less within = rise (suc i) (suc j) d (omega arith) (omega arith)

-- an allocator that has its own line is of the list
pub from_order : (x : PrintedAllocator) (xs : List PrintedAllocator) (parent : Option AllocId) → IsOf x (in_line_order xs parent) → IsOf x xs
from_order x [] parent of = absurd of
from_order x (y ∷ later) parent of = elim (cases_Bool (has_parent parent y)) [
  | inl child ↦ elim (rw child at of) [
    | inl same ↦ inl same
    | inr behind ↦ inr (elim (of_cases x (in_line_order later (Some y.number)) (in_line_order later parent) behind) [
      | inl below ↦ from_order x later (Some y.number) below
      | inr rest ↦ from_order x later parent rest
    ])
  ]
  | inr other ↦ inr (from_order x later parent (rw other at of))
]

-- it has this parent
has_own_parent : (x : PrintedAllocator) (parent : Option AllocId) → x.parent ≡ parent → has_parent parent x ≡ true
has_own_parent x None is = ap is_none is
has_own_parent x (Some p) is = rw is (eq-eqb p.0 p.0 refl)

-- each with this parent has its line
pub children_of : (x : PrintedAllocator) (xs : List PrintedAllocator) (parent : Option AllocId) → x.parent ≡ parent → IsOf x xs → IsOf x (in_line_order xs parent)
children_of x [] parent is of = absurd of
children_of x (y ∷ later) parent is (inl same) =
    let child : has_parent parent y ≡ true = has_own_parent y parent (ap (λ (z : PrintedAllocator). z.parent) (sym same) ∙ is) in
    rw child (inl same)
children_of x (y ∷ later) parent is (inr of) =
    let rest = children_of x later parent is of in
    elim (cases_Bool (has_parent parent y)) [
      | inl child ↦ rw child (inr (of_right x (in_line_order later (Some y.number)) (in_line_order later parent) rest))
      | inr other ↦ rw other rest
    ]

-- a child of one with a line has its line
pub order_closed : (x y : PrintedAllocator) (xs : List PrintedAllocator) (parent : Option AllocId) → NumbersRise xs → IsOf x (in_line_order xs parent) → IsOf y xs → y.parent ≡ Some x.number → x.number.0 < y.number.0
    → IsOf y (in_line_order xs parent)
order_closed x y [] parent rise of among is older = absurd of
order_closed x y (z ∷ later) parent rise of (inl same) is older =
    elim (from_order x (z ∷ later) parent of) [
      | inl it ↦ (let less : y.number.0 ≡ x.number.0 = ap (λ (a : PrintedAllocator). a.number.0) (same ∙ sym it) in absurd (omega arith))
      | inr behind ↦ (
          let less : z.number.0 < x.number.0 = rise_behind z x later rise behind in
          let here : y.number.0 ≡ z.number.0 = ap (λ (a : PrintedAllocator). a.number.0) same in
          absurd (omega arith))
    ]
order_closed x y (z ∷ later) parent rise of (inr among) is older =
    let rise' = rise_tail z later rise in
    let below = in_line_order later (Some z.number) in
    let others = in_line_order later parent in
    elim (cases_Bool (has_parent parent z)) [
      | inl child ↦ rw child (inr (elim (rw child at of) [
        | inl it ↦ of_left y below others (children_of y later (Some z.number) (is ∙ ap (λ (a : PrintedAllocator). let n : Option AllocId = Some a.number in n) it) among)
        | inr behind ↦ elim (of_cases x below others behind) [
          | inl first ↦ of_left y below others (order_closed x y later (Some z.number) rise' first among is older)
          | inr second ↦ of_right y below others (order_closed x y later parent rise' second among is older)
        ]
      ]))
      | inr other ↦ rw other (order_closed x y later parent rise' (rw other at of) among is older)
    ]
