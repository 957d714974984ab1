-- Sums of charges.
use Rattle.std.proofs.Common.{◌≡◌, ℕ, ◌+◌, ◌<◌, ◌≤◌, List, length, get_or, drop, Bool, cond, eqb, sym, ap, ◌∙◌, arith}
use Rattle.std.proofs.lemmas.List.{drop_all}
use Rattle.std.proofs.lemmas.Bool.{cond_both}
use Rattle.std.proofs.lemmas.List.Sums.{sum_by-drop_more, sum_by-le-sum_by}
use Rattle.std.specs.List.{sum_by}
use Rattle.mem_model.specs.declared.charge.Charge.{Charge}
use Rattle.mem_model.specs.Charge.{amount_at, charged_at}

-- one allocator is charged no more than all charges
pub charged_at-le-amounts : (charges : List Charge) (n : ℕ) → charged_at charges n ≤ sum_by (λ charge. charge.amount) charges
charged_at-le-amounts charges n =
    sum_by-le-sum_by (amount_at n) (λ charge. charge.amount) charges (λ charge. cond_both (eqb charge.at.0 n) charge.amount 0 (λ amount. amount ≤ charge.amount) (λ _. omega arith) (λ _. omega arith))

-- past the last charge nothing is charged
pub charged_at-drop_all : (charges : List Charge) (i n : ℕ) → length charges ≤ i → charged_at (drop i charges) n ≡ 0
charged_at-drop_all charges i n past = ap (λ rest. charged_at rest n) (drop_all i charges past)

-- the charge at i and the later ones, where it is known whether that one is at n
pub charged_at-drop : (charges : List Charge) (i n : ℕ) (d : Charge) (here : Bool) → i < length charges → here ≡ eqb (get_or charges i d).at.0 n
    → charged_at (drop i charges) n ≡ cond here (get_or charges i d).amount 0 + charged_at (drop (i + 1) charges) n
charged_at-drop charges i n d here within is =
    sum_by-drop_more (amount_at n) charges i d within ∙ ap (λ b. cond b (get_or charges i d).amount 0 + charged_at (drop (i + 1) charges) n) (sym is)
