-- Weights over all views, where a token's view is cut in two, takes in another, or changes.
use Rattle.std.proofs.Common.{zero, suc, ◌≡◌, ℕ, ◌+◌, ◌≤◌, List, [], ◌∷◌, ◌++◌, set, refl, sym, ap, subst, arith, sum_by, All}
use mathlib.Core.Option.{some, some-injective, some-ne-none}
use lib.ListN.{get_elem?}
use Rattle.std.proofs.lemmas.List.Elements.{All-head, All-tail}
use Rattle.std.proofs.lemmas.List.Sums.{sum_by-append, sum_by-cons, sum_by_push}
use Rattle.acct_core.specs.Claims.{Claim}
use Rattle.acct_words.specs.Entries.{Entry}
use Rattle.acct_words.specs.Views.{Body, View}
use Rattle.acct_words.specs.Bodies.{plus, left, right, both, spent, of_view, total, IsWeight, made, bytes_left, turns_left, charging}
use Rattle.acct_words.specs.Bodies.{chunk_sizes, numbered}

module _ {A : Type 0} where
  -- a sum after a change of one place
  pub sum_set : (f : A → ℕ) (xs : List A) (id : ℕ) (v w : A) → get_elem? xs id ≡ some v → sum_by f (set xs id w) + f v ≡ sum_by f xs + f w
  sum_set f [] id v w at = absurd (some-ne-none v (sym at))
  sum_set f (x ∷ xs) zero v w at = let e = ap f (some-injective x v at) in let p = sum_by-cons f w xs in let q = sum_by-cons f x xs in
      omega arith
  sum_set f (x ∷ xs) (suc id) v w at = let r = sum_set f xs id v w at in let p = sum_by-cons f x (set xs id w) in let q =
      sum_by-cons f x xs in omega arith

  -- one place is at most the sum
  pub at_most : (f : A → ℕ) (xs : List A) (id : ℕ) (v : A) → get_elem? xs id ≡ some v → f v ≤ sum_by f xs
  at_most f [] id v at = absurd (some-ne-none v (sym at))
  at_most f (x ∷ xs) zero v at = let e = ap f (some-injective x v at) in let q = sum_by-cons f x xs in omega arith
  at_most f (x ∷ xs) (suc id) v at = let r = at_most f xs id v at in let q = sum_by-cons f x xs in omega arith

-- what holds of all holds of the one at a place
pub all_there : {A : Type 0} (P : A → Type 0) (xs : List A) (i : ℕ) (x : A) → All P xs → get_elem? xs i ≡ some x → P x
all_there P [] i x h at = absurd (some-ne-none x (sym at))
all_there P (y ∷ ys) zero x h at = subst P (some-injective y x at) (All-head P y ys h)
all_there P (y ∷ ys) (suc i) x h at = all_there P ys i x (All-tail P y ys h) at

-- a weight after a change of one view
pub total_set : (f : Body → ℕ) (views : List View) (id : ℕ) (v w : View) → get_elem? views id ≡ some v →
    total f (set views id w) + of_view f v ≡ total f views + of_view f w
total_set f views id v w at = sum_set (of_view f) views id v w at

-- a split keeps each weight
pub total_cut : (f : Body → ℕ) → IsWeight f → (views : List View) (id : ℕ) (v : View) → get_elem? views id ≡ some v →
    total f (set views id (left v) ++ right v ∷ []) ≡ total f views
total_cut f h views id v at =
    let t = total_set f views id v (left v) at in
    let p = sum_by_push (of_view f) (set views id (left v)) (right v) in
    let n = h.none in
    let q = h.shown v.offer (v.offer.observed ++ (v.own.own_steps ++ v.own.observed)) in
    omega arith

-- and so does a join
pub total_join : (f : Body → ℕ) → IsWeight f → (views : List View) (id other : ℕ) (v w : View) → get_elem? views id ≡ some v →
    get_elem? (set views id (both v w)) other ≡ some w → total f (set (set views id (both v w)) other spent) ≡ total f views
total_join f h views id other v w at at' =
    let t = total_set f views id v (both v w) at in
    let u = total_set f (set views id (both v w)) other w spent at' in
    let n = h.none in
    let a = h.together v.own (plus w.own w.offer) in
    let b = h.together w.own w.offer in
    omega arith

-- what the rule weighs
pub made_weighs : (f : Entry → ℕ) → IsWeight (made f)
made_weighs f = record { none = refl; together = λ a b. sum_by-append f a.own_steps b.own_steps; shown = λ b steps. refl }

pub bytes_weigh : IsWeight bytes_left
bytes_weigh = record { none = refl; together = λ a b. refl; shown = λ b steps. refl }

pub turns_weigh : IsWeight turns_left
turns_weigh = record { none = refl; together = λ a b. refl; shown = λ b steps. refl }

pub charges_weigh : (f : Claim → ℕ) → IsWeight (charging f)
charges_weigh f = record { none = refl; together = λ a b. sum_by-append _ a.chunks b.chunks; shown = λ b steps. refl }

pub sizes_weigh : IsWeight chunk_sizes
sizes_weigh = record { none = refl; together = λ a b. sum_by-append _ a.chunks b.chunks; shown = λ b steps. refl }

pub numbers_weigh : (n : ℕ) → IsWeight (numbered n)
numbers_weigh n = record { none = refl; together = λ a b. sum_by-append _ a.chunks b.chunks; shown = λ b steps. refl }
