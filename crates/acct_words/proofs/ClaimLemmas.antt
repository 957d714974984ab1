-- Lists of claims that are alike, and what the views show of them.
use Rattle.std.proofs.Common.{zero, suc, ◌≡◌, ℕ, List, [], ◌∷◌, ◌++◌, set, refl, sym, ◌∙◌, subst, arith, sum_by, All, ⊎_elim}
use mathlib.Core.Option.{some, some-injective, some-ne-none}
use lib.ListN.{get_elem?}
use Rattle.std.proofs.lemmas.List.Elements.{All-append, All-nil}
use Rattle.std.proofs.lemmas.List.Sums.{sum_by-append, sum_by-cons}
use Rattle.atomic_table.proofs.Lists.{at_set, set_else}
use Rattle.acct_core.specs.Claims.{Claim}
use Rattle.acct_core.specs.SameClaims.{SameClaims}
use Rattle.acct_core.proofs.SameClaimsLemmas.{same_from, All-left, All-right}
use Rattle.acct_words.specs.Views.{Chunk, View}
use Rattle.acct_words.specs.Bodies.{of_view, total, charging, spent}
use Rattle.acct_words.specs.Rows.{charges_of, claims_of}
use Rattle.acct_words.proofs.ViewLemmas.{total_set}

-- the charges that a view shows
abbrev pub its_charges : View → List Claim
its_charges v = charges_of v.own.chunks ++ charges_of v.offer.chunks

-- a sum over charges, chunk by chunk
pub charges_of-sum : (f : Claim → ℕ) (chunks : List Chunk) → sum_by f (charges_of chunks) ≡ sum_by (λ k. sum_by f k.charges) chunks
charges_of-sum f [] = refl
charges_of-sum f (k ∷ chunks) = sum_by-append f k.charges (charges_of chunks) ∙ (let e = charges_of-sum f chunks in let g =
    sum_by-cons (λ (k : Chunk). sum_by f k.charges) k chunks in omega arith)

-- a sum over the charges of one view
pub its_charges-sum : (f : Claim → ℕ) (v : View) → sum_by f (its_charges v) ≡ of_view (charging f) v
its_charges-sum f v = sum_by-append f (charges_of v.own.chunks) (charges_of v.offer.chunks)
    ∙ (let a = charges_of-sum f v.own.chunks in let b = charges_of-sum f v.offer.chunks in omega arith)

-- a sum over all claims, view by view
pub claims_of-sum : (f : Claim → ℕ) (views : List View) → sum_by f (claims_of views) ≡ total (charging f) views
claims_of-sum f [] = refl
claims_of-sum f (v ∷ views) = sum_by-append f (its_charges v) (claims_of views) ∙ (let e = claims_of-sum f views in let a =
    its_charges-sum f v in let g = sum_by-cons (of_view (charging f)) v views in omega arith)

-- what holds of all claims holds of one view's
pub all_at : (P : Claim → Type 0) (views : List View) → All P (claims_of views) → (j : ℕ) (v : View) → get_elem? views j ≡ some v →
    All P (its_charges v)
all_at P [] h j v e = absurd (some-ne-none v (sym e))
all_at P (x ∷ xs) h zero v e = subst (λ (y : View). All P (its_charges y)) (some-injective x v e)
    (All-left P (its_charges x) (claims_of xs) h)
all_at P (x ∷ xs) h (suc j) v e = all_at P xs (All-right P (its_charges x) (claims_of xs) h) j v e

-- and what holds of each view's claims holds of all
pub all_from : (P : Claim → Type 0) (views : List View) → ((j : ℕ) (v : View) → get_elem? views j ≡ some v → All P (its_charges v)) →
    All P (claims_of views)
all_from P [] h = All-nil P
all_from P (x ∷ xs) h = All-append P (its_charges x) (claims_of xs) (h 0 x refl) (all_from P xs (λ j v e. h (suc j) v e))

-- all claims but those of one view
abbrev pub others : List View → ℕ → List Claim
others views id = claims_of (set views id spent)

-- what holds of all claims holds of the others
pub all_others : (P : Claim → Type 0) (views : List View) (id : ℕ) → All P (claims_of views) → All P (others views id)
all_others P views id h =
    all_from P (set views id spent) (λ j v e. ⊎_elim (λ q. subst (λ (y : View). All P (its_charges y)) q.1 (All-nil P))
    (λ q. all_at P views h j v q.1) (at_set views id j spent v e))

-- a view's claims stand before the others
pub taken_out : (views : List View) (id : ℕ) (v : View) → get_elem? views id ≡ some v →
    SameClaims (claims_of views) (its_charges v ++ others views id)
taken_out views id v at = same_from (claims_of views) (its_charges v ++ others views id) (λ f. (
    let a = sum_by-append f (its_charges v) (others views id) in let b = claims_of-sum f views in let c =
    claims_of-sum f (set views id spent) in
    let d = its_charges-sum f v in let t = total_set (charging f) views id v spent at in omega arith))
    (λ P h. All-append P (its_charges v) (others views id) (all_at P views h id v at) (all_others P views id h))

-- and may be put back
pub put_in : (views : List View) (id : ℕ) (v w : View) → get_elem? views id ≡ some v →
    SameClaims (its_charges w ++ others views id) (claims_of (set views id w))
put_in views id v w at = same_from (its_charges w ++ others views id) (claims_of (set views id w)) (λ f. (
    let a = sum_by-append f (its_charges w) (others views id) in let b = claims_of-sum f (set views id w) in let c =
    claims_of-sum f (set views id spent) in
    let d = its_charges-sum f w in let t = total_set (charging f) views id v spent at in let u = total_set (charging f) views id v w at in
    omega arith))
    (λ P h. all_from P (set views id w) (λ j x e. ⊎_elim
    (λ q. subst (λ (y : View). All P (its_charges y)) q.1 (All-left P (its_charges w) (others views id) h))
    (λ q. all_at P (set views id spent) (All-right P (its_charges w) (others views id) h) j x (elsewhere j x q.0 q.1))
    (at_set views id j w x e)))
  where
    elsewhere : (j : ℕ) (x : View) → (j ≡ id → ⊥) → get_elem? views j ≡ some x → get_elem? (set views id spent) j ≡ some x
    elsewhere j x ne e = set_else views id j spent ne ∙ e
