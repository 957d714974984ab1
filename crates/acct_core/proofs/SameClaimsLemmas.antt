-- Lists of the same claims are as lawful.
use Rattle.std.proofs.Common.{◌≡◌, ℕ, List, [], ◌∷◌, ◌++◌, All, Contains, sum_by, refl, sym, ap, ◌∙◌, subst, arith, None}
use Rattle.std.proofs.lemmas.List.Elements.{All-append, All-cons, All-head, All-tail, All-nil, All-weaker, All-contains, All-contains_itself}
use Rattle.std.proofs.lemmas.List.Sums.{sum_by-append}
use Rattle.acct_core.specs.declared.row.Row.{Row}
use Rattle.acct_core.specs.Claims.{Claim, account, own_charge, use_count, backing_count}
use Rattle.acct_core.specs.Rows.{shapes}
use Rattle.acct_core.specs.Phases.{pending_addition, pending_subtraction}
use Rattle.acct_core.specs.Lawful.{IsLawfulAccount, IsLawfulFixedTree}
use Rattle.acct_core.specs.SameClaims.{SameClaims}
use Rattle.acct_core.proofs.FitsLemmas.{ClaimFits}
use Rattle.acct_core.proofs.OrderLemmas.{Alike, alike_lawful, alike_fixed}

-- what holds of each claim of a list holds of each of the same claims
pub same_all : (xs ys : List Claim) → SameClaims xs ys → (P : Claim → Type 0) → All P xs → All P ys
same_all xs ys same P h = All-weaker (Contains xs) P (λ c i. All-contains P xs c h i) ys same.members

-- lists are of the same claims where that is so
pub same_from : (xs ys : List Claim) → ((f : Claim → ℕ) → sum_by f ys ≡ sum_by f xs) → ((P : Claim → Type 0) → All P xs → All P ys) →
    SameClaims xs ys
same_from xs ys sums all = record { sums = sums; members = all (Contains xs) (All-contains_itself xs) }

module _ (rows : List Row) (xs ys : List Claim) (same : SameClaims xs ys) where
  -- the same claims weigh alike
  pub same_alike : Alike rows xs ys
  same_alike = record {
    add = λ n. same.sums (λ (c : Claim). pending_addition n c.phase);
    take = λ n. same.sums (λ (c : Claim). pending_subtraction n c.phase);
    own = λ n. same.sums (own_charge n);
    used = λ n. same.sums (use_count n);
    stand = λ n. same.sums (backing_count n);
    fit = same_all xs ys same (λ (c : Claim). ClaimFits (shapes rows) c.node c.under c.phase);
  }

  -- they are as lawful
  pub same_lawful : IsLawfulAccount (account rows xs) → IsLawfulAccount (account rows ys)
  same_lawful = alike_lawful rows xs ys same_alike

  -- in a fixed tree too
  pub same_fixed : IsLawfulFixedTree (account rows xs) → IsLawfulFixedTree (account rows ys)
  same_fixed = alike_fixed rows xs ys same_alike (same_all xs ys same (λ (c : Claim). c.under ≡ None))

-- what holds of each element of a list holds of each of its first part
pub All-left : {A : Type 0} (P : A → Type 0) (xs ys : List A) → All P (xs ++ ys) → All P xs
All-left P [] ys h = All-nil P
All-left P (x ∷ xs) ys h = All-cons P x xs (All-head P x (xs ++ ys) h) (All-left P xs ys (All-tail P x (xs ++ ys) h))

-- and of each of the rest
pub All-right : {A : Type 0} (P : A → Type 0) (xs ys : List A) → All P (xs ++ ys) → All P ys
All-right P [] ys h = h
All-right P (x ∷ xs) ys h = All-right P xs ys (All-tail P x (xs ++ ys) h)

-- equal lists are the same claims
pub same_path : (xs ys : List Claim) → xs ≡ ys → SameClaims xs ys
same_path xs ys e = same_from xs ys (λ f. ap (λ (l : List Claim). sum_by f l) (sym e)) (λ P h. subst (All P) e h)

-- so is one list
pub same_self : (xs : List Claim) → SameClaims xs xs
same_self xs = same_from xs xs (λ f. refl) (λ P h. h)

-- one after another
pub same_then : (xs ys zs : List Claim) → SameClaims xs ys → SameClaims ys zs → SameClaims xs zs
same_then xs ys zs s t = same_from xs zs (λ f. t.sums f ∙ s.sums f) (λ P h. same_all ys zs t P (same_all xs ys s P h))

-- before others
pub same_before : (xs ys zs : List Claim) → SameClaims xs ys → SameClaims (xs ++ zs) (ys ++ zs)
same_before xs ys zs s = same_from (xs ++ zs) (ys ++ zs)
    (λ f. (let a = sum_by-append f xs zs in let b = sum_by-append f ys zs in let e = s.sums f in omega arith))
    (λ P h. All-append P ys zs (same_all xs ys s P (All-left P xs zs h)) (All-right P xs zs h))
