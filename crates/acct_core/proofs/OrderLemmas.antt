-- The law doesn't see the order of the claims, nor claims that are free.
use Rattle.std.proofs.Common.{◌≡◌, ℕ, true, ◌&&◌, List, ◌∷◌, None, All, sum_by, arith, refl, sym, ◌∙◌, IsPermutation, ◌==◌}
use Rattle.std.proofs.lemmas.List.Sorted.{All-permutation, sum_by-IsPermutation}
use Rattle.std.proofs.lemmas.List.Sums.{sum_by-cons}
use Rattle.std.proofs.lemmas.List.Elements.{All-cons, All-tail}
use Rattle.acct_core.specs.declared.row.Row.{Row}
use Rattle.acct_core.specs.Claims.{Claim, claim_at, account, own_charge, use_count, backing_count}
use Rattle.acct_core.specs.Phases.Phase.{Free}
use Rattle.acct_core.specs.Rows.{shapes}
use Rattle.acct_core.specs.Phases.{pending_addition, pending_subtraction}
use Rattle.acct_core.specs.Lawful.{IsInTime, IsLawfulAccount, IsLawfulFixedTree}
use Rattle.acct_core.proofs.FitsLemmas.{ClaimFits, HeldLaw, whole_law, lawful_account, balanced_account, fixed_law, each_claim, in_time}
use Rattle.acct_core.proofs.SumLemmas.{zero_cond, cond-and_false}

-- Two lists of claims that weigh alike, of which one fits where the other does
pub record Alike (rows : List Row) (xs ys : List Claim) : Type 0 where
  pub add : (n : ℕ) → sum_by (λ c. pending_addition n c.phase) ys ≡ sum_by (λ c. pending_addition n c.phase) xs
  pub take : (n : ℕ) → sum_by (λ c. pending_subtraction n c.phase) ys ≡ sum_by (λ c. pending_subtraction n c.phase) xs
  pub own : (n : ℕ) → sum_by (own_charge n) ys ≡ sum_by (own_charge n) xs
  pub used : (n : ℕ) → sum_by (use_count n) ys ≡ sum_by (use_count n) xs
  pub stand : (n : ℕ) → sum_by (backing_count n) ys ≡ sum_by (backing_count n) xs
  pub fit : All (λ c. ClaimFits (shapes rows) c.node c.under c.phase) xs → All (λ c. ClaimFits (shapes rows) c.node c.under c.phase) ys

-- what one list keeps of the law, a list that is alike keeps too
pub alike_held : (rows : List Row) (xs ys : List Claim) → Alike rows xs ys → HeldLaw (account rows xs) → HeldLaw (account rows ys)
alike_held rows xs ys k s = record {
  tree = s.tree;
  balance = λ n o. (let b = s.balance n o in let e₁ = k.add n in let e₂ = k.take n in let e₃ = k.own n in omega arith);
  empty = s.empty;
  claims = k.fit s.claims;
}

-- the law doesn't tell alike lists apart
pub alike_lawful : (rows : List Row) (xs ys : List Claim) → Alike rows xs ys → IsLawfulAccount (account rows xs) →
    IsLawfulAccount (account rows ys)
alike_lawful rows xs ys k law =
    let l = whole_law (account rows xs) law in
    lawful_account (account rows ys) (record {
      held = alike_held rows xs ys k l.held;
      uses = λ n. l.uses n ∙ sym (k.used n);
      backing = λ n. k.stand n ∙ l.backing n;
    })

-- the same for a fixed tree, if no child stands on a claim of the list that is alike
pub alike_fixed : (rows : List Row) (xs ys : List Claim) → Alike rows xs ys →
    (All (λ c. c.under ≡ None) xs → All (λ c. c.under ≡ None) ys) → IsLawfulFixedTree (account rows xs) →
    IsLawfulFixedTree (account rows ys)
alike_fixed rows xs ys k bare l =
    let h = alike_held rows xs ys k (fixed_law (account rows xs) l.fixed l.balanced) in
    record {
      fixed = record {
        opened = l.fixed.opened;
        in_time = each_claim (λ (c : Claim). ClaimFits (shapes rows) c.node c.under c.phase)
            (λ (c : Claim). IsInTime (shapes rows) c.node c.phase) ys (λ c. in_time (shapes rows) c.node c.under c.phase) h.claims;
        bare = bare l.fixed.bare;
      };
      balanced = balanced_account (account rows ys) h;
    }

-- the order of the claims doesn't matter
pub alike_permuted : (rows : List Row) (xs ys : List Claim) → IsPermutation xs ys → Alike rows xs ys
alike_permuted rows xs ys p = record {
  add = λ n. sum_by-IsPermutation (λ (c : Claim). pending_addition n c.phase) xs ys p;
  take = λ n. sum_by-IsPermutation (λ (c : Claim). pending_subtraction n c.phase) xs ys p;
  own = λ n. sum_by-IsPermutation (own_charge n) xs ys p;
  used = λ n. sum_by-IsPermutation (use_count n) xs ys p;
  stand = λ n. sum_by-IsPermutation (backing_count n) xs ys p;
  fit = All-permutation (λ (c : Claim). ClaimFits (shapes rows) c.node c.under c.phase) xs ys p;
}

-- a free claim more
pub alike_free : (rows : List Row) (node : ℕ) (xs : List Claim) → Alike rows xs (claim_at node Free ∷ xs)
alike_free rows node xs =
    let c : Claim = claim_at node Free in
    record {
      add = λ n. (let e = sum_by-cons (λ (x : Claim). pending_addition n x.phase) c xs in omega arith);
      take = λ n. (let e = sum_by-cons (λ (x : Claim). pending_subtraction n x.phase) c xs in omega arith);
      own = λ n. (let e = sum_by-cons (own_charge n) c xs in let z : own_charge n c ≡ 0 = zero_cond (node == n && true) in omega arith);
      used = λ n. (let e = sum_by-cons (use_count n) c xs in let z : use_count n c ≡ 0 = cond-and_false (node == n) 1 in omega arith);
      stand = λ n. (let e = sum_by-cons (backing_count n) c xs in omega arith);
      fit = All-cons (λ (x : Claim). ClaimFits (shapes rows) x.node x.under x.phase) c xs refl;
    }

-- a free claim less
pub alike_unfree : (rows : List Row) (node : ℕ) (xs : List Claim) → Alike rows (claim_at node Free ∷ xs) xs
alike_unfree rows node xs = let k = alike_free rows node xs in record {
  add = λ n. sym (k.add n);
  take = λ n. sym (k.take n);
  own = λ n. sym (k.own n);
  used = λ n. sym (k.used n);
  stand = λ n. sym (k.stand n);
  fit = All-tail (λ (x : Claim). ClaimFits (shapes rows) x.node x.under x.phase) (claim_at node Free) xs;
}

-- claims in another order are as lawful
pub permuted_lawful : (rows : List Row) (xs ys : List Claim) → IsPermutation xs ys → IsLawfulAccount (account rows xs) →
    IsLawfulAccount (account rows ys)
permuted_lawful rows xs ys p = alike_lawful rows xs ys (alike_permuted rows xs ys p)

-- so they are in a fixed tree
pub permuted_fixed : (rows : List Row) (xs ys : List Claim) → IsPermutation xs ys → IsLawfulFixedTree (account rows xs) →
    IsLawfulFixedTree (account rows ys)
permuted_fixed rows xs ys p = alike_fixed rows xs ys (alike_permuted rows xs ys p) (All-permutation (λ (c : Claim). c.under ≡ None) xs ys p)

-- with a free claim more
pub free_more : (rows : List Row) (node : ℕ) (xs : List Claim) → IsLawfulAccount (account rows xs) →
    IsLawfulAccount (account rows (claim_at node Free ∷ xs))
free_more rows node xs = alike_lawful rows xs (claim_at node Free ∷ xs) (alike_free rows node xs)

-- with a free claim less
pub free_less : (rows : List Row) (node : ℕ) (xs : List Claim) → IsLawfulAccount (account rows (claim_at node Free ∷ xs)) →
    IsLawfulAccount (account rows xs)
free_less rows node xs = alike_lawful rows (claim_at node Free ∷ xs) xs (alike_unfree rows node xs)

-- with a free claim more, in a fixed tree
pub free_more_fixed : (rows : List Row) (node : ℕ) (xs : List Claim) → IsLawfulFixedTree (account rows xs) →
    IsLawfulFixedTree (account rows (claim_at node Free ∷ xs))
free_more_fixed rows node xs = alike_fixed rows xs (claim_at node Free ∷ xs) (alike_free rows node xs)
    (All-cons (λ (c : Claim). c.under ≡ None) (claim_at node Free) xs refl)

-- with a free claim less, in a fixed tree
pub free_less_fixed : (rows : List Row) (node : ℕ) (xs : List Claim) → IsLawfulFixedTree (account rows (claim_at node Free ∷ xs)) →
    IsLawfulFixedTree (account rows xs)
free_less_fixed rows node xs = alike_fixed rows (claim_at node Free ∷ xs) xs (alike_unfree rows node xs)
    (All-tail (λ (c : Claim). c.under ≡ None) (claim_at node Free) xs)
