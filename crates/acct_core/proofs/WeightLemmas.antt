-- Stakes and what claims have in the root's held number.
use Rattle.std.proofs.Common.{◌≡◌, ◌+◌, ◌≤◌, List, [], ◌∷◌, ◌++◌, refl, arith, sum_by, Bool, true, false, cond, ◌||◌}
use Rattle.std.proofs.lemmas.Bool.{true≢false}
use Rattle.std.proofs.lemmas.List.Sums.{sum_by-cons}
use Rattle.acct_core.specs.Claims.{Claim}
use Rattle.acct_core.specs.Weights.{in_root, has_held, stake}
use Rattle.acct_core.specs.Phases.{is_held}

-- a stake is at most what its claims have in the root
pub stake_le : (claims : List Claim) → stake claims ≤ sum_by (λ c. in_root c.phase) claims
stake_le [] = omega arith
stake_le (c ∷ claims) =
    let r = stake_le claims in let q = sum_by-cons (λ (x : Claim). in_root x.phase) c claims in
    let h = held (is_held c.phase) in let m = pick (has_held claims) in omega arith
  where
    held : (b : Bool) → cond b (in_root c.phase) 0 ≤ in_root c.phase
    held true = omega arith
    held false = omega arith

    pick : (b : Bool) → cond b (stake claims) (cond (is_held c.phase) (in_root c.phase) 0)
        ≤ stake claims + cond (is_held c.phase) (in_root c.phase) 0
    pick true = omega arith
    pick false = omega arith

-- one of two lists has a claim that is held where one of them has
pub has_held-append : (xs ys : List Claim) → has_held (xs ++ ys) ≡ has_held xs || has_held ys
has_held-append [] ys = refl
has_held-append (x ∷ xs) ys = rw (has_held-append xs ys) (or_assoc (is_held x.phase))
  where
    or_assoc : (b : Bool) → (b || (has_held xs || has_held ys)) ≡ ((b || has_held xs) || has_held ys)
    or_assoc true = refl
    or_assoc false = refl

-- where no claim is held there is no stake
pub stake-none : (xs : List Claim) → has_held xs ≡ false → stake xs ≡ 0
stake-none [] h = refl
stake-none (x ∷ xs) h = both (is_held x.phase) (has_held xs) h
  where
    both : (a b : Bool) → (a || b) ≡ false → cond b (stake xs) (cond a (in_root x.phase) 0) ≡ 0
    both true b e = absurd (true≢false e)
    both false true e = absurd (true≢false e)
    both false false e = refl

-- two lists of claims together have no greater stake than each by itself
pub stake_append : (xs ys : List Claim) → stake (xs ++ ys) ≤ stake xs + stake ys
stake_append [] ys = omega arith
stake_append (x ∷ xs) ys = rw (has_held-append xs ys) (let r = stake_append xs ys in cases (has_held xs) (has_held ys) refl refl r)
  where
    cases : (a b : Bool) → has_held xs ≡ a → has_held ys ≡ b → stake (xs ++ ys) ≤ stake xs + stake ys →
        cond (a || b) (stake (xs ++ ys)) (cond (is_held x.phase) (in_root x.phase) 0)
        ≤ cond a (stake xs) (cond (is_held x.phase) (in_root x.phase) 0) + stake ys
    cases true b e f r = r
    cases false true e f r = let z = stake-none xs e in omega arith
    cases false false e f r = omega arith
