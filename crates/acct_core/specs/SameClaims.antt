-- Two lists of the same claims.
use Rattle.std.specs.Prelude.{◌≡◌, ℕ, List, sum_by, All, Contains}
use Rattle.acct_core.specs.Claims.{Claim}

-- the lists have the same claims, each as often, in whatever order: every sum over the one is that over the other, and each claim of the
-- other is one of the first
pub record SameClaims (claims others : List Claim) : Type 0 where
  pub sums : (weight : Claim → ℕ) → sum_by weight others ≡ sum_by weight claims
  pub members : All (Contains claims) others
