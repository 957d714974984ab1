-- The claims on the allocators, and what a claim weighs at a node.
use Rattle.std.specs.Prelude.{ℕ, not, ◌&&◌, if◌then◌else◌, ◌==◌, is_none, List, slice_index_or, Option, None}
use Rattle.acct_core.specs.declared.row.Row.{Row}
use Rattle.acct_core.specs.Rows.{is_at}
use Rattle.acct_core.specs.Phases.{Phase, charged, is_free}
use Rattle.acct_core.specs.Phases.Phase.{Free}

-- a caller's stay at a node: a request, a ledger, or the making of a child
pub record Claim : Type 0 where
  pub node : ℕ
  -- the open child whose reservation this claim pays for
  pub under : Option ℕ
  pub phase : Phase

-- the allocators by number, unmade ones blank, and the claims on them
pub record Account : Type 0 where
  pub rows : List Row
  pub claims : List Claim

-- a claim at a node, on which no child stands
abbrev pub claim_at : ℕ → Phase → Claim
claim_at node phase = record { node = node; under = None; phase = phase }

-- the free claim that stands for all numbers without one
abbrev pub no_claim : Claim
no_claim = claim_at 0 Free

-- the claim at a place of the list
abbrev pub claim : Account → ℕ → Claim
claim account place = slice_index_or account.claims place no_claim

-- the account of these rows and claims
abbrev pub account : List Row → List Claim → Account
account rows claims = record { rows = rows; claims = claims }

-- what a claim is charged at a node; where a child stands on it, the child counts in its place
abbrev pub own_charge : ℕ → Claim → ℕ
own_charge node claim = if claim.node == node && is_none claim.under then charged claim.phase else 0

-- one where the claim uses the node
abbrev pub use_count : ℕ → Claim → ℕ
use_count node claim = if claim.node == node && not (is_free claim.phase) then 1 else 0

-- one where the node stands on the claim
abbrev pub backing_count : ℕ → Claim → ℕ
backing_count node claim = if is_at claim.under node then 1 else 0
