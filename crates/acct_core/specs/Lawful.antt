-- When an account is lawful.
use Rattle.std.specs.Prelude.{◌≡◌, ℕ, ◌≤◌, ◌&&◌, true, false, if◌then◌else◌, is_some, sum_by, Option, Some, None, All}
use Rattle.acct_core.specs.declared.shape.Shape.{Shape}
use Rattle.acct_core.specs.Rows.{row, shapes}
use Rattle.acct_core.specs.NodeTree.{IsOpen, Reaches, IsNodeTree}
use Rattle.acct_core.specs.Phases.{Phase, any_past}
use Rattle.acct_core.specs.Phases.Phase.{Free, In, Up, Held, Failed, Down, Bounced}
use Rattle.acct_core.specs.Claims.{Account, use_count, backing_count}
use Rattle.acct_core.specs.Balance.{IsBalanced}

-- a free claim is nowhere, a bounced one is at a node that was made and closed, and every other one is at an open node
abbrev pub IsInTime : (ℕ → Shape) → ℕ → Phase → Type 0
IsInTime shape node Free = Unit {0}
IsInTime shape node Bounced = ((shape node).made ≡ true) × ((shape node).is_open ≡ false)
IsInTime shape node _ = IsOpen shape node

-- a next level is the claim's node or an ancestor; what is pending is at least 1 and at most the size; a size is at least 1
abbrev pub HasNextLevel : (ℕ → Shape) → ℕ → Phase → Type 0
HasNextLevel shape node (Up size next pending forced steps) = Reaches shape node next × (1 ≤ pending) × (pending ≤ size)
HasNextLevel shape node (Down size next pending) = Reaches shape node next × (1 ≤ pending) × (pending ≤ size)
HasNextLevel shape node (Held size forced steps) = 1 ≤ size
HasNextLevel shape node (Failed size forced steps) = 1 ≤ size
HasNextLevel shape node _ = Unit {0}

-- a failed request isn't forced and has a step past its limit; one that is held and not forced has none
abbrev pub KeepsLimits : Phase → Type 0
KeepsLimits (Held size forced steps) = forced ≡ false → any_past steps ≡ false
KeepsLimits (Failed size forced steps) = (forced ≡ false) × (any_past steps ≡ true)
KeepsLimits _ = Unit {0}

-- a phase in which a claim pays for this reservation
abbrev pub PaysFor : ℕ → Phase → Type 0
PaysFor reservation In = reservation ≡ 0
PaysFor reservation (Held size forced steps) = reservation ≡ size
PaysFor reservation _ = ⊥

-- a child that stands on a claim is an open child of its node, whose reservation the claim pays for
abbrev pub Backs : (ℕ → Shape) → ℕ → Option ℕ → Phase → Type 0
Backs shape node None phase = Unit {0}
Backs shape node (Some child) phase = IsOpen shape child × ((shape child).parent ≡ Some node) × PaysFor (shape child).reservation phase

-- one for an open node that has a parent
abbrev pub backing_needed : Shape → ℕ
backing_needed shape = if shape.is_open && is_some shape.parent then 1 else 0

-- each open node but the root stands on exactly one claim, at its parent, that pays for its reservation
pub record IsBacked (account : Account) : Type 0 where
  pub one_claim : (node : ℕ) → sum_by (backing_count node) account.claims ≡ backing_needed (shapes account.rows node)
  pub paid : All (λ claim. Backs (shapes account.rows) claim.node claim.under claim.phase) account.claims

-- the part of the law that speaks of held numbers alone; a tree that is fixed from the start, without uses or backing claims, keeps it
pub record IsBalancedAccount (account : Account) : Type 0 where
  pub tree : IsNodeTree (shapes account.rows)
  pub balance : IsBalanced account
  pub next_levels : All (λ claim. HasNextLevel (shapes account.rows) claim.node claim.phase) account.claims
  pub limit_steps : All (λ claim. KeepsLimits claim.phase) account.claims

-- the law of the accounts, whatever calls are in flight
pub record IsLawfulAccount (account : Account) : Type 0 where
  -- numbers, parents, and which nodes are open
  pub tree : IsNodeTree (shapes account.rows)
  -- held is what is charged and what open children count for, up to what is still pending
  pub balance : IsBalanced account
  -- the uses of a node are the claims at it that aren't free
  pub use_counts : (node : ℕ) → (row account.rows node).uses ≡ sum_by (use_count node) account.claims
  -- an entry that came too late is turned away, and no other claim is at a closed node
  pub late_entries : All (λ claim. IsInTime (shapes account.rows) claim.node claim.phase) account.claims
  -- next levels are on the way to the root, with amounts within the size
  pub next_levels : All (λ claim. HasNextLevel (shapes account.rows) claim.node claim.phase) account.claims
  -- each open node but the root stands on one claim, which pays for its reservation
  pub backing : IsBacked account
  -- who fails went past a limit, and who is held and not forced did not
  pub limit_steps : All (λ claim. KeepsLimits claim.phase) account.claims

-- a tree that is fixed: every node is open, claims that are not free are at nodes, and no child stands on a claim
pub record IsFixedTree (account : Account) : Type 0 where
  pub opened : (node : ℕ) → (shapes account.rows node).made ≡ true → IsOpen (shapes account.rows) node
  pub in_time : All (λ claim. IsInTime (shapes account.rows) claim.node claim.phase) account.claims
  pub bare : All (λ claim. claim.under ≡ None) account.claims

-- the law of a fixed tree
pub record IsLawfulFixedTree (account : Account) : Type 0 where
  pub fixed : IsFixedTree account
  pub balanced : IsBalancedAccount account
