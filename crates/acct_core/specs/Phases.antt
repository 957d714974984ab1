-- Where a claim stands, and what it weighs at its node and at the levels above.
use Rattle.std.specs.Prelude.{ℕ, ◌+◌, Bool, true, false, if◌then◌else◌, List, ◌==◌, nat_lt, Option, Some, None}
use Rattle.std.specs.List.{list_any}
use Rattle.acct_core.specs.declared.level_step.LevelStep.{LevelStep}

-- the phase of a claim; `next` is the level that is to be changed next, `pending` the amount, in bytes, and `steps` what was added so far
pub data Phase : Type 0 where
  Free : Phase
  In : Phase
  Up : (size next pending : ℕ) → (forced : Bool) → (steps : List LevelStep) → Phase
  Held : (size : ℕ) → (forced : Bool) → (steps : List LevelStep) → Phase
  Failed : (size : ℕ) → (forced : Bool) → (steps : List LevelStep) → Phase
  Down : (size next pending : ℕ) → Phase
  Bounced : Phase

-- a level and an amount, where this node is that level
abbrev pub pair_at : ℕ → Option (ℕ × ℕ) → ℕ
pair_at node None = 0
pair_at node (Some pair) = if pair.0 == node then pair.1 else 0

-- the size that a claim has charged at its node
abbrev pub charged : Phase → ℕ
charged (Up size next pending forced steps) = size
charged (Held size forced steps) = size
charged (Failed size forced steps) = size
charged _ = 0

-- the size of the request that a claim is at, on its way up, held, failed or on its way down
abbrev pub size_of : Phase → ℕ
size_of (Up size next pending forced steps) = size
size_of (Held size forced steps) = size
size_of (Failed size forced steps) = size
size_of (Down size next pending) = size
size_of _ = 0

-- what a claim has still to add at a node
abbrev pub pending_addition : ℕ → Phase → ℕ
pending_addition node (Up size next pending forced steps) = pair_at node (Some (next, pending))
pending_addition node _ = 0

-- what a claim has still to subtract at a node
abbrev pub pending_subtraction : ℕ → Phase → ℕ
pending_subtraction node (Down size next pending) = pair_at node (Some (next, pending))
pending_subtraction node _ = 0

-- whether a step took its level past the limit
abbrev pub is_past : LevelStep → Bool
is_past step = nat_lt step.limit (step.old + step.amount)

-- whether one of the steps did
abbrev pub any_past : List LevelStep → Bool
any_past steps = list_any is_past steps

-- whether a claim is free
abbrev pub is_free : Phase → Bool
is_free Free = true
is_free _ = false

-- whether a claim is in, without a request
abbrev pub is_in : Phase → Bool
is_in In = true
is_in _ = false

-- whether a claim is on its way up
abbrev pub is_up : Phase → Bool
is_up (Up size next pending forced steps) = true
is_up _ = false

-- whether a claim is held
abbrev pub is_held : Phase → Bool
is_held (Held size forced steps) = true
is_held _ = false

-- whether a claim is failed
abbrev pub is_failed : Phase → Bool
is_failed (Failed size forced steps) = true
is_failed _ = false

-- whether a claim is on its way down
abbrev pub is_down : Phase → Bool
is_down (Down size next pending) = true
is_down _ = false

-- whether a claim is turned away
abbrev pub is_bounced : Phase → Bool
is_bounced Bounced = true
is_bounced _ = false
