-- Error counts, and which calls of an object in memory are to fail.
use Rattle.std.specs.Prelude.{ℕ, ◌+◌, ◌-◌, ◌^◌, ◌≤◌, ◌==◌, min, List, Bool}
use Rattle.std.specs.List.{list_any}

-- a count after one more: it stands still at the end of its type
abbrev pub counted : ℕ → ℕ
counted count = min (count + 1) (2 ^ 64 - 1)

-- the count rose: it is greater than before, or stands at its end
abbrev pub Rose : ℕ → ℕ → Type 0
Rose before now = counted before ≤ now

-- the numbers of the calls that are to fail, where the first call has the number 1, and how many calls were made
pub record FaultPlan : Type 0 where
  pub failing : List ℕ
  pub calls : ℕ

-- whether the call of this number is to fail
abbrev pub is_failing : List ℕ → ℕ → Bool
is_failing failing call = list_any (λ number. number == call) failing

-- whether the next call is to fail
abbrev pub fails_next : FaultPlan → Bool
fails_next plan = is_failing plan.failing (counted plan.calls)

-- the plan with one call more
abbrev pub plan_after : FaultPlan → FaultPlan
plan_after plan = record plan { calls = counted plan.calls }
