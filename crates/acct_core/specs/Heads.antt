-- A claim in front of the others: how it enters, and how it pays for a child.
use Rattle.std.specs.Prelude.{ℕ, zero, suc, Bool, true, false, [], Option}
use Rattle.acct_core.specs.declared.row.Row.{Row}
use Rattle.acct_core.specs.Phases.{Phase}
use Rattle.acct_core.specs.Phases.Phase.{In, Held, Bounced}
use Rattle.acct_core.specs.Claims.{Claim}

-- a row with so many uses
abbrev pub with_uses : Row → ℕ → Row
with_uses row uses = record row { uses = uses }

-- the phase of a claim that entered a node, by whether the node was open
abbrev pub entered_phase : Bool → Phase
entered_phase true = In
entered_phase false = Bounced

-- the phase in which a claim pays for a reservation
abbrev pub paying_phase : ℕ → Phase
paying_phase zero = In
paying_phase (suc less) = Held (suc less) false []

-- the claim at a parent that pays for a child's reservation, with the child on it or not
abbrev pub claim_under : ℕ → Option ℕ → ℕ → Claim
claim_under parent under reservation = record { node = parent; under = under; phase = paying_phase reservation }
