-- The claim that a slot stands for, and when an event at it is safe.
use Rattle.std.specs.Prelude.{◌≡◌, ℕ, ◌+◌, ◌^◌, ◌<◌, ◌≤◌, List, map, Option, Some, None}
use Rattle.std.specs.Option.{ForSome}
use Rattle.mem_num.specs.declared.bounds.TheConstants.{MOST_ALLOCATORS}
use Rattle.acct_core.specs.declared.row.Row.{Row}
use Rattle.acct_core.specs.declared.told.Told.{Told}
use Rattle.acct_core.specs.declared.event.Event.{Event}
use Rattle.acct_core.specs.declared.event.Event.TheVariants as events
use Rattle.acct_core.specs.declared.stage.Stage.{Stage}
use Rattle.acct_core.specs.declared.stage.Stage.TheVariants.{Free, In, Up, Down}
use Rattle.acct_core.specs.declared.slot.Slot.{Slot}
use Rattle.acct_core.specs.Phases.{Phase}
use Rattle.acct_core.specs.Stages.{phase_of}
use Rattle.acct_core.specs.Claims.{Claim, Account, account}
use Rattle.acct_core.specs.Effects.{Effect, effect_of}

-- the claim of a slot
abbrev pub claim_of : Slot → Claim
claim_of slot = record { node = slot.node; under = slot.under; phase = phase_of slot.stage slot.steps.items }

-- the account of rows and slots
abbrev pub account_of : List Row → List Slot → Account
account_of rows slots = account rows (map claim_of slots)

-- an effect took this slot and this row to the new ones, and told this
abbrev pub HasEffect : (Claim → Phase → Row → Option Effect) → Slot → Row → Told → Slot → Row → Type 0
HasEffect effect old_slot old_row told new_slot new_row = effect (claim_of old_slot) (claim_of old_slot).phase old_row
    ≡ Some (record { told = told; row = new_row; claim = claim_of new_slot })

-- there is no such effect at this slot and this row
abbrev pub HasNoEffect : (Claim → Phase → Row → Option Effect) → Slot → Row → Type 0
HasNoEffect effect slot row = effect (claim_of slot) (claim_of slot).phase row ≡ None

-- an event took this slot and this row to the new ones, and told this
abbrev pub TakesEvent : Event → Slot → Row → Told → Slot → Row → Type 0
TakesEvent event old_slot old_row told new_slot new_row = effect_of event (claim_of old_slot) old_row
    ≡ Some (record { told = told; row = new_row; claim = claim_of new_slot })

-- there is room for a step at the node and at each above it
abbrev pub CanBegin : Stage → ℕ → Type 0
CanBegin In node = node < MOST_ALLOCATORS
CanBegin _ node = Unit {0}

-- the sum at the next level fits, and the level above it has a smaller number
abbrev pub CanRise : Stage → Row → Type 0
CanRise (Up size next pending forced) row = (row.held + pending < 2 ^ 64) × ForSome row.shape.parent (λ parent. parent < next)
CanRise _ row = Unit {0}

-- what is pending is there
abbrev pub CanFall : Stage → Row → Type 0
CanFall (Down size next pending) row = pending ≤ row.held
CanFall _ row = Unit {0}

-- a claim that uses a node has a use there
abbrev pub CanLeave : Stage → Row → Type 0
CanLeave Free row = Unit {0}
CanLeave _ row = 1 ≤ row.uses

-- no number wraps in this event
abbrev pub IsSafe : Event → Slot → Row → Type 0
IsSafe (events.Enter place node) slot row = row.uses + 1 < 2 ^ 64
IsSafe (events.Begin place size force) slot row = CanBegin slot.stage slot.node
IsSafe (events.Up place) slot row = CanRise slot.stage row
IsSafe (events.Down place) slot row = CanFall slot.stage row
IsSafe (events.Leave place) slot row = CanLeave slot.stage row
IsSafe _ slot row = Unit {0}
