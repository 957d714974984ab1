-- The event table, for the events of one claim: what each does to its claim and to one row.
use Rattle.std.specs.Prelude.{ℕ, zero, suc, ◌+◌, ◌-◌, Bool, not, ◌&&◌, if◌then◌else◌, List, [], ◌∷◌, ◌++◌, is_none, nat_lt, nat_le, Option, Some, None}
use Rattle.mem_num.specs.declared.bounds.TheConstants.{MAX_RESERVATION}
use Rattle.mem_model.specs.Reservation.{beyond_reservation}
use Rattle.acct_core.specs.declared.row.Row.{Row}
use Rattle.acct_core.specs.declared.level_step.LevelStep.{LevelStep}
use Rattle.acct_core.specs.declared.event.Event.{Event}
use Rattle.acct_core.specs.declared.event.Event.TheVariants.{Enter, Begin, Up as EventUp, Undo, Release, Down as EventDown, Leave, Open, Close}
use Rattle.acct_core.specs.declared.told.Told.{Told}
use Rattle.acct_core.specs.declared.told.Told.TheVariants.{Entered, Bounced as ToldBounced, Began, Step as ToldStep, Turned, Left}
use Rattle.acct_core.specs.Phases.{Phase, any_past}
use Rattle.acct_core.specs.Phases.Phase.{Free, In, Up, Held, Failed, Down, Bounced}
use Rattle.acct_core.specs.Claims.{Claim}

-- what an event makes of one row and one claim, and what it tells
pub record Effect : Type 0 where
  pub told : Told
  pub row : Row
  pub claim : Claim

-- what goes to the parent, if there is one and it is anything
abbrev pub passed : Option ℕ → ℕ → Option (ℕ × ℕ)
passed None amount = None
passed (Some parent) zero = None
passed (Some parent) (suc amount) = Some (parent, suc amount)

-- a request that has no further level: it fails where a step went past its limit, unless it is forced
abbrev pub ended : ℕ → Bool → List LevelStep → Phase
ended size forced steps = if not forced && any_past steps then Failed size forced steps else Held size forced steps

-- a request whose next level and amount are these, if it has one
abbrev pub goes_on : Option (ℕ × ℕ) → ℕ → Bool → List LevelStep → Phase
goes_on None size forced steps = ended size forced steps
goes_on (Some pair) size forced steps = Up size pair.0 pair.1 forced steps

-- a release whose next level and amount are these, if it has one
abbrev pub goes_back : Option (ℕ × ℕ) → ℕ → Phase
goes_back None size = In
goes_back (Some pair) size = Down size pair.0 pair.1

-- what is pending at a row, before it is added or subtracted there
abbrev pub step_at : ℕ → Row → ℕ → LevelStep
step_at level row amount = record { level = level; old = row.held; amount = amount; limit = row.limit }

-- what a step tells; it is the last where no level follows
abbrev pub told_step : LevelStep → Bool → Told
told_step step last = ToldStep (record {
  node = record { 0 = step.level };
  old = step.old;
  amount = step.amount;
  limit = step.limit;
  last = last;
})

-- a use more; the claim is in where the node is open, and turned away where it isn't
abbrev pub enter_effect : ℕ → Claim → Phase → Row → Option Effect
enter_effect node claim Free row =
    if row.shape.made then (if row.shape.is_open
    then Some (record { told = Entered; row = record row { uses = row.uses + 1 }; claim = record claim { node = node; phase = In } })
    else Some (record { told = ToldBounced row.uses; row = record row { uses = row.uses + 1 }; claim = record claim { node = node; phase = Bounced } }))
    else None
enter_effect node claim _ row = None

-- a request of a size from 1 on, all of which is pending at the claim's node; the largest request is the one for the largest reservation
abbrev pub begin_effect : ℕ → Bool → Claim → Phase → Row → Option Effect
begin_effect size force claim In row =
    if is_none claim.under && (nat_lt 0 size && nat_le size MAX_RESERVATION)
    then Some (record { told = Began; row = row; claim = record claim { phase = Up size claim.node size force [] } })
    else None
begin_effect size force claim _ row = None

-- what is pending is added; what the parent counts more on that account is pending there
abbrev pub up_effect : Claim → Phase → Row → Option Effect
up_effect claim (Up size next pending forced steps) row =
    let step = step_at next row pending in
    let further = passed row.shape.parent (beyond_reservation row.shape.reservation row.held (row.held + pending)) in
    Some (record {
      told = told_step step (is_none further);
      row = record row { held = row.held + pending };
      claim = record claim { phase = goes_on further size forced (steps ++ step ∷ []) };
    })
up_effect claim _ row = None

-- a failed request turns round, with its whole size pending at the claim's node
abbrev pub undo_effect : Claim → Phase → Row → Option Effect
undo_effect claim (Failed size forced steps) row =
    Some (record { told = Turned; row = row; claim = record claim { phase = Down size claim.node size } })
undo_effect claim _ row = None

-- a charge that is held, and on which no child stands, turns round
abbrev pub release_effect : Claim → Phase → Row → Option Effect
release_effect claim (Held size forced steps) row =
    if is_none claim.under then Some (record { told = Turned; row = row; claim = record claim { phase = Down size claim.node size } }) else None
release_effect claim _ row = None

-- what is pending is subtracted; what the parent counts less on that account is pending there
abbrev pub down_effect : Claim → Phase → Row → Option Effect
down_effect claim (Down size next pending) row =
    let further = passed row.shape.parent (beyond_reservation row.shape.reservation (row.held - pending) row.held) in
    Some (record {
      told = told_step (step_at next row pending) (is_none further);
      row = record row { held = row.held - pending };
      claim = record claim { phase = goes_back further size };
    })
down_effect claim _ row = None

-- the use is given back by a claim that has no charge and on which no child stands
abbrev pub leave_effect : Claim → Phase → Row → Option Effect
leave_effect claim In row =
    if is_none claim.under then Some (record { told = Left; row = record row { uses = row.uses - 1 }; claim = record claim { phase = Free } }) else None
leave_effect claim Bounced row =
    if is_none claim.under then Some (record { told = Left; row = record row { uses = row.uses - 1 }; claim = record claim { phase = Free } }) else None
leave_effect claim _ row = None

-- what an event makes of its claim and of the row that it changes; none where it can't be taken
abbrev pub effect_of : Event → Claim → Row → Option Effect
effect_of (Enter place node) claim row = enter_effect node.0 claim claim.phase row
effect_of (Begin place size force) claim row = begin_effect size force claim claim.phase row
effect_of (EventUp place) claim row = up_effect claim claim.phase row
effect_of (Undo place) claim row = undo_effect claim claim.phase row
effect_of (Release place) claim row = release_effect claim claim.phase row
effect_of (EventDown place) claim row = down_effect claim claim.phase row
effect_of (Leave place) claim row = leave_effect claim claim.phase row
effect_of (Open place reservation limit) claim row = None
effect_of (Close node) claim row = None

-- the place of an event's claim in the list; the event that closes a node has none
abbrev pub claim_number : Event → ℕ
claim_number (Enter place node) = place
claim_number (Begin place size force) = place
claim_number (EventUp place) = place
claim_number (Undo place) = place
claim_number (Release place) = place
claim_number (EventDown place) = place
claim_number (Leave place) = place
claim_number (Open place reservation limit) = place
claim_number (Close node) = 0

-- the level at which a claim changes a held number next
abbrev pub next_level : ℕ → Phase → ℕ
next_level node (Up size next pending forced steps) = next
next_level node (Down size next pending) = next
next_level node _ = node

-- the row that an event of a claim changes
abbrev pub level_of : Event → Claim → ℕ
level_of (Enter place node) claim = node.0
level_of (Close node) claim = node.0
level_of (EventUp place) claim = next_level claim.node claim.phase
level_of (EventDown place) claim = next_level claim.node claim.phase
level_of _ claim = claim.node
