-- The state of the machine, which events it can take, and what they do.
use Rattle.std.specs.Prelude.{◌≡◌, ℕ, ◌+◌, ◌<◌, ◌≤◌, ◌^◌, if◌then◌else◌, not, ◌||◌, nat_lt, IsTrue, List, length, sum_by, None, All}
use Rattle.mem_num.specs.declared.bounds.TheConstants.{MAX_RESERVATION, MOST_ALLOCATORS}
use Rattle.mem_num.specs.declared.node.Node.{Node}
use Rattle.acct_core.specs.declared.row.Row.{Row}
use Rattle.acct_core.specs.declared.event.Event.{Event}
use Rattle.acct_core.specs.declared.event.Event.TheVariants.{Enter, Begin, Up, Undo, Release, Down, Leave, Open, Close}
use Rattle.acct_core.specs.declared.told.Told.{Told}
use Rattle.acct_core.specs.declared.told.Told.TheVariants.{Opened}
use Rattle.acct_core.specs.declared.slot.Slot.{Slot}
use Rattle.acct_core.specs.Rows.{row, shapes}
use Rattle.acct_core.specs.Phases.{size_of, is_free, is_in, is_up, is_held, is_failed, is_down, is_bounced}
use Rattle.acct_core.specs.Claims.{Claim, Account, claim}
use Rattle.acct_core.specs.Lawful.{PaysFor, IsLawfulAccount}
use Rattle.acct_core.specs.Effects.{claim_number, level_of}
use Rattle.acct_core.specs.Applies.{Applies}
use Rattle.acct_core.specs.Slots.{account_of}

-- the accounts, and how many bytes may still be asked for
pub record State : Type 0 where
  pub account : Account
  pub bytes : ℕ

-- the state that rows, slots and bytes stand for
abbrev pub state_of : List Row → List Slot → ℕ → State
state_of rows slots bytes = record { account = account_of rows slots; bytes = bytes }

-- what a caller sees of an allocator; peaks are no part of these accounts
abbrev pub shown_node : Row → Node
shown_node row = record {
  reservation = row.shape.reservation;
  held = row.held;
  peak = 0;
  limit = row.limit;
  uses = row.uses;
  closed = not row.shape.is_open;
}

-- how many numbers were given, from 0 on
abbrev pub made_count : List Row → ℕ
made_count rows = sum_by (λ row. if row.shape.made then 1 else 0) rows

-- the bytes that an event spends, whatever becomes of its request
abbrev pub spent : Event → ℕ
spent (Begin place size force) = size
spent _ = 0

-- a child gets the next number
abbrev pub GivesNumber : Event → Told → ℕ → Type 0
GivesNumber (Open place reservation limit) told next = told ≡ Opened (record { 0 = next })
GivesNumber _ told next = Unit {0}

-- the event takes the old state to the new one, and tells this
pub record StepsTo (old : State) (event : Event) (told : Told) (new : State) : Type 0 where
  pub applies : Applies old.account event told new.account
  pub number : GivesNumber event told (made_count old.account.rows)
  pub bytes : new.bytes + spent event ≡ old.bytes

-- whether a claim and the row that the event changes are in the phase that the event asks for
abbrev pub IsInPhase : Event → Claim → Row → Type 0
IsInPhase (Enter place node) claim row = IsTrue (is_free claim.phase) × IsTrue row.shape.made
IsInPhase (Begin place size force) claim row = IsTrue (is_in claim.phase) × (claim.under ≡ None) × (1 ≤ size) × (size ≤ MAX_RESERVATION)
IsInPhase (Up place) claim row = IsTrue (is_up claim.phase)
IsInPhase (Undo place) claim row = IsTrue (is_failed claim.phase)
IsInPhase (Release place) claim row = IsTrue (is_held claim.phase) × (claim.under ≡ None)
IsInPhase (Down place) claim row = IsTrue (is_down claim.phase)
IsInPhase (Leave place) claim row = IsTrue (is_in claim.phase || is_bounced claim.phase) × (claim.under ≡ None)
IsInPhase (Open place reservation limit) claim row =
    PaysFor reservation claim.phase × (claim.under ≡ None) × (reservation ≤ limit) × IsTrue row.shape.is_open
IsInPhase (Close node) claim row = IsTrue row.shape.is_open

-- an event that sets one claim and one row
abbrev pub IsOfClaim : Event → Type 0
IsOfClaim (Open place reservation limit) = ⊥
IsOfClaim (Close node) = ⊥
IsOfClaim _ = Unit {0}

-- the row that an event is about
abbrev pub its_row : Account → Event → Row
its_row account event = row account.rows (level_of event (claim account (claim_number event)))

-- the event's claim is there
abbrev pub IsThere : Account → Event → Type 0
IsThere account (Close node) = Unit {0}
IsThere account event = claim_number event < length account.claims

-- there is a number left for a child
abbrev pub HasNumber : Account → Event → Type 0
HasNumber account (Open place reservation limit) = made_count account.rows < MOST_ALLOCATORS
HasNumber account _ = Unit {0}

-- the machine can take the event
pub record CanTake (state : State) (event : Event) : Type 0 where
  pub there : IsThere state.account event
  pub in_phase : IsInPhase event (claim state.account (claim_number event)) (its_row state.account event)
  pub number : HasNumber state.account event
  pub afforded : spent event ≤ state.bytes

-- The accounts are lawful; numbers are given in order and there is a row for each; no request and no reservation is larger than the
-- largest reservation; and what is asked for at one time, with what may still be asked for, is at most the bytes that a machine may be
-- opened with, so that no number wraps
pub record IsLawfulMachine (state : State) : Type 0 where
  pub lawful : IsLawfulAccount state.account
  pub wide : length state.account.rows ≡ MOST_ALLOCATORS
  pub numbered : (node : ℕ) → (shapes state.account.rows node).made ≡ nat_lt node (made_count state.account.rows)
  pub few : length state.account.claims < 2 ^ 32
  pub reservations : All (λ row. row.shape.reservation ≤ MAX_RESERVATION) state.account.rows
  pub sizes : All (λ claim. size_of claim.phase ≤ MAX_RESERVATION) state.account.claims
  pub budget : sum_by (λ claim. size_of claim.phase) state.account.claims + state.bytes ≤ 2 ^ 61
