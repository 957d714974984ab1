-- Runs of a machine: lists of events, of which those that can't be taken change nothing.
use Rattle.std.specs.Prelude.{◌≡◌, List, [], ◌∷◌}
use Rattle.acct_core.specs.declared.event.Event.{Event}
use Rattle.acct_core.specs.declared.told.Told.{Told}
use Rattle.acct_core.specs.State.{State, StepsTo, CanTake}

-- the machine takes an event that it can take, and any other leaves it as it is
pub data Takes (old : State) (event : Event) (new : State) : Type 0 where
  taken : (told : Told) → StepsTo old event told new → Takes old event new
  not_now : (CanTake old event → ⊥) → new ≡ old → Takes old event new

-- the events one by one
pub data Runs : State → List Event → State → Type 0 where
  done : {state : State} → Runs state [] state
  more : {old next new : State} {event : Event} {events : List Event} →
      Takes old event next → Runs next events new → Runs old (event ∷ events) new
