-- Runs, event by event.
use Rattle.std.proofs.Common.{zero, suc, ◌≡◌, ℕ, ◌+◌, ◌<◌, ◌≤◌, List, [], ◌∷◌, length, drop, get_or, Result, Ok, Err, IsOk, IfOk, OnErr, ◌↔◌, add-one, drop-cons, arith, sym, subst}
use Rattle.acct_core.specs.declared.event.Event.{Event}
use Rattle.acct_core.specs.declared.told.Told.{Told}
use Rattle.acct_core.specs.declared.not_now.NotNow.{NotNow}
use Rattle.acct_core.specs.State.{State, StepsTo, CanTake, IsLawfulMachine}
use Rattle.acct_core.specs.Runs.{Takes, Runs}
use Rattle.acct_core.specs.Runs.Takes.{taken, not_now}
use Rattle.acct_core.specs.Runs.Runs.{done, more}
use Rattle.acct_core.proofs.StateLemmas.{each_step}

-- The events before the place i led from one state to the other: whatever the rest leads to from there, all of them lead to
abbrev pub RunsSoFar : State → List Event → ℕ → State → Type 0
RunsSoFar s events i t = (u : State) → Runs t (drop i events) u → Runs s events u

-- whatever can be taken or not keeps the law
pub takes_lawful : (s t : State) (event : Event) → Takes s event t → IsLawfulMachine s → IsLawfulMachine t
takes_lawful s t event (taken told step) l = each_step s t event told step l
takes_lawful s t event (not_now never same) l = subst IsLawfulMachine (sym same) l

-- every run from a lawful state leads to a lawful state
pub runs_lawful : (s t : State) (events : List Event) → Runs s events t → IsLawfulMachine s → IsLawfulMachine t
runs_lawful s t events done l = l
runs_lawful s t events (more {next = m} {event = event} {events = rest} first others) l =
    runs_lawful m t rest others (takes_lawful s m event first l)

-- what an answer says of the step
pub takes_of : (s t : State) (event : Event) (r : Result Told NotNow) → IfOk r (λ told. StepsTo s event told t) →
    (IsOk r ↔ CanTake s event) → OnErr r (t ≡ s) → Takes s event t
takes_of s t event (Ok told) step taken_if same = taken told step
takes_of s t event (Err e) step taken_if same = not_now (λ can. absurd (err_not_ok e (taken_if.1 can))) same
  where
    err_not_ok : (e : NotNow) → IsOk {T = Told} (Err e) → ⊥
    err_not_ok e h = absurd cc

-- one event more
pub so_far_more : (s t m : State) (events : List Event) (i : ℕ) (d : Event) → i < length events → RunsSoFar s events i t →
    Takes t (get_or events i d) m → RunsSoFar s events (i + 1) m
so_far_more s t m events i d h before first u others = before u (rw (drop-cons events i d) (more first (rw add-one at others)))

-- no event is left
pub runs_end : (s t : State) (events : List Event) (i : ℕ) → length events ≤ i → RunsSoFar s events i t → Runs s events t
runs_end s t events i h before = before t (nothing events i h)
  where
    nothing : (list : List Event) (j : ℕ) → length list ≤ j → Runs t (drop j list) t
    nothing [] zero h = done
    nothing [] (suc j) h = done
    nothing (x ∷ list) zero h = absurd (omega arith)
    nothing (x ∷ list) (suc j) h = nothing list j (omega arith)
