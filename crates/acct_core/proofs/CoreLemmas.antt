-- One event of a claim at a slot and a row, as a step of the whole machine.
use Rattle.std.proofs.Common.{◌≡◌, ℕ, ◌-◌, ◌<◌, ◌≤◌, List, map, length, get_or, set, Some, arith, sym, ap, ◌∙◌, subst}
use Rattle.std.proofs.lemmas.List.{map-set, length-map, get_or-map, get_or_default}
use Rattle.acct_core.specs.declared.row.Row.{Row}
use Rattle.acct_core.specs.declared.shape.Shape.{Shape}
use Rattle.acct_core.specs.Claims.{Claim, Account, claim, no_claim}
use Rattle.acct_core.specs.declared.told.Told.{Told}
use Rattle.acct_core.specs.declared.event.Event.{Event}
use Rattle.acct_core.specs.declared.event.Event.TheVariants as events
use Rattle.acct_core.specs.declared.slot.Slot.{Slot}
use Rattle.acct_core.specs.Rows.{blank, row}
use Rattle.acct_core.specs.Effects.{Effect, effect_of, claim_number, level_of}
use Rattle.acct_core.specs.Applies.{Applies, AppliesToClaim}
use Rattle.acct_core.specs.Slots.{claim_of, account_of, TakesEvent, IsSafe}
use Rattle.acct_core.specs.State.{State, made_count, spent, GivesNumber, StepsTo, IsOfClaim, IsThere, HasNumber, CanTake, IsLawfulMachine, state_of}
use Rattle.acct_core.proofs.FitsLemmas.{whole_law}
use Rattle.acct_core.proofs.LineLemmas.{made_in}
use Rattle.acct_core.proofs.LawLemmas.{keeps}
use Rattle.acct_core.proofs.StateLemmas.{same_count, each_step}
use Rattle.acct_core.proofs.TakeLemmas.{effect_in_phase, phase_has_effect}
use Rattle.acct_core.proofs.SafeLemmas.{event_safe}

-- A step of a machine that leaves it lawful, and after which so many allocators were made
pub record IsStep (old : State) (event : Event) (told : Told) (new : State) (count : ℕ) : Type 0 where
  pub steps : StepsTo old event told new
  pub taken : CanTake old event
  pub lawful : IsLawfulMachine new
  pub made : count ≡ made_count new.account.rows

-- what is said of a step of a claim is said for events of claims
applies_of : (a : Account) (event : Event) (told : Told) (b : Account) → IsOfClaim event → AppliesToClaim a event told b →
    Applies a event told b
applies_of a (events.Enter i node) told b k m = m
applies_of a (events.Begin i size force) told b k m = m
applies_of a (events.Up i) told b k m = m
applies_of a (events.Undo i) told b k m = m
applies_of a (events.Release i) told b k m = m
applies_of a (events.Down i) told b k m = m
applies_of a (events.Leave i) told b k m = m
applies_of a (events.Open i reservation limit) told b k m = absurd k
applies_of a (events.Close n) told b k m = absurd k

-- an event of a claim asks for its claim, for no number, and gives none
is_there : (a : Account) (event : Event) → IsOfClaim event → claim_number event < length a.claims → IsThere a event
is_there a event k h = grind arith

-- nor for a number
has_number : (a : Account) (event : Event) → IsOfClaim event → HasNumber a event
has_number a event k = grind arith

-- nor gives one
gives_number : (event : Event) (told : Told) (next : ℕ) → IsOfClaim event → GivesNumber event told next
gives_number event told next k = grind arith

module _ (rows : List Row) (slots : List Slot) (bytes : ℕ) (s : State) (view : state_of rows slots bytes ≡ s)
    (l : IsLawfulMachine (state_of rows slots bytes))
    (event : Event) (kind : IsOfClaim event) (i : ℕ) (number : i ≡ claim_number event) (slot : Slot) (there : i < length slots)
    (at : slot ≡ get_or slots i slot)
    (level : ℕ) (level_is : level ≡ level_of event (claim_of slot)) where
  -- the account
  abbrev a : Account
  a = account_of rows slots

  -- the claim is there
  inside : claim_number event < length a.claims
  inside = rw length-map (let n = number in omega arith)

  -- the slot stands for it
  its_claim : claim a (claim_number event) ≡ claim_of slot
  its_claim = subst (λ (n : ℕ). claim a n ≡ claim_of slot) number (get_or-map claim_of slots i slot no_claim there ∙ ap claim_of (sym at))

  -- the level is that of the event
  its_level : level_of event (claim a (claim_number event)) ≡ level
  its_level = ap (level_of event) its_claim ∙ sym level_is

  -- the row is that of the event
  its_effect : (r : Row) → level < length rows → r ≡ get_or rows level r → row rows (level_of event (claim_of slot)) ≡ r
  its_effect r h e = subst (λ (n : ℕ). row rows n ≡ r) level_is (get_or_default rows level blank r h ∙ sym e)

  -- the event is safe at the slot and the row
  pub turn_safe : (r : Row) → level < length rows → r ≡ get_or rows level r → IsSafe event slot r
  turn_safe r h e = event_safe (state_of rows slots bytes) l event slot r inside its_claim (its_effect r h e)

  -- an event at a level that has no row can't be taken
  pub turn_outside : length rows ≤ level → CanTake s event → ⊥
  turn_outside h can =
      let c = subst (λ (x : State). CanTake x event) (sym view) can in
      let u = phase_has_effect (claim a (claim_number event)) (row rows (level_of event (claim a (claim_number event)))) event kind
      c.in_phase in
      let k = keeps a event u.0 (whole_law a l.lawful).held inside u.1 in
      let m = made_in rows (level_of event (claim a (claim_number event))) k.made in
      let e = its_level in
      omega arith

  module _ (r r' : Row) (slot' : Slot) (told : Told) (h : level < length rows) (e : r ≡ get_or rows level r)
      (takes : TakesEvent event slot r told slot' r') where
    abbrev effect : Effect
    effect = record { told = told; row = r'; claim = claim_of slot' }

    abbrev b : Account
    b = account_of (set rows level r') (set slots i slot')

    is_effect : effect_of event (claim a (claim_number event)) (row rows (level_of event (claim a (claim_number event)))) ≡ Some effect
    is_effect = subst (λ (c : Claim). effect_of event c (row rows (level_of event c)) ≡ Some effect) (sym its_claim)
        (subst (λ (x : Row). effect_of event (claim_of slot) x ≡ Some effect) (sym (its_effect r h e)) takes)

    applies : AppliesToClaim a event told b
    applies = record {
      row_after = r';
      claim_after = claim_of slot';
      there = inside;
      effect = is_effect;
      rows = ap (λ (n : ℕ). set rows n r') (sym its_level);
      claims = map-set claim_of slots i slot' ∙ ap (λ (n : ℕ). set (map claim_of slots) n (claim_of slot')) number;
    }

    steps : (size : ℕ) → size ≡ spent event → size ≤ bytes →
        StepsTo (state_of rows slots bytes) event told (state_of (set rows level r') (set slots i slot') (bytes - size))
    steps size is fits = record {
      applies = applies_of a event told b kind applies;
      number = gives_number event told (made_count rows) kind;
      bytes = omega arith;
    }

    -- the row changes no number
    same_made : r'.shape.made ≡ (row rows level).shape.made
    same_made =
        let k = keeps a event effect (whole_law a l.lawful).held inside is_effect in
        ap (λ (x : Shape). x.made) k.same ∙ ap (λ (n : ℕ). (row rows n).shape.made) its_level

    -- the turn is a step of the machine
    pub turns : (size made : ℕ) → size ≡ spent event → size ≤ bytes → made ≡ made_count rows →
        IsStep s event told (state_of (set rows level r') (set slots i slot') (bytes - size)) made
    turns size made is fits count = record {
      steps = subst (λ (x : State). StepsTo x event told (state_of (set rows level r') (set slots i slot') (bytes - size))) view
          (steps size is fits);
      taken = subst (λ (x : State). CanTake x event) view (record {
        there = is_there a event kind inside;
        in_phase = effect_in_phase (claim a (claim_number event)) (row rows (level_of event (claim a (claim_number event)))) event effect
            is_effect;
        number = has_number a event kind;
        afforded = omega (arith, is, fits);
      });
      lawful = each_step (state_of rows slots bytes) (state_of (set rows level r') (set slots i slot') (bytes - size)) event told
          (steps size is fits) l;
      made = count ∙ sym (same_count (state_of rows slots bytes) l level r' h same_made);
    }
