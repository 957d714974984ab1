-- In a lawful state no number wraps in any event.
use Rattle.std.proofs.Common.{◌≡◌, ℕ, ◌*◌, ◌^◌, ◌<◌, ◌≤◌, true, false, cond, not, ◌&&◌, List, get_or, length, ◌==◌, Option, sum_by, arith, refl, ap, ◌∙◌, subst, eq-eqb}
use Rattle.std.proofs.lemmas.List.Elements.{All-get_or}
use Rattle.std.proofs.lemmas.List.Sums.{get_or-le-sum_by, sum_by-le}
use Rattle.mem_num.specs.declared.bounds.TheConstants.{MAX_RESERVATION}
use Rattle.acct_core.specs.declared.shape.Shape.{Shape}
use Rattle.acct_core.specs.declared.row.Row.{Row}
use Rattle.acct_core.specs.declared.level_step.LevelStep.{LevelStep}
use Rattle.acct_core.specs.Claims.{Claim, claim, no_claim, use_count}
use Rattle.acct_core.specs.declared.event.Event.{Event}
use Rattle.acct_core.specs.declared.event.Event.TheVariants as events
use Rattle.acct_core.specs.declared.stage.Stage.{Stage}
use Rattle.acct_core.specs.declared.stage.Stage.TheVariants.{Free, In, Up, Held, Failed, Down, Bounced}
use Rattle.acct_core.specs.declared.slot.Slot.{Slot}
use Rattle.acct_core.specs.Rows.{row, shapes}
use Rattle.acct_core.specs.NodeTree.{IsNodeTree, IsOpen}
use Rattle.acct_core.specs.Phases.{size_of, is_free, pending_subtraction}
use Rattle.acct_core.specs.Bounds.{open_reservation}
use Rattle.acct_core.specs.Effects.{claim_number, level_of, next_level}
use Rattle.acct_core.specs.Stages.{phase_of}
use Rattle.acct_core.specs.Slots.{claim_of, CanBegin, CanRise, CanFall, CanLeave, IsSafe}
use Rattle.acct_core.specs.State.{State, IsLawfulMachine}
use Rattle.acct_core.proofs.FitsLemmas.{ClaimFits, HeldLaw, whole_law, its_fits}
use Rattle.acct_core.proofs.LineLemmas.{made_in, reaches_open}
use Rattle.acct_core.proofs.CoverLemmas.{covered}
use Rattle.acct_core.proofs.BoundLemmas.{bounded}

-- a claim uses a node once at most
one_use : (n : ℕ) (c : Claim) → use_count n c ≤ 1
one_use n c = elim (c.node == n && not (is_free c.phase)) as (λ b. cond b 1 0 ≤ 1) [ true ↦ omega arith | false ↦ omega arith ]

module _ (s : State) (l : IsLawfulMachine s) where
  -- the rows
  abbrev rows : List Row
  rows = s.account.rows

  -- the law of the held numbers
  held_law : HeldLaw s.account
  held_law = (whole_law s.account l.lawful).held

  -- the uses of a node are few
  pub few_uses : (n : ℕ) → (row rows n).uses < 2 ^ 32
  few_uses n =
      let u = l.lawful.use_counts n in
      let m = sum_by-le (use_count n) 1 s.account.claims (λ i d h. one_use n (get_or s.account.claims i d)) in
      let f = l.few in
      omega arith

  -- all open reservations together are small
  reservations_small : sum_by open_reservation rows ≤ 64 * 2 ^ 40
  reservations_small =
      let m = sum_by-le open_reservation (2 ^ 40) rows
      (λ i d h. cut (get_or rows i d) (All-get_or (λ (r : Row). r.shape.reservation ≤ MAX_RESERVATION) rows i d h l.reservations)) in
      let w = l.wide in
      omega arith
    where
      cut : (r : Row) → r.shape.reservation ≤ 2 ^ 40 → open_reservation r ≤ 2 ^ 40
      cut r h = elim r.shape.is_open as (λ b. cond b r.shape.reservation 0 ≤ 2 ^ 40) [ true ↦ h | false ↦ omega arith ]

  -- a held number is small
  pub small_held : (n : ℕ) → (row rows n).held < 2 ^ 62
  small_held n = let b = bounded s.account held_law n in let g = l.budget in let r = reservations_small in omega arith

  -- the law of one claim and of its row
  module _ (i : ℕ) (there : i < length s.account.claims) where
    abbrev c : Claim
    c = claim s.account i

    size_small : size_of c.phase ≤ MAX_RESERVATION
    size_small = All-get_or (λ (c : Claim). size_of c.phase ≤ MAX_RESERVATION) s.account.claims i no_claim there l.sizes

    its_use : use_count c.node c ≤ (row rows c.node).uses
    its_use = let u = l.lawful.use_counts c.node in let g = get_or-le-sum_by (use_count c.node) s.account.claims i no_claim there in
        omega arith

    its_subtraction : (n : ℕ) → IsOpen (shapes rows) n → pending_subtraction n c.phase ≤ (row rows n).held
    its_subtraction n o = let c = covered s.account held_law n o in
        let t = get_or-le-sum_by (λ (c : Claim). pending_subtraction n c.phase) s.account.claims i no_claim there in omega arith

-- a number that was made is below the number of rows
made_below : (s : State) (l : IsLawfulMachine s) (n : ℕ) → IsOpen (shapes s.account.rows) n → n < 64
made_below s l n o = let m = made_in s.account.rows n (l.lawful.tree.made n o) in let w = l.wide in omega arith

module _ (shape : ℕ → Shape) (tree : IsNodeTree shape) (node : ℕ) (under : Option ℕ) (steps : List LevelStep) where
  -- a claim that begins is at a node that has a row
  begin_safe : (stage : Stage) → ClaimFits shape node under (phase_of stage steps) → (IsOpen shape node → node < 64) → CanBegin stage node
  begin_safe In f h = h f.0
  begin_safe _ f h = tt

  -- an addition fits, and the next level has a smaller number
  rise_safe : (stage : Stage) (r : Row) → ClaimFits shape node under (phase_of stage steps) →
      shape (next_level node (phase_of stage steps)) ≡ r.shape → r.held < 2 ^ 62 → size_of (phase_of stage steps) ≤ 2 ^ 40 → CanRise stage r
  rise_safe (Up size next pending forced) r f e h z =
      ((let p = f.4 in omega arith), λ p q. tree.smaller next p (ap (λ (x : Shape). x.parent) e ∙ q))
  rise_safe _ r f e h z = tt

  -- a subtraction is covered
  fall_safe : (stage : Stage) (r : Row) → ClaimFits shape node under (phase_of stage steps) →
      ((n : ℕ) → IsOpen shape n → next_level node (phase_of stage steps) ≡ n → pending_subtraction n (phase_of stage steps) ≤ r.held) →
      CanFall stage r
  fall_safe (Down size next pending) r f h = rw (eq-eqb next next refl) at (h next (reaches_open tree f.2 f.0) refl)
  fall_safe _ r f h = tt

  -- a use is there to be given back
  leave_safe : (stage : Stage) (r : Row) → use_count node (record { node = node; under = under; phase = phase_of stage steps }) ≤ r.uses →
      CanLeave stage r
  leave_safe Free r h = tt
  leave_safe In r h = rw (eq-eqb node node refl) at h
  leave_safe (Up size next pending forced) r h = rw (eq-eqb node node refl) at h
  leave_safe (Held size forced) r h = rw (eq-eqb node node refl) at h
  leave_safe (Failed size forced) r h = rw (eq-eqb node node refl) at h
  leave_safe (Down size next pending) r h = rw (eq-eqb node node refl) at h
  leave_safe Bounced r h = rw (eq-eqb node node refl) at h

-- an event at a slot that stands for the event's claim is safe
pub event_safe : (s : State) (l : IsLawfulMachine s) (event : Event) (slot : Slot) (r : Row) →
    claim_number event < length s.account.claims →
    claim s.account (claim_number event) ≡ claim_of slot → row s.account.rows (level_of event (claim_of slot)) ≡ r → IsSafe event slot r
event_safe s l event slot r there is at = go event there is at
  where
    shape_at : (n : ℕ) → row s.account.rows n ≡ r → shapes s.account.rows n ≡ r.shape
    shape_at n e = ap (λ (x : Row). x.shape) e

    held_at : (n : ℕ) → row s.account.rows n ≡ r → r.held < 2 ^ 62
    held_at n e = let h = small_held s l n in let q = ap (λ (x : Row). x.held) e in omega arith

    fits_at : (i : ℕ) → i < length s.account.claims → claim s.account i ≡ claim_of slot →
        ClaimFits (shapes s.account.rows) slot.node slot.under (phase_of slot.stage slot.steps.items)
    fits_at i h e = subst (λ (c : Claim). ClaimFits (shapes s.account.rows) c.node c.under c.phase) e
        (its_fits s.account (held_law s l) i h)

    go : (event : Event) → claim_number event < length s.account.claims → claim s.account (claim_number event) ≡ claim_of slot →
        row s.account.rows (level_of event (claim_of slot)) ≡ r → IsSafe event slot r
    go (events.Enter i node) h e q = let f = few_uses s l node.0 in let u = ap (λ (x : Row). x.uses) q in omega arith
    go (events.Begin i size force) h e q = begin_safe (shapes s.account.rows) l.lawful.tree slot.node slot.under slot.steps.items
        slot.stage (fits_at i h e) (made_below s l slot.node)
    go (events.Up i) h e q = rise_safe (shapes s.account.rows) l.lawful.tree slot.node slot.under slot.steps.items slot.stage r
        (fits_at i h e)
        (shape_at (next_level slot.node (phase_of slot.stage slot.steps.items)) q)
        (held_at (next_level slot.node (phase_of slot.stage slot.steps.items)) q)
        (subst (λ (c : Claim). size_of c.phase ≤ 2 ^ 40) e (size_small s l i h))
    go (events.Down i) h e q = fall_safe (shapes s.account.rows) l.lawful.tree slot.node slot.under slot.steps.items slot.stage r
        (fits_at i h e)
        (λ n o same. (let p = its_subtraction s l i h n o in let x = ap (λ (c : Claim). pending_subtraction n c.phase) e in
        let y = ap (λ (m : ℕ). (row s.account.rows m).held) same in let z = ap (λ (x : Row). x.held) q in omega arith))
    go (events.Leave i) h e q = leave_safe (shapes s.account.rows) l.lawful.tree slot.node slot.under slot.steps.items slot.stage r
        (let u = its_use s l i h in let x = ap (λ (c : Claim). use_count c.node c) e in
        let y = ap (λ (c : Claim). (row s.account.rows c.node).uses) e in let z = ap (λ (x : Row). x.uses) q in omega arith)
    go _ h e q = tt
