-- The making and the closing of a child at a slot, as steps of the whole machine.
use Rattle.std.proofs.Common.{◌≡◌, ℕ, ◌+◌, ◌<◌, ◌≤◌, List, map, length, get_or, set, Option, Some, None, true, false, IsTrue, All, cond, arith, refl, sym, ap, ◌∙◌, subst, ⊎_elim, ltb-true, eq-eqb}
use Rattle.std.specs.List.{HoldsAt}
use Rattle.std.proofs.lemmas.Bool.{cases_Bool, le-ltb}
use Rattle.std.proofs.lemmas.List.{map-set, length-map, get_or-map, get_or_default}
use Rattle.std.proofs.lemmas.List.Elements.{All-get_or, All-map}
use Rattle.std.proofs.lemmas.List.Sums.{sum_by-set, get_or-le-sum_by}
use Rattle.acct_core.specs.declared.row.Row.{Row}
use Rattle.acct_core.specs.declared.shape.Shape.{Shape}
use Rattle.acct_core.specs.Claims.{Claim, Account, claim, no_claim, backing_count}
use Rattle.acct_core.specs.Phases.{Phase}
use Rattle.acct_core.specs.declared.told.Told.TheVariants.{Opened, Closed}
use Rattle.acct_core.specs.declared.event.Event.TheVariants as events
use Rattle.acct_core.specs.declared.slot.Slot.{Slot}
use Rattle.acct_core.specs.Rows.{blank, row, shapes, is_at}
use Rattle.acct_core.specs.NodeTree.{IsOpen}
use Rattle.acct_core.specs.Lawful.{PaysFor, IsInTime, backing_needed}
use Rattle.acct_core.specs.Applies.{opened_row, with_child, OpensChild, FreesBacking, closed_row, ClosesNode}
use Rattle.acct_core.specs.Slots.{claim_of, account_of}
use Rattle.acct_core.specs.State.{State, made_count, StepsTo, CanTake, IsLawfulMachine, state_of}
use Rattle.acct_core.proofs.SumLemmas.{some_term}
use Rattle.acct_core.proofs.LineLemmas.{at_some}
use Rattle.acct_core.proofs.StateLemmas.{each_step, same_count, made_one}
use Rattle.acct_core.proofs.CoreLemmas.{IsStep}

-- a claim that pays for something is at an open node
payer_open : (shape : ℕ → Shape) (node reservation : ℕ) (phase : Phase) → PaysFor reservation phase → IsInTime shape node phase →
    IsOpen shape node
payer_open shape node reservation Phase.In p t = t
payer_open shape node reservation (Phase.Held size forced steps) p t = t
payer_open shape node reservation _ p t = absurd p

module _ (rows : List Row) (slots : List Slot) (bytes : ℕ) (s : State) (view : state_of rows slots bytes ≡ s)
    (l : IsLawfulMachine (state_of rows slots bytes)) where
  -- the account
  abbrev a : Account
  a = account_of rows slots

  -- a child is made on the slot i
  module _ (made : ℕ) (made_is : made ≡ made_count rows) (i reservation limit : ℕ) (slot slot' : Slot) (r' : Row)
      (there : i < length slots) (at : slot ≡ get_or slots i slot)
      (bare : slot.under ≡ None) (pays : PaysFor reservation (claim_of slot).phase) (within : reservation ≤ limit) (below : made < 64)
      (carries : claim_of slot' ≡ with_child (Some made) (claim_of slot)) (child : r' ≡ opened_row slot.node reservation limit) where
    its_claim : claim a i ≡ claim_of slot
    its_claim = get_or-map claim_of slots i slot no_claim there ∙ ap claim_of (sym at)

    inside : i < length a.claims
    inside = rw length-map there

    parent_open : IsOpen (shapes rows) slot.node
    parent_open = payer_open (shapes rows) slot.node reservation (claim_of slot).phase pays
        (subst (λ (c : Claim). IsInTime (shapes rows) c.node c.phase) its_claim
        (All-get_or (λ (c : Claim). IsInTime (shapes rows) c.node c.phase) a.claims i no_claim inside l.lawful.late_entries))

    parent_below : slot.node < made
    parent_below = let n = ltb-true slot.node (made_count rows) (sym (l.numbered slot.node) ∙ l.lawful.tree.made slot.node parent_open) in
        omega arith

    opens : OpensChild a i reservation limit made (account_of (set rows made r') (set slots i slot'))
    opens = record {
      there = inside;
      within = within;
      bare = ap (λ (c : Claim). c.under) its_claim ∙ bare;
      pays = subst (λ (c : Claim). PaysFor reservation c.phase) (sym its_claim) pays;
      opened = subst (λ (c : Claim). IsOpen (shapes rows) c.node) (sym its_claim) parent_open;
      room = (let w = l.wide in omega arith);
      fresh = l.numbered made ∙ le-ltb made (made_count rows) (omega arith);
      greater = (let e = ap (λ (c : Claim). c.node) its_claim in let p = parent_below in omega arith);
      rows = ap (set rows made) (child ∙ ap (λ (c : Claim). opened_row c.node reservation limit) (sym its_claim));
      claims = map-set claim_of slots i slot' ∙ ap (set (map claim_of slots) i) (carries ∙ ap (with_child (Some made)) (sym its_claim));
    }

    steps : StepsTo (state_of rows slots bytes) (events.Open i reservation limit) (Opened (record { 0 = made }))
        (state_of (set rows made r') (set slots i slot') bytes)
    steps = record { applies = opens; number = ap (λ (n : ℕ). Opened (record { 0 = n })) made_is; bytes = omega arith }

    one_more : made + 1 ≡ made_count (set rows made r')
    one_more =
        let e = sum_by-set made_one rows made r' blank opens.room in
        let f : made_one (row rows made) ≡ 0 = ap (λ b. cond b 1 0) opens.fresh in
        let g : made_one r' ≡ 1 = ap made_one child in
        omega arith

    -- the making of the child is a step of the machine
    pub open_step : IsStep s (events.Open i reservation limit) (Opened (record { 0 = made }))
        (state_of (set rows made r') (set slots i slot') bytes)
        (made + 1)
    open_step = record {
      steps = subst (λ (x : State). StepsTo x (events.Open i reservation limit) (Opened (record { 0 = made }))
          (state_of (set rows made r') (set slots i slot') bytes)) view steps;
      taken = subst (λ (x : State). CanTake x (events.Open i reservation limit)) view (record {
        there = inside;
        in_phase = (opens.pays, opens.bare, within, opens.opened);
        number = (let e = made_is in omega arith);
        afforded = omega arith;
      });
      lawful = each_step (state_of rows slots bytes) (state_of (set rows made r') (set slots i slot') bytes)
          (events.Open i reservation limit) (Opened (record { 0 = made })) steps l;
      made = one_more;
    }

  -- the node n is closed
  module _ (n : ℕ) (r : Row) (there : n < length rows) (at : r ≡ get_or rows n r) (opened : r.shape.is_open ≡ true)
      (unused : r.uses ≡ 0) where
    row_is : row rows n ≡ r
    row_is = get_or_default rows n blank r there ∙ sym at

    is_open : IsOpen (shapes rows) n
    is_open = ap (λ (x : Row). x.shape.is_open) row_is ∙ opened

    abbrev rows_after : List Row
    rows_after = set rows n (closed_row r)

    module _ (slots_after : List Slot) (frees : FreesBacking n (shapes rows n).parent (map claim_of slots) (map claim_of slots_after)) where
      closes : ClosesNode a n (account_of (set rows n (closed_row r)) slots_after)
      closes = record {
        opened = is_open;
        unused = ap (λ (x : Row). x.uses) row_is ∙ unused;
        rows = ap (λ (x : Row). set rows n (closed_row x)) (sym row_is);
        claims = frees;
      }

      steps_closed : StepsTo (state_of rows slots bytes) (events.Close (record { 0 = n })) Closed
          (state_of (set rows n (closed_row r)) slots_after bytes)
      steps_closed = record { applies = closes; number = tt; bytes = omega arith }

      -- the closing is a step of the machine
      pub close_step : (made : ℕ) → made ≡ made_count rows →
          IsStep s (events.Close (record { 0 = n })) Closed (state_of (set rows n (closed_row r)) slots_after bytes) made
      close_step made count = record {
        steps = subst (λ (x : State). StepsTo x (events.Close (record { 0 = n })) Closed
            (state_of (set rows n (closed_row r)) slots_after bytes)) view steps_closed;
        taken = subst (λ (x : State). CanTake x (events.Close (record { 0 = n }))) view
            (record { there = tt; in_phase = rw is_open refl; number = tt; afforded = omega arith });
        lawful = each_step (state_of rows slots bytes) (state_of (set rows n (closed_row r)) slots_after bytes)
            (events.Close (record { 0 = n })) Closed steps_closed l;
        made = count ∙ sym (same_count (state_of rows slots bytes) l n (closed_row r) there (ap (λ (x : Row). x.shape.made) (sym row_is)));
      }

    -- n stands on the slot i
    pub frees_slot : (i : ℕ) (slot slot' : Slot) → i < length slots → HoldsAt (λ x. IsTrue (is_at x.under n)) slots i →
        slot ≡ get_or slots i slot → claim_of slot' ≡ with_child None (claim_of slot) →
        FreesBacking n (shapes rows n).parent (map claim_of slots) (map claim_of (set slots i slot'))
    frees_slot i slot slot' inside stands is bare = go (shapes rows n).parent refl
      where
        under_is : (claim a i).under ≡ Some n
        under_is = ap (λ (c : Claim). c.under) (get_or-map claim_of slots i slot no_claim inside)
            ∙ at_some (get_or slots i slot).under n (stands slot)

        go : (o : Option ℕ) → (shapes rows n).parent ≡ o → FreesBacking n o (map claim_of slots) (map claim_of (set slots i slot'))
        go None e =
            let needed : backing_needed (shapes rows n) ≡ 0 = rw (is_open, e) refl in
            let counted = l.lawful.backing.one_claim n in
            let one : backing_count n (claim a i) ≡ 1 = rw (under_is, eq-eqb n n refl) refl in
            let g = get_or-le-sum_by (backing_count n) a.claims i no_claim (rw length-map inside) in
            absurd (omega arith)
        go (Some p) e = record {
          place = i;
          there = rw length-map inside;
          carried = under_is;
          freed = map-set claim_of slots i slot' ∙ ap (set (map claim_of slots) i)
              (bare ∙ ap (with_child None) (sym (get_or-map claim_of slots i slot no_claim inside ∙ ap claim_of (sym is))));
        }

    -- n stands on no slot
    pub frees_none : All (λ slot. IsTrue (is_at slot.under n) → ⊥) slots →
        FreesBacking n (shapes rows n).parent (map claim_of slots) (map claim_of slots)
    frees_none none = go (shapes rows n).parent refl
      where
        go : (o : Option ℕ) → (shapes rows n).parent ≡ o → FreesBacking n o (map claim_of slots) (map claim_of slots)
        go None e = refl
        go (Some p) e =
            let needed : backing_needed (shapes rows n) ≡ 1 = rw (is_open, e) refl in
            let counted = l.lawful.backing.one_claim n in
            let term = some_term (backing_count n) a.claims no_claim (omega arith) in
            absurd (nobody (claim a term.0)
            (All-get_or (λ (c : Claim). IsTrue (is_at c.under n) → ⊥) a.claims term.0 no_claim term.1
            (All-map (λ (c : Claim). IsTrue (is_at c.under n) → ⊥) claim_of slots none)) term.2)
          where
            nobody : (c : Claim) → (IsTrue (is_at c.under n) → ⊥) → 0 < backing_count n c → ⊥
            nobody c none some = ⊎_elim none
                (λ (off : is_at c.under n ≡ false). let z : backing_count n c ≡ 0 = ap (λ b. cond b 1 0) off in absurd (omega arith))
                (cases_Bool (is_at c.under n))
