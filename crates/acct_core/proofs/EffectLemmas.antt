-- What each event of a claim does keeps what the law says of it.
use Rattle.std.proofs.Common.{zero, suc, ◌≡◌, ℕ, ◌+◌, ◌-◌, ◌≤◌, Bool, true, false, cond, not, ◌&&◌, List, [], ◌∷◌, ◌++◌, is_none, ◌==◌, nat_lt, nat_le, Option, Some, None, arith, refl, sym, ap, ◌∙◌, subst, eq-eqb, ltb-true, ⊎_elim}
use Rattle.std.proofs.lemmas.Option.{same_Some}
use Rattle.std.proofs.lemmas.Bool.{true≢false, cases_Bool, and_parts, not-true, cond-true, cond-false}
use Rattle.mem_num.specs.declared.bounds.TheConstants.{MAX_RESERVATION}
use Rattle.acct_core.proofs.SumLemmas.{cond-and_false}
use Rattle.acct_core.specs.declared.shape.Shape.{Shape}
use Rattle.acct_core.specs.declared.row.Row.{Row}
use Rattle.acct_core.specs.declared.level_step.LevelStep.{LevelStep}
use Rattle.acct_core.specs.Phases.{Phase, pending_subtraction, is_free, any_past}
use Rattle.acct_core.specs.Claims.{Claim, use_count}
use Rattle.acct_core.specs.Phases.Phase.{Free, In, Up, Held, Failed, Down, Bounced}
use Rattle.mem_model.specs.Reservation.{beyond_reservation}
use Rattle.acct_core.specs.NodeTree.{IsNodeTree, IsOpen, Reaches}
use Rattle.acct_core.specs.NodeTree.Reaches.{here, above}
use Rattle.acct_core.specs.Effects.{Effect, passed, ended, goes_on, goes_back, step_at, enter_effect, begin_effect, up_effect, undo_effect, release_effect, down_effect, leave_effect, next_level}
use Rattle.acct_core.proofs.FitsLemmas.{Carries, ClaimFits}
use Rattle.acct_core.proofs.LineLemmas.{reaches_open}
use Rattle.acct_core.proofs.BalanceLemmas.{conserves_up, conserves_down, conserves_begin, conserves_turn, conserves_none}
use Rattle.acct_core.proofs.KeptLemmas.{Keeps}

-- a claim in another phase
abbrev pub with_phase : Claim → Phase → Claim
with_phase c phase = record { node = c.node; under = c.under; phase = phase }

-- the claim of a node, of what stands on it and of a phase
abbrev pub claim_of_parts : ℕ → Option ℕ → Phase → Claim
claim_of_parts node under phase = record { node = node; under = under; phase = phase }

-- who is none
none_is : (o : Option ℕ) → is_none o ≡ true → o ≡ None
none_is None h = refl
none_is (Some x) h = absurd cc

-- a claim on which nothing stands carries nothing
carries_none : (shape : ℕ → Shape) (node : ℕ) (under : Option ℕ) (size : ℕ) → under ≡ None → Carries shape node under size
carries_none shape node under size free = subst (λ (u : Option ℕ). Carries shape node u size) (sym free) tt

-- what a request fits that ends, or that goes on
fits_ended : (shape : ℕ → Shape) (node : ℕ) (under : Option ℕ) (size : ℕ) (forced : Bool) (steps : List LevelStep) →
    IsOpen shape node → under ≡ None → 1 ≤ size → ClaimFits shape node under (ended size forced steps)
fits_ended shape node under size forced steps o free big = ⊎_elim
    (λ (yes : not forced && any_past steps ≡ true). let p = and_parts (not forced) (any_past steps) yes in
    rw yes (o, free, not-true forced p.0, p.1, big))
    (λ (no : not forced && any_past steps ≡ false). rw no (o, carries_none shape node under size free, (λ f. rw f at no), big))
    (cases_Bool (not forced && any_past steps))

-- a next level and an amount that fit a size
abbrev pub PairFits : (ℕ → Shape) → ℕ → ℕ → Option (ℕ × ℕ) → Type 0
PairFits shape node size None = Unit {0}
PairFits shape node size (Some pair) = Reaches shape node pair.0 × (1 ≤ pair.1) × (pair.1 ≤ size)

-- what a level passes fits
pub fits_passed : (shape : ℕ → Shape) (node level : ℕ) (parent : Option ℕ) (amount size : ℕ) → Reaches shape node level →
    (shape level).parent ≡ parent → amount ≤ size → PairFits shape node size (passed parent amount)
fits_passed shape node level None amount size r e h = tt
fits_passed shape node level (Some p) zero size r e h = tt
fits_passed shape node level (Some p) (suc amount) size r e h = (above r e, omega arith, h)

-- a request that goes on fits
fits_on : (shape : ℕ → Shape) (node : ℕ) (under : Option ℕ) (pair : Option (ℕ × ℕ)) (size : ℕ) (forced : Bool) (steps : List LevelStep) →
    IsOpen shape node → under ≡ None → PairFits shape node size pair → 1 ≤ size →
    ClaimFits shape node under (goes_on pair size forced steps)
fits_on shape node under None size forced steps o free f big = fits_ended shape node under size forced steps o free big
fits_on shape node under (Some pair) size forced steps o free f big = (o, free, f.0, f.1, f.2)

-- a release that goes back fits
fits_back : (shape : ℕ → Shape) (node : ℕ) (under : Option ℕ) (pair : Option (ℕ × ℕ)) (size : ℕ) → IsOpen shape node → under ≡ None →
    PairFits shape node size pair → ClaimFits shape node under (goes_back pair size)
fits_back shape node under None size o free f = (o, carries_none shape node under 0 free)
fits_back shape node under (Some pair) size o free f = (o, free, f.0, f.1, f.2)

-- neither is free
busy_on : (pair : Option (ℕ × ℕ)) (size : ℕ) (forced : Bool) (steps : List LevelStep) → is_free (goes_on pair size forced steps) ≡ false
busy_on None size forced steps =
    elim (not forced && any_past steps) as (λ b. is_free (cond b (Failed size forced steps) (Held size forced steps)) ≡ false)
    [ true ↦ refl | false ↦ refl ]
busy_on (Some pair) size forced steps = refl

-- a release that goes back is not free
busy_back : (pair : Option (ℕ × ℕ)) (size : ℕ) → is_free (goes_back pair size) ≡ false
busy_back None size = refl
busy_back (Some pair) size = refl

-- two phases of which neither is free use a node alike
same_uses : (n m uses : ℕ) (c : Claim) (phase : Phase) → is_free c.phase ≡ is_free phase → cond (m == n) uses 0 + use_count n c
    ≡ cond (m == n) uses 0 + use_count n (with_phase c phase)
same_uses n m uses c phase e = ap (λ (b : Bool). cond (m == n) uses 0 + cond (c.node == n && not b) 1 0) e

-- a node is not open and closed
pub closed_open : {A : Type 0} (b : Bool) → b ≡ true → b ≡ false → A
closed_open b t f = absurd (true≢false (sym t ∙ f))

-- a use less
loses : (here : Bool) (uses : ℕ) → 1 ≤ uses → cond here (uses - 1) 0 + cond (here && true) 1 0 ≡ cond here uses 0 + cond (here && false) 1 0
loses true uses w = omega arith
loses false uses w = omega arith

module _ (shape : ℕ → Shape) (t : IsNodeTree shape) where
  -- an open number has an open row
  open_there : (m : ℕ) (r : Row) → shape m ≡ r.shape → IsOpen shape m → r.shape.is_open ≡ true
  open_there m r s o = sym (ap (λ (x : Shape). x.is_open) s) ∙ o

  -- and one that was made
  made_there : (m : ℕ) (r : Row) → shape m ≡ r.shape → IsOpen shape m → r.shape.made ≡ true
  made_there m r s o = sym (ap (λ (x : Shape). x.made) s) ∙ t.made m o

  module _ (node : ℕ) (under : Option ℕ) where
    -- what an effect keeps at the row m
    abbrev KeepsAt : ℕ → Phase → Row → Effect → Type 0
    KeepsAt m phase r u = Keeps shape m r u.row (claim_of_parts node under phase) u.claim

    pub keeps_up : (phase : Phase) (r : Row) (u : Effect) → ClaimFits shape node under phase → shape (next_level node phase) ≡ r.shape →
        up_effect (claim_of_parts node under phase) phase r ≡ Some u → KeepsAt (next_level node phase) phase r u
    keeps_up (Up size next pending forced steps) r u f s e =
        let c : Claim = claim_of_parts node under (Up size next pending forced steps) in
        let further : Option (ℕ × ℕ) = passed r.shape.parent (beyond_reservation r.shape.reservation r.held (r.held + pending)) in
        let o = reaches_open t f.2 f.0 in
        subst (KeepsAt next (Up size next pending forced steps) r) (same_Some _ u e) (record {
          conserves = λ n. conserves_up n next node under size pending forced steps (steps ++ step_at next r pending ∷ []) r
              (open_there next r s o);
          uses = λ w n. same_uses n next r.uses c _ (sym (busy_on further size forced (steps ++ step_at next r pending ∷ [])));
          same = refl;
          made = made_there next r s o;
          fits = fits_on shape node under further size forced (steps ++ step_at next r pending ∷ []) f.0 f.1
              (fits_passed shape node next r.shape.parent (beyond_reservation r.shape.reservation r.held (r.held + pending)) size f.2
              (ap (λ (x : Shape). x.parent) s) (let p = f.4 in omega arith))
              (let p = f.3 in let q = f.4 in omega arith);
          under = refl;
          empty = closed_open r.shape.is_open (open_there next r s o);
        })
    keeps_up _ r u f s e = absurd cc

    pub keeps_down : (phase : Phase) (r : Row) (u : Effect) → ClaimFits shape node under phase → shape (next_level node phase) ≡ r.shape →
        (IsOpen shape (next_level node phase) → pending_subtraction (next_level node phase) phase ≤ r.held) →
        down_effect (claim_of_parts node under phase) phase r ≡ Some u → KeepsAt (next_level node phase) phase r u
    keeps_down (Down size next pending) r u f s w e =
        let c : Claim = claim_of_parts node under (Down size next pending) in
        let further : Option (ℕ × ℕ) = passed r.shape.parent (beyond_reservation r.shape.reservation (r.held - pending) r.held) in
        let o = reaches_open t f.2 f.0 in
        let within : pending ≤ r.held = rw (eq-eqb next next refl) at (w o) in
        subst (KeepsAt next (Down size next pending) r) (same_Some _ u e) (record {
          conserves = λ n. conserves_down n next node under size pending r (open_there next r s o) within;
          uses = λ w n. same_uses n next r.uses c _ (sym (busy_back further size));
          same = refl;
          made = made_there next r s o;
          fits = fits_back shape node under further size f.0 f.1
              (fits_passed shape node next r.shape.parent (beyond_reservation r.shape.reservation (r.held - pending) r.held) size f.2
              (ap (λ (x : Shape). x.parent) s) (let p = f.4 in omega arith));
          under = refl;
          empty = closed_open r.shape.is_open (open_there next r s o);
        })
    keeps_down _ r u f s w e = absurd cc

    pub keeps_begin : (size : ℕ) (forced : Bool) (phase : Phase) (r : Row) (u : Effect) → ClaimFits shape node under phase →
        shape node ≡ r.shape →
        begin_effect size forced (claim_of_parts node under phase) phase r ≡ Some u → KeepsAt node phase r u
    keeps_begin size forced In r u f s e = ⊎_elim
        (λ (yes : is_none under && (nat_lt 0 size && nat_le size MAX_RESERVATION) ≡ true).
        let p = and_parts (is_none under) (nat_lt 0 size && nat_le size MAX_RESERVATION) yes in
        let q = and_parts (nat_lt 0 size) (nat_le size MAX_RESERVATION) p.1 in
        let free = none_is under p.0 in
        subst (KeepsAt node In r) (same_Some _ u (sym (cond-true (is_none under && (nat_lt 0 size && nat_le size MAX_RESERVATION)) _ _ yes)
        ∙ e)) (record {
          conserves = λ n. conserves_begin n node size under forced r free;
          uses = λ w n. same_uses n node r.uses (claim_of_parts node under In) (Up size node size forced []) refl;
          same = refl;
          made = made_there node r s f.0;
          fits = (f.0, free, here, ltb-true 0 size q.0, omega arith);
          under = refl;
          empty = closed_open r.shape.is_open (open_there node r s f.0);
        }))
        (λ (no : is_none under && (nat_lt 0 size && nat_le size MAX_RESERVATION) ≡ false). let g = sym
        (cond-false (is_none under && (nat_lt 0 size && nat_le size MAX_RESERVATION)) _ _ no) ∙ e in absurd cc)
        (cases_Bool (is_none under && (nat_lt 0 size && nat_le size MAX_RESERVATION)))
    keeps_begin size forced _ r u f s e = absurd cc

    pub keeps_undo : (phase : Phase) (r : Row) (u : Effect) → ClaimFits shape node under phase → shape node ≡ r.shape →
        undo_effect (claim_of_parts node under phase) phase r ≡ Some u → KeepsAt node phase r u
    keeps_undo (Failed size forced steps) r u f s e =
        subst (KeepsAt node (Failed size forced steps) r) (same_Some _ u e) (record {
          conserves = λ n. conserves_turn n node size under (Failed size forced steps) r f.1 refl refl refl;
          uses = λ w n. same_uses n node r.uses (claim_of_parts node under (Failed size forced steps)) (Down size node size) refl;
          same = refl;
          made = made_there node r s f.0;
          fits = (f.0, f.1, here, f.4, omega arith);
          under = refl;
          empty = closed_open r.shape.is_open (open_there node r s f.0);
        })
    keeps_undo _ r u f s e = absurd cc

    pub keeps_release : (phase : Phase) (r : Row) (u : Effect) → ClaimFits shape node under phase → shape node ≡ r.shape →
        release_effect (claim_of_parts node under phase) phase r ≡ Some u → KeepsAt node phase r u
    keeps_release (Held size forced steps) r u f s e = ⊎_elim
        (λ (yes : is_none under ≡ true).
        let free = none_is under yes in
        subst (KeepsAt node (Held size forced steps) r) (same_Some _ u (rw yes at e)) (record {
          conserves = λ n. conserves_turn n node size under (Held size forced steps) r free refl refl refl;
          uses = λ w n. same_uses n node r.uses (claim_of_parts node under (Held size forced steps)) (Down size node size) refl;
          same = refl;
          made = made_there node r s f.0;
          fits = (f.0, free, here, f.3, omega arith);
          under = refl;
          empty = closed_open r.shape.is_open (open_there node r s f.0);
        }))
        (λ (no : is_none under ≡ false). let g = rw no at e in absurd cc)
        (cases_Bool (is_none under))
    keeps_release _ r u f s e = absurd cc

    pub keeps_enter : (to : ℕ) (phase : Phase) (r : Row) (u : Effect) → ClaimFits shape node under phase → shape to ≡ r.shape →
        (r.shape.is_open ≡ false → r.held ≡ 0) →
        enter_effect to (claim_of_parts node under phase) phase r ≡ Some u → KeepsAt to phase r u
    keeps_enter to Free r u f s z e = ⊎_elim
        (λ (there : r.shape.made ≡ true). ⊎_elim
        (λ (opened : r.shape.is_open ≡ true).
        subst (KeepsAt to Free r) (same_Some _ u
        (sym (cond-true r.shape.is_open _ _ opened) ∙ (sym (cond-true r.shape.made _ _ there) ∙ e))) (record {
          conserves = λ n. conserves_none n to r (record r { uses = r.uses + 1 }) c (record c { node = to; phase = In }) refl refl refl
              refl refl refl refl refl;
          uses = λ w n. rw cond-and_false (gains_at (to == n) r.uses);
          same = refl;
          made = there;
          fits = (ap (λ (x : Shape). x.is_open) s ∙ opened, carries_none shape to under 0 f);
          under = refl;
          empty = z;
        }))
        (λ (closed : r.shape.is_open ≡ false).
        subst (KeepsAt to Free r) (same_Some _ u
        (sym (cond-false r.shape.is_open _ _ closed) ∙ (sym (cond-true r.shape.made _ _ there) ∙ e))) (record {
          conserves = λ n. conserves_none n to r (record r { uses = r.uses + 1 }) c (record c { node = to; phase = Bounced }) refl refl
              refl refl refl refl refl refl;
          uses = λ w n. rw cond-and_false (gains_at (to == n) r.uses);
          same = refl;
          made = there;
          fits = (ap (λ (x : Shape). x.is_open) s ∙ closed, ap (λ (x : Shape). x.made) s ∙ there, f);
          under = refl;
          empty = z;
        }))
        (cases_Bool r.shape.is_open))
        (λ (no : r.shape.made ≡ false). let g = rw no at e in absurd cc)
        (cases_Bool r.shape.made)
      where
        c : Claim
        c = claim_of_parts node under Free

        gains_at : (here : Bool) (uses : ℕ) → cond here (uses + 1) 0 + 0 ≡ cond here uses 0 + cond (here && true) 1 0
        gains_at true uses = omega arith
        gains_at false uses = omega arith
    keeps_enter to _ r u f s z e = absurd cc

    pub keeps_leave : (phase : Phase) (r : Row) (u : Effect) → ClaimFits shape node under phase → shape node ≡ r.shape →
        (r.shape.is_open ≡ false → r.held ≡ 0) →
        leave_effect (claim_of_parts node under phase) phase r ≡ Some u → KeepsAt node phase r u
    keeps_leave In r u f s z e = ⊎_elim
        (λ (yes : is_none under ≡ true).
        subst (KeepsAt node In r) (same_Some _ u (rw yes at e)) (record {
          conserves = λ n. conserves_none n node r (record r { uses = r.uses - 1 }) (claim_of_parts node under In)
              (claim_of_parts node under Free) refl refl refl refl refl refl refl refl;
          uses = λ w n. loses (node == n) r.uses (rw (eq-eqb node node refl) at w);
          same = refl;
          made = made_there node r s f.0;
          fits = none_is under yes;
          under = refl;
          empty = z;
        }))
        (λ (no : is_none under ≡ false). let g = rw no at e in absurd cc)
        (cases_Bool (is_none under))
    keeps_leave Bounced r u f s z e =
        subst (KeepsAt node Bounced r) (same_Some _ u (sym (cond-true (is_none under) _ _ (ap is_none f.2)) ∙ e)) (record {
          conserves = λ n. conserves_none n node r (record r { uses = r.uses - 1 }) (claim_of_parts node under Bounced)
              (claim_of_parts node under Free) refl refl refl refl refl refl refl refl;
          uses = λ w n. loses (node == n) r.uses (rw (eq-eqb node node refl) at w);
          same = refl;
          made = sym (ap (λ (x : Shape). x.made) s) ∙ f.1;
          fits = f.2;
          under = refl;
          empty = z;
        })
    keeps_leave _ r u f s z e = absurd cc
