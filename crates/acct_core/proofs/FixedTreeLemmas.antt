-- What keeps the law of a tree that is fixed from the start, beside the single events.
use Rattle.std.proofs.Common.{zero, suc, sym, ◌≡◌, ℕ, ◌≤◌, Bool, true, false, List, [], ◌∷◌, set, All, refl, subst, arith, Option, Some, None, ◌&&◌, ◌==◌}
use Rattle.std.proofs.lemmas.Bool.{lt-ltb, le-leb}
use Rattle.std.proofs.lemmas.List.{set-get_or}
use Rattle.std.proofs.lemmas.List.Elements.{All-cons, All-head, All-tail, All-nil}
use Rattle.std.proofs.lemmas.List.Sums.{sum_by-cons}
use Rattle.mem_num.specs.declared.bounds.TheConstants.{MAX_RESERVATION}
use Rattle.acct_core.specs.declared.row.Row.{Row}
use Rattle.acct_core.specs.declared.level_step.LevelStep.{LevelStep}
use Rattle.acct_core.specs.declared.event.Event.TheVariants.{Begin, Up as EventUp, Undo, Release, Down as EventDown}
use Rattle.acct_core.specs.declared.told.Told.TheVariants.{Began, Turned}
use Rattle.acct_core.specs.Rows.{blank, row, shapes}
use Rattle.acct_core.specs.NodeTree.{IsOpen}
use Rattle.acct_core.specs.Phases.{Phase, pending_addition, pending_subtraction}
use Rattle.acct_core.specs.Phases.Phase.{Free, In, Up, Held, Failed, Down, Bounced}
use Rattle.acct_core.specs.Claims.{Claim, account, claim_at, own_charge}
use Rattle.acct_core.specs.Lawful.{HasNextLevel, IsInTime, IsLawfulAccount, IsLawfulFixedTree, PaysFor}
use Rattle.acct_core.specs.Effects.{Effect, effect_of}
use Rattle.acct_core.specs.Heads.{claim_under}
use Rattle.acct_core.specs.FixedTrees.{CanTurnRound, settled, IsGivenTree}
use Rattle.acct_core.proofs.FitsLemmas.{ClaimFits, HeldLaw, fixed_law, balanced_account, each_claim, in_time}
use Rattle.acct_core.proofs.SumLemmas.{zero_cond}
use Rattle.acct_core.proofs.OrderLemmas.{Alike, alike_lawful}
use Rattle.acct_core.proofs.HeadLemmas.{head_fixed}

-- the law of a fixed tree, as it is used in proofs
pub held_law : (rows : List Row) (claims : List Claim) → IsLawfulFixedTree (account rows claims) → HeldLaw (account rows claims)
held_law rows claims l = fixed_law (account rows claims) l.fixed l.balanced

-- and back
pub fixed_again : (rows : List Row) (claims : List Claim) → ((n : ℕ) → (shapes rows n).made ≡ true → IsOpen (shapes rows) n) →
    All (λ c. c.under ≡ None) claims → HeldLaw (account rows claims) → IsLawfulFixedTree (account rows claims)
fixed_again rows claims opened bare h = record {
  fixed = record {
    opened = opened;
    in_time = each_claim (λ (c : Claim). ClaimFits (shapes rows) c.node c.under c.phase) (λ (c : Claim). IsInTime (shapes rows) c.node c.phase)
        claims (λ c. in_time (shapes rows) c.node c.under c.phase) h.claims;
    bare = bare;
  };
  balanced = balanced_account (account rows claims) h;
}

-- in a fixed tree, whose uses nobody counts, a claim without a charge may come
pub in_more : (rows : List Row) (n : ℕ) (claims : List Claim) → IsOpen (shapes rows) n → IsLawfulFixedTree (account rows claims) →
    IsLawfulFixedTree (account rows (claim_at n In ∷ claims))
in_more rows n claims o l = let h = held_law rows claims l in let c : Claim = claim_at n In in
    fixed_again rows (c ∷ claims) l.fixed.opened (All-cons (λ (x : Claim). x.under ≡ None) c claims refl l.fixed.bare) (record {
      tree = h.tree;
      balance = λ m p. (
          let e₁ = sum_by-cons (λ (x : Claim). pending_addition m x.phase) c claims in
          let e₂ = sum_by-cons (λ (x : Claim). pending_subtraction m x.phase) c claims in
          let e₃ = sum_by-cons (own_charge m) c claims in let z : own_charge m c ≡ 0 = zero_cond (n == m && true) in
          let b = h.balance m p in omega arith);
      empty = h.empty;
      claims = All-cons (λ (x : Claim). ClaimFits (shapes rows) x.node x.under x.phase) c claims (o, tt) h.claims;
    })

-- and go
pub in_less : (rows : List Row) (n : ℕ) (claims : List Claim) → IsLawfulFixedTree (account rows (claim_at n In ∷ claims)) →
    IsLawfulFixedTree (account rows claims)
in_less rows n claims l = let c : Claim = claim_at n In in let h = held_law rows (c ∷ claims) l in
    fixed_again rows claims l.fixed.opened (All-tail (λ (x : Claim). x.under ≡ None) c claims l.fixed.bare) (record {
      tree = h.tree;
      balance = λ m p. (
          let e₁ = sum_by-cons (λ (x : Claim). pending_addition m x.phase) c claims in
          let e₂ = sum_by-cons (λ (x : Claim). pending_subtraction m x.phase) c claims in
          let e₃ = sum_by-cons (own_charge m) c claims in let z : own_charge m c ≡ 0 = zero_cond (n == m && true) in
          let b = h.balance m p in omega arith);
      empty = h.empty;
      claims = All-tail (λ (x : Claim). ClaimFits (shapes rows) x.node x.under x.phase) c claims h.claims;
    })

-- a claim that was released all the way goes, and any other stays
pub settled_fixed : (rows : List Row) (n : ℕ) (phase : Phase) (claims : List Claim) →
    IsLawfulFixedTree (account rows (claim_at n phase ∷ claims)) → IsLawfulFixedTree (account rows (settled (claim_at n phase) claims))
settled_fixed rows n In claims l = in_less rows n claims l
settled_fixed rows n Free claims l = l
settled_fixed rows n (Up size next pending forced steps) claims l = l
settled_fixed rows n (Held size forced steps) claims l = l
settled_fixed rows n (Failed size forced steps) claims l = l
settled_fixed rows n (Down size next pending) claims l = l
settled_fixed rows n Bounced claims l = l

module _ (rows : List Row) (n size : ℕ) (claims : List Claim) where
  -- the first step of a request is two events in one: it begins, and adds its whole size at its node
  pub first_rise : (forced : Bool) (effect : Effect) → IsOpen (shapes rows) n → 1 ≤ size → size ≤ MAX_RESERVATION →
      effect_of (EventUp 0) (claim_at n (Up size n size forced [])) (row rows n) ≡ Some effect →
      IsLawfulFixedTree (account rows claims) → IsLawfulFixedTree (account (set rows n effect.row) (effect.claim ∷ claims))
  first_rise forced effect o some_size small is l =
      let c : Claim = claim_at n (Up size n size forced []) in
      let begun : effect_of (Begin 0 size forced) (claim_at n In) (row rows n) ≡ Some (record { told = Began; row = row rows n; claim = c }) =
      rw (lt-ltb 0 size (omega arith), le-leb size MAX_RESERVATION small) refl in
      let l₁ = head_fixed rows (claim_at n In) claims (Begin 0 size forced) (record { told = Began; row = row rows n; claim = c }) refl begun
      (in_more rows n claims o l) in
      head_fixed rows c claims (EventUp 0) effect refl is
      (subst (λ (r : List Row). IsLawfulFixedTree (account r (c ∷ claims))) (set-get_or rows n blank) l₁)

  -- a charge that turns round keeps the law
  pub turn_fixed : (phase : Phase) → CanTurnRound size phase → IsLawfulFixedTree (account rows (claim_at n phase ∷ claims)) →
      IsLawfulFixedTree (account rows (claim_at n (Down size n size) ∷ claims))
  turn_fixed (Held s forced steps) e l = subst (λ (r : List Row). IsLawfulFixedTree (account r (claim_at n (Down size n size) ∷ claims)))
      (set-get_or rows n blank)
      (head_fixed rows (claim_at n (Held s forced steps)) claims (Release 0)
      (record { told = Turned; row = row rows n; claim = claim_at n (Down size n size) }) refl (rw e refl) l)
  turn_fixed (Failed s forced steps) e l = subst (λ (r : List Row). IsLawfulFixedTree (account r (claim_at n (Down size n size) ∷ claims)))
      (set-get_or rows n blank)
      (head_fixed rows (claim_at n (Failed s forced steps)) claims (Undo 0)
      (record { told = Turned; row = row rows n; claim = claim_at n (Down size n size) }) refl (rw e refl) l)
  turn_fixed Free e l = elim e [ ]
  turn_fixed In e l = elim e [ ]
  turn_fixed (Up _ _ _ _ _) e l = elim e [ ]
  turn_fixed (Down _ _ _) e l = elim e [ ]
  turn_fixed Bounced e l = elim e [ ]

  -- the first step of a release is two events in one: the charge turns round, and its whole size is subtracted at its node
  pub first_fall : (phase : Phase) (effect : Effect) → CanTurnRound size phase →
      effect_of (EventDown 0) (claim_at n (Down size n size)) (row rows n) ≡ Some effect →
      IsLawfulFixedTree (account rows (claim_at n phase ∷ claims)) → IsLawfulFixedTree (account (set rows n effect.row) (effect.claim ∷ claims))
  first_fall phase effect can is l = head_fixed rows (claim_at n (Down size n size)) claims (EventDown 0) effect refl is
      (turn_fixed phase can l)

-- a tree that is given, in which nothing is charged, is lawful
pub given_fixed : (rows : List Row) → IsGivenTree rows → IsLawfulFixedTree (account rows [])
given_fixed rows g = fixed_again rows [] g.opened (All-nil (λ (c : Claim). c.under ≡ None)) (record {
  tree = g.tree;
  balance = λ n o. (let h = g.held n o in omega arith);
  empty = g.closed;
  claims = All-nil (λ (c : Claim). ClaimFits (shapes rows) c.node c.under c.phase);
})

-- a held claim weighs as much without its steps, forced or not
forgotten_alike : (rows : List Row) (n size : ℕ) (under : Option ℕ) (forced : Bool) (steps : List LevelStep) (claims : List Claim) →
    Alike rows ((record { node = n; under = under; phase = Held size forced steps }) ∷ claims)
    ((record { node = n; under = under; phase = Held size false [] }) ∷ claims)
forgotten_alike rows n size under forced steps claims =
    let c : Claim = record { node = n; under = under; phase = Held size forced steps } in
    let d : Claim = record { node = n; under = under; phase = Held size false [] } in
    record {
      add = λ m. refl;
      take = λ m. refl;
      own = λ m. refl;
      used = λ m. refl;
      stand = λ m. refl;
      fit = λ h. (
          let f = All-head (λ (x : Claim). ClaimFits (shapes rows) x.node x.under x.phase) c claims h in
          All-cons (λ (x : Claim). ClaimFits (shapes rows) x.node x.under x.phase) d claims (f.0, f.1, (λ e. refl), f.3)
          (All-tail (λ (x : Claim). ClaimFits (shapes rows) x.node x.under x.phase) c claims h));
    }

-- a held claim may forget its steps, and whether it was forced
pub forgotten_lawful : (rows : List Row) (n size : ℕ) (under : Option ℕ) (forced : Bool) (steps : List LevelStep) (claims : List Claim) →
    IsLawfulAccount (account rows ((record { node = n; under = under; phase = Held size forced steps }) ∷ claims)) →
    IsLawfulAccount (account rows ((record { node = n; under = under; phase = Held size false [] }) ∷ claims))
forgotten_lawful rows n size under forced steps claims = alike_lawful rows
    ((record { node = n; under = under; phase = Held size forced steps }) ∷ claims)
    ((record { node = n; under = under; phase = Held size false [] }) ∷ claims) (forgotten_alike rows n size under forced steps claims)

-- a claim that pays for a reservation is as lawful as the one that stands under a child
pub paying_lawful : (rows : List Row) (p r : ℕ) (phase : Phase) (claims : List Claim) → PaysFor r phase →
    IsLawfulAccount (account rows (claim_at p phase ∷ claims)) → IsLawfulAccount (account rows (claim_under p None r ∷ claims))
paying_lawful rows p zero In claims pays l = l
paying_lawful rows p (suc less) In claims pays l = absurd (omega arith)
paying_lawful rows p zero (Held size forced steps) claims pays l =
    let f = All-head (λ (c : Claim). HasNextLevel (shapes rows) c.node c.phase) (claim_at p (Held size forced steps)) claims l.next_levels in
    absurd (omega arith)
paying_lawful rows p (suc less) (Held size forced steps) claims pays l =
    subst (λ (x : ℕ). IsLawfulAccount (account rows (claim_at p (Held x false []) ∷ claims))) (sym pays)
    (forgotten_lawful rows p size None forced steps claims l)
paying_lawful rows p r Free claims pays l = elim pays [ ]
paying_lawful rows p r (Up size next pending forced steps) claims pays l = elim pays [ ]
paying_lawful rows p r (Failed size forced steps) claims pays l = elim pays [ ]
paying_lawful rows p r (Down size next pending) claims pays l = elim pays [ ]
paying_lawful rows p r Bounced claims pays l = elim pays [ ]
