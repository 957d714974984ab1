-- The making of a child keeps the law.
use Rattle.std.proofs.Common.{◌≡◌, ℕ, ◌≢◌, max, true, false, cond, ◌&&◌, is_none, set, ◌==◌, eq-eqb, Option, Some, None, sum_by, arith, refl, sym, ap, ◌∙◌, subst, ⊎_elim, get_or-set_same, get_or-set_other}
use Rattle.std.proofs.lemmas.Bool.{true≢false, cases_eq, cases_Bool, and_parts}
use Rattle.std.proofs.lemmas.List.Elements.{All-set, All-weaker, All-from_get_or}
use Rattle.std.proofs.lemmas.List.Sums.{sum_by-set}
use Rattle.mem_model.proofs.ChargeSumLemmas.{sum_by-none}
use Rattle.acct_core.specs.declared.shape.Shape.{Shape}
use Rattle.acct_core.specs.declared.row.Row.{Row}
use Rattle.acct_core.specs.Phases.{Phase, charged, pending_addition, pending_subtraction}
use Rattle.acct_core.specs.Claims.{Claim, Account, own_charge, use_count, backing_count, claim, no_claim}
use Rattle.acct_core.specs.Rows.{blank, row, shapes, is_at}
use Rattle.acct_core.specs.Balance.{child_count, IsBalancedAt}
use Rattle.acct_core.specs.NodeTree.{IsNodeTree, IsOpen, Reaches}
use Rattle.acct_core.proofs.FitsLemmas.{ClaimFits, Carries, HeldLaw, UsesLaw, BackingLaw, WholeLaw, its_fits}
use Rattle.acct_core.specs.Lawful.{PaysFor, backing_needed}
use Rattle.acct_core.specs.Applies.{opened_row, OpensChild}
use Rattle.acct_core.specs.Phases.Phase.{Free, In, Up, Held, Failed, Down, Bounced}
use Rattle.acct_core.specs.NodeTree.Reaches.{here, above}
use Rattle.acct_core.proofs.SumLemmas.{zero_cond, off, off_and, cond-and_false}
use Rattle.acct_core.proofs.LineLemmas.{reaches_open, at_some}
use Rattle.acct_core.proofs.BalanceLemmas.{row_set}
use Rattle.acct_core.proofs.KeptLemmas.{each_row, same_account}

-- Allocators are added, and those that were made stay as they were
abbrev pub Grows : (ℕ → Shape) → (ℕ → Shape) → Type 0
Grows s t = (n : ℕ) → (s n).made ≡ true → t n ≡ s n

module _ (s t : ℕ → Shape) (tree : IsNodeTree s) (g : Grows s t) where
  -- who was open is open
  pub still_open : (n : ℕ) → IsOpen s n → IsOpen t n
  still_open n o = ap (λ (x : Shape). x.is_open) (g n (tree.made n o)) ∙ o

  -- who is above an open node stays above it
  pub still_reaches : (k n : ℕ) → IsOpen s k → Reaches s k n → Reaches t k n
  still_reaches k n o here = here
  still_reaches k n o (above {level = m} {parent = p} r e) =
      above (still_reaches k m o r) (ap (λ (x : Shape). x.parent) (g m (tree.made m (reaches_open tree r o))) ∙ e)

  -- a child stays as it was
  pub still_carries : (node size : ℕ) (under : Option ℕ) → Carries s node under size → Carries t node under size
  still_carries node size None c = tt
  still_carries node size (Some k) c = let e = g k (tree.made k c.0) in
      (still_open k c.0, ap (λ (x : Shape). x.parent) e ∙ c.1, ap (λ (x : Shape). x.reservation) e ∙ c.2)

  -- what the law says of a claim holds still
  pub still_fits : (node : ℕ) (under : Option ℕ) (phase : Phase) → ClaimFits s node under phase → ClaimFits t node under phase
  still_fits node under Free f = f
  still_fits node under In f = (still_open node f.0, still_carries node 0 under f.1)
  still_fits node under (Up size next pending forced steps) f = (still_open node f.0, f.1, still_reaches node next f.0 f.2, f.3, f.4)
  still_fits node under (Held size forced steps) f = (still_open node f.0, still_carries node size under f.1, f.2, f.3)
  still_fits node under (Failed size forced steps) f = (still_open node f.0, f.1, f.2, f.3, f.4)
  still_fits node under (Down size next pending) f = (still_open node f.0, f.1, still_reaches node next f.0 f.2, f.3, f.4)
  still_fits node under Bounced f = let e = g node f.1 in (ap (λ (x : Shape). x.is_open) e ∙ f.0, ap (λ (x : Shape). x.made) e ∙ f.1, f.2)

-- an open number is no closed one
apart : (s : ℕ → Shape) (m k : ℕ) → IsOpen s m → (s k).is_open ≡ false → m ≢ k
apart s m k o c e = true≢false (sym o ∙ ap (λ (n : ℕ). (s n).is_open) e ∙ c)

-- a level that isn't open has nothing to do with any claim
pub far : (s : ℕ → Shape) (tree : IsNodeTree s) (k : ℕ) → (s k).is_open ≡ false → (node : ℕ) (under : Option ℕ) (phase : Phase) →
    ClaimFits s node under phase →
    (pending_addition k phase ≡ 0) × (pending_subtraction k phase ≡ 0)
    × (own_charge k (record { node = node; under = under; phase = phase }) ≡ 0)
far s tree k closed node under Free f = (refl, refl, zero_cond (node == k && is_none under))
far s tree k closed node under In f = (refl, refl, zero_cond (node == k && is_none under))
far s tree k closed node under (Up size next pending forced steps) f = (
  off next k pending (apart s next k (reaches_open tree f.2 f.0) closed),
  refl,
  off_and node k size (is_none under) (apart s node k f.0 closed),
)
far s tree k closed node under (Held size forced steps) f = (refl, refl, off_and node k size (is_none under) (apart s node k f.0 closed))
far s tree k closed node under (Failed size forced steps) f = (refl, refl, off_and node k size (is_none under) (apart s node k f.0 closed))
far s tree k closed node under (Down size next pending) f =
    (refl, off next k pending (apart s next k (reaches_open tree f.2 f.0) closed), zero_cond (node == k && is_none under))
far s tree k closed node under Bounced f = (refl, refl, zero_cond (node == k && is_none under))

-- a number that was made is none that was not
unmade : (s : ℕ → Shape) (m k : ℕ) → (s m).made ≡ true → (s k).made ≡ false → m ≢ k
unmade s m k o c e = true≢false (sym o ∙ ap (λ (n : ℕ). (s n).made) e ∙ c)

-- a number that was never given has no uses
unused : (s : ℕ → Shape) (tree : IsNodeTree s) (k : ℕ) → (s k).made ≡ false → (node : ℕ) (under : Option ℕ) (phase : Phase) →
    ClaimFits s node under phase →
    use_count k (record { node = node; under = under; phase = phase }) ≡ 0
unused s tree k fresh node under Free f = cond-and_false (node == k) 1
unused s tree k fresh node under Bounced f = off_and node k 1 true (unmade s node k f.1 fresh)
unused s tree k fresh node under In f = off_and node k 1 true (unmade s node k (tree.made node f.0) fresh)
unused s tree k fresh node under (Up size next pending forced steps) f = off_and node k 1 true (unmade s node k (tree.made node f.0) fresh)
unused s tree k fresh node under (Held size forced steps) f = off_and node k 1 true (unmade s node k (tree.made node f.0) fresh)
unused s tree k fresh node under (Failed size forced steps) f = off_and node k 1 true (unmade s node k (tree.made node f.0) fresh)
unused s tree k fresh node under (Down size next pending) f = off_and node k 1 true (unmade s node k (tree.made node f.0) fresh)

-- a claim that pays for a reservation has charged just that
paid_amount : (reservation : ℕ) (phase : Phase) → PaysFor reservation phase → charged phase ≡ reservation
paid_amount reservation In h = sym h
paid_amount reservation (Held size forced steps) h = sym h
paid_amount reservation _ h = absurd h

-- a claim that pays for a reservation carries a child that reserves just that
payer_fits : (s t : ℕ → Shape) (reservation k node : ℕ) (under : Option ℕ) (phase : Phase) → PaysFor reservation phase →
    ClaimFits s node under phase →
    IsOpen t node → IsOpen t k → (t k).parent ≡ Some node → (t k).reservation ≡ reservation → ClaimFits t node (Some k) phase
payer_fits s t reservation k node under In h f o ok p q = (o, (ok, p, q ∙ h))
payer_fits s t reservation k node under (Held size forced steps) h f o ok p q = (o, (ok, p, q ∙ h), f.2, f.3)
payer_fits s t reservation k node under _ h f o ok p q = absurd h

module _ (a : Account) (l : WholeLaw a) (i reservation limit k : ℕ) (b : Account) (o : OpensChild a i reservation limit k b) where
  -- what each number is before
  abbrev s : ℕ → Shape
  s = shapes a.rows

  -- the parent
  abbrev p : ℕ
  p = (claim a i).node

  -- the row of the child
  abbrev r' : Row
  r' = opened_row p reservation limit

  -- the claim that carries it
  abbrev d : Claim
  d = record { node = p; under = Some k; phase = (claim a i).phase }

  -- what each number is after
  abbrev t : ℕ → Shape
  t = shapes (set a.rows k r')

  -- the allocators are a tree before
  tree : IsNodeTree s
  tree = l.held.tree

  -- the parent is open
  p_open : IsOpen s p
  p_open = o.opened

  -- the child is there
  here_new : t k ≡ r'.shape
  here_new = ap (λ (r : Row). r.shape) (get_or-set_same a.rows k r' blank o.room)

  -- all others are as before
  there_old : (n : ℕ) → n ≢ k → t n ≡ s n
  there_old n ne = ap (λ (r : Row). r.shape) (get_or-set_other a.rows k n r' blank ne)

  -- who was made stays as it was
  grows : Grows s t
  grows n m = there_old n (unmade s n k m o.fresh)

  -- the number was not open
  k_closed : (s k).is_open ≡ false
  k_closed = ⊎_elim (λ (y : (s k).is_open ≡ true). absurd (true≢false (sym (tree.made k y) ∙ o.fresh))) (λ n. n) (cases_Bool (s k).is_open)

  -- the allocators are a tree after
  new_tree : IsNodeTree t
  new_tree = record {
    made = λ n opened. ⊎_elim
        (λ e. subst (λ (x : ℕ). (t x).made ≡ true) (sym e) (ap (λ (x : Shape). x.made) here_new))
        (λ ne. let q = there_old n ne in ap (λ (x : Shape). x.made) q ∙ tree.made n (sym (ap (λ (x : Shape). x.is_open) q) ∙ opened))
        (cases_eq n k);
    root = λ n m none. ⊎_elim
        (λ e. let q = ap (λ (x : ℕ). (t x).parent) e ∙ ap (λ (x : Shape). x.parent) here_new in absurd cc)
        (λ ne. let q = there_old n ne in tree.root n (sym (ap (λ (x : Shape). x.made) q) ∙ m) (sym (ap (λ (x : Shape). x.parent) q) ∙ none))
        (cases_eq n k);
    smaller = λ n q h. ⊎_elim
        (λ e. let u : p ≡ q = parent_is n q e h in let g = o.greater in omega arith)
        (λ ne. tree.smaller n q (sym (ap (λ (x : Shape). x.parent) (there_old n ne)) ∙ h))
        (cases_eq n k);
    made_parent = λ n q h. ⊎_elim
        (λ e. let u : p ≡ q = parent_is n q e h in
        let m : (s q).made ≡ true = subst (λ (x : ℕ). (s x).made ≡ true) u (tree.made p p_open) in
        ap (λ (x : Shape). x.made) (grows q m) ∙ m)
        (λ ne. let m = tree.made_parent n q (sym (ap (λ (x : Shape). x.parent) (there_old n ne)) ∙ h) in
        ap (λ (x : Shape). x.made) (grows q m) ∙ m)
        (cases_eq n k);
    open_parent = λ n q opened h. ⊎_elim
        (λ e. let u : p ≡ q = parent_is n q e h in still_open s t tree grows q (subst (IsOpen s) u p_open))
        (λ ne. let w = there_old n ne in
        still_open s t tree grows q
        (tree.open_parent n q (sym (ap (λ (x : Shape). x.is_open) w) ∙ opened) (sym (ap (λ (x : Shape). x.parent) w) ∙ h)))
        (cases_eq n k);
  }
    where
      parent_is : (n q : ℕ) → n ≡ k → (t n).parent ≡ Some q → p ≡ q
      parent_is n q e h = let u = ap (λ (x : ℕ). (t x).parent) (sym e) ∙ h in let v = ap (λ (x : Shape). x.parent) here_new in cc

  -- the claim is charged the reservation, and carries nothing before
  amount : (charged (claim a i).phase ≡ reservation) × ((claim a i).under ≡ None)
  amount = (paid_amount reservation (claim a i).phase o.pays, o.bare)

  -- a weight that the law puts at 0 for each claim has the sum 0
  all_far : (f : Claim → ℕ) → ((node : ℕ) (under : Option ℕ) (phase : Phase) → ClaimFits s node under phase →
      f (record { node = node; under = under; phase = phase }) ≡ 0) → sum_by f a.claims ≡ 0
  all_far f h = sum_by-none f a.claims
      (All-weaker (λ (c : Claim). ClaimFits s c.node c.under c.phase) (λ (c : Claim). f c ≡ 0) (λ (c : Claim). h c.node c.under c.phase)
      a.claims l.held.claims)

  -- no child stood below the number
  asks_none : sum_by (child_count k) a.rows ≡ 0
  asks_none = sum_by-none (child_count k) a.rows (All-from_get_or (λ (r : Row). child_count k r ≡ 0) a.rows blank (λ j h. ⊎_elim
      (λ (y : (s j).is_open && is_at (s j).parent k ≡ true). let q = and_parts (s j).is_open (is_at (s j).parent k) y in
      absurd (unmade s k k (tree.made_parent j k (at_some (s j).parent k q.1)) o.fresh refl))
      (λ (n : (s j).is_open && is_at (s j).parent k ≡ false). rw n refl)
      (cases_Bool ((s j).is_open && is_at (s j).parent k))))

  -- the account after
  abbrev after : Account
  after = record { rows = set a.rows k r'; claims = set a.claims i d }

  -- it balances
  new_balance : (n : ℕ) → IsOpen t n → IsBalancedAt after n
  new_balance n opened =
      let e₁ = sum_by-set (λ (c : Claim). pending_addition n c.phase) a.claims i d no_claim o.there in
      let e₂ = sum_by-set (own_charge n) a.claims i d no_claim o.there in
      let e₃ = sum_by-set (λ (c : Claim). pending_subtraction n c.phase) a.claims i d no_claim o.there in
      let e₄ = sum_by-set (child_count n) a.rows k r' blank o.room in
      let e₅ = row_set (λ (r : Row). r.held) a.rows k n r' o.room in
      let was : child_count n (row a.rows k) ≡ 0 = asks_closed n (row a.rows k) k_closed in
      let mine : own_charge n d ≡ 0 = owned n in
      ⊎_elim
      (λ e.
      let f₁ : sum_by (λ c. pending_addition n c.phase) a.claims ≡ 0 =
      subst (λ (x : ℕ). sum_by (λ c. pending_addition x c.phase) a.claims ≡ 0) (sym e)
      (all_far (λ (c : Claim). pending_addition k c.phase) (λ x u ph f. (far s tree k k_closed x u ph f).0)) in
      let f₂ : sum_by (own_charge n) a.claims ≡ 0 =
      subst (λ (x : ℕ). sum_by (own_charge x) a.claims ≡ 0) (sym e)
      (all_far (own_charge k) (λ x u ph f. (far s tree k k_closed x u ph f).2)) in
      let f₃ : sum_by (λ c. pending_subtraction n c.phase) a.claims ≡ 0 =
      subst (λ (x : ℕ). sum_by (λ c. pending_subtraction x c.phase) a.claims ≡ 0) (sym e)
      (all_far (λ (c : Claim). pending_subtraction k c.phase) (λ x u ph f. (far s tree k k_closed x u ph f).1)) in
      let f₄ : sum_by (child_count n) a.rows ≡ 0 = subst (λ (x : ℕ). sum_by (child_count x) a.rows ≡ 0) (sym e) asks_none in
      let z : child_count n r' ≡ 0 = off p n (max 0 reservation) (λ q. (let g = o.greater in omega arith)) in
      let h : (row a.rows n).held ≡ 0 = l.held.empty n (ap (λ (x : ℕ). (s x).is_open) e ∙ k_closed) in
      let h' : (row after.rows n).held ≡ 0 = ap (λ (x : ℕ). (row after.rows x).held) e
      ∙ ap (λ (r : Row). r.held) (get_or-set_same a.rows k r' blank o.room) in
      omega arith)
      (λ ne.
      let b = l.held.balance n (sym (ap (λ (x : Shape). x.is_open) (there_old n ne)) ∙ opened) in
      let g : own_charge n (claim a i) ≡ child_count n r' = moved_to n in
      let h' : (row after.rows n).held ≡ (row a.rows n).held = ap (λ (r : Row). r.held) (get_or-set_other a.rows k n r' blank ne) in
      omega arith)
      (cases_eq n k)
    where
      asks_closed : (n : ℕ) (r : Row) → r.shape.is_open ≡ false → child_count n r ≡ 0
      asks_closed n r c = rw c refl

      owned : (n : ℕ) → own_charge n d ≡ 0
      owned n = cond-and_false (p == n) (charged (claim a i).phase)

      moved_to : (n : ℕ) → own_charge n (claim a i) ≡ child_count n r'
      moved_to n = rw (amount.0, amount.1)
          (elim (p == n) as (λ b. cond (b && true) reservation 0 ≡ cond b (max 0 reservation) 0) [ true ↦ omega arith | false ↦ refl ])

  -- it keeps the law of the held numbers
  opened_held : HeldLaw after
  opened_held = record {
    tree = new_tree;
    balance = new_balance;
    empty = λ n. each_row (λ (r : Row). r.shape.is_open ≡ false → r.held ≡ 0) a.rows k n r' o.room (λ c. refl) (l.held.empty n);
    claims = All-set (λ (c : Claim). ClaimFits t c.node c.under c.phase) a.claims i d
        (payer_fits s t reservation k p (claim a i).under (claim a i).phase o.pays (its_fits a l.held i o.there)
        (still_open s t tree grows p p_open)
        (ap (λ (x : Shape). x.is_open) here_new) (ap (λ (x : Shape). x.parent) here_new) (ap (λ (x : Shape). x.reservation) here_new))
        (All-weaker (λ (c : Claim). ClaimFits s c.node c.under c.phase) (λ (c : Claim). ClaimFits t c.node c.under c.phase)
        (λ (c : Claim). still_fits s t tree grows c.node c.under c.phase) a.claims l.held.claims);
  }

  -- it keeps the counts of uses
  opened_uses : UsesLaw after
  opened_uses n =
      let e = sum_by-set (use_count n) a.claims i d no_claim o.there in
      let q = row_set (λ (r : Row). r.uses) a.rows k n r' o.room in
      let u : (row a.rows k).uses ≡ 0 = l.uses k ∙ all_far (use_count k) (unused s tree k o.fresh) in
      let v = l.uses n in
      let w : cond (k == n) (row a.rows k).uses 0 ≡ 0 = ap (λ (x : ℕ). cond (k == n) x 0) u ∙ zero_cond (k == n) in
      let x : cond (k == n) r'.uses 0 ≡ 0 = zero_cond (k == n) in
      omega arith

  -- the child stands on one claim
  opened_backing : BackingLaw after
  opened_backing n =
      let e = sum_by-set (backing_count n) a.claims i d no_claim o.there in
      let v = l.backing n in
      let f : backing_count n (claim a i) ≡ 0 = ap (λ (u : Option ℕ). cond (is_at u n) 1 0) amount.1 in
      ⊎_elim
      (λ q.
      let g : backing_count n d ≡ 1 = rw (eq-eqb k n (sym q)) refl in
      let w : backing_needed (s n) ≡ 0 = rw (q, k_closed) refl in
      let x : backing_needed (t n) ≡ 1 = ap (λ (y : ℕ). backing_needed (t y)) q ∙ ap backing_needed here_new in
      omega arith)
      (λ ne.
      let g : backing_count n d ≡ 0 = off k n 1 (λ h. ne (sym h)) in
      let w : backing_needed (t n) ≡ backing_needed (s n) = ap backing_needed (there_old n ne) in
      omega arith)
      (cases_eq n k)

  -- the making of a child keeps the law
  pub opens_lawful : WholeLaw b
  opens_lawful = subst WholeLaw (same_account after b (sym o.rows) (sym o.claims))
      (record { held = opened_held; uses = opened_uses; backing = opened_backing })
