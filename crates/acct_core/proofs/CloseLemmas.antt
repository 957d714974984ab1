-- The closing of a node keeps the law, and a node without uses holds nothing.
use Rattle.std.proofs.Common.{◌≡◌, ℕ, ◌+◌, ◌<◌, ◌≢◌, max, Bool, true, false, cond, not, ◌&&◌, is_none, List, get_or, set, length, ◌==◌, eq-eqb, ne_eqb, Option, Some, None, All, sum_by, arith, refl, sym, ap, ◌∙◌, subst, ⊎_elim, get_or-set_same, get_or-set_other}
use Rattle.std.proofs.lemmas.Option.{same_Some}
use Rattle.std.proofs.lemmas.Bool.{true≢false, cases_eq, cases_Bool, and_parts}
use Rattle.std.proofs.lemmas.List.Elements.{All-get_or, All-set, All-from_get_or}
use Rattle.std.proofs.lemmas.List.Sums.{sum_by-set, get_or-le-sum_by}
use Rattle.mem_model.proofs.ChargeSumLemmas.{sum_by-none}
use Rattle.acct_core.specs.declared.shape.Shape.{Shape}
use Rattle.acct_core.specs.declared.row.Row.{Row}
use Rattle.acct_core.specs.Phases.{Phase, charged, pending_addition, pending_subtraction, is_free}
use Rattle.acct_core.specs.Claims.{Claim, Account, own_charge, use_count, backing_count, claim, no_claim}
use Rattle.acct_core.specs.Rows.{blank, row, shapes, is_at}
use Rattle.acct_core.specs.Balance.{child_count}
use Rattle.acct_core.specs.NodeTree.{IsNodeTree, IsOpen, Reaches}
use Rattle.acct_core.proofs.FitsLemmas.{ClaimFits, Carries, WholeLaw, its_fits}
use Rattle.acct_core.specs.Lawful.{backing_needed}
use Rattle.acct_core.specs.Applies.{FreesBacking, closed_row, ClosesNode}
use Rattle.acct_core.specs.Phases.Phase.{Free, In, Up, Held, Failed, Down, Bounced}
use Rattle.acct_core.specs.NodeTree.Reaches.{here, above}
use Rattle.acct_core.proofs.LineLemmas.{on_reaches, by_child, line_open, at_some, made_in}
use Rattle.acct_core.proofs.BalanceLemmas.{row_set}
use Rattle.acct_core.proofs.KeptLemmas.{each_row, same_account}
use Rattle.acct_core.proofs.SumLemmas.{some_term, zero_cond, off, off_and, cond-and_false}

-- a claim that uses a node isn't free there
busy_at : (n node : ℕ) (b : Bool) → ◌≡◌ {A = ℕ} (cond (node == n && not b) 1 0) 0 → b ≡ false → node ≢ n
busy_at n node b e f h = let g = rw (eq-eqb node n h, f) at e in absurd cc

-- a claim on which j stands is at the parent of j and isn't free
carrier : (s : ℕ → Shape) (j node : ℕ) (under : Option ℕ) (phase : Phase) → ClaimFits s node under phase → under ≡ Some j →
    ((s j).parent ≡ Some node) × (is_free phase ≡ false) × ((s j).reservation ≡ charged phase)
carrier s j node under In f e = let c = subst (λ (u : Option ℕ). Carries s node u 0) e f.1 in (c.1, refl, c.2)
carrier s j node under (Held size forced steps) f e = let c = subst (λ (u : Option ℕ). Carries s node u size) e f.1 in (c.1, refl, c.2)
carrier s j node under Free f e = absurd cc
carrier s j node under Bounced f e = let g = f.2 in absurd cc
carrier s j node under (Up size next pending forced steps) f e = let g = f.1 in absurd cc
carrier s j node under (Failed size forced steps) f e = let g = f.1 in absurd cc
carrier s j node under (Down size next pending) f e = let g = f.1 in absurd cc

-- a weight above 0 shows who stands on the claim
stands_at : (u : Option ℕ) (n : ℕ) → 0 < cond (is_at u n) 1 0 → u ≡ Some n
stands_at u n h = ⊎_elim
    (λ (y : is_at u n ≡ true). at_some u n y)
    (λ (no : is_at u n ≡ false). absurd (let g = rw no at h in omega arith))
    (cases_Bool (is_at u n))

module _ (a : Account) (l : WholeLaw a) (n : ℕ) (opened : IsOpen (shapes a.rows) n) (unused : (row a.rows n).uses ≡ 0) where
  -- what each number is before
  abbrev s : ℕ → Shape
  s = shapes a.rows

  -- none of the claims uses n
  no_use : (i : ℕ) → i < length a.claims → use_count n (claim a i) ≡ 0
  no_use i h = let c = l.uses n in let g = get_or-le-sum_by (use_count n) a.claims i no_claim h in omega arith

  -- no open allocator has n for its parent
  pub no_child : (j : ℕ) → IsOpen s j → (s j).parent ≡ Some n → ⊥
  no_child j oj e =
      let m : backing_needed (s j) ≡ 1 = rw (oj, e) refl in
      let t = l.backing j in
      let w = some_term (backing_count j) a.claims no_claim (omega arith) in
      let c = carrier s j (claim a w.0).node (claim a w.0).under (claim a w.0).phase (its_fits a l.held w.0 w.1)
      (stands_at (claim a w.0).under j w.2) in
      let q : (claim a w.0).node ≡ n = same_Some (claim a w.0).node n (sym c.0 ∙ e) in
      busy_at n (claim a w.0).node (is_free (claim a w.0).phase) (no_use w.0 w.1) c.1 q

  -- nothing is charged at n or is to be subtracted there
  nothing : (i : ℕ) → i < length a.claims → (own_charge n (claim a i) ≡ 0) × (pending_subtraction n (claim a i).phase ≡ 0)
  nothing i h = go (claim a i).node (claim a i).under (claim a i).phase (its_fits a l.held i h) (no_use i h)
    where
      go : (node : ℕ) (under : Option ℕ) (phase : Phase) → ClaimFits s node under phase →
          ◌≡◌ {A = ℕ} (cond (node == n && not (is_free phase)) 1 0) 0 →
          (cond (node == n && is_none under) (charged phase) 0 ≡ 0) × (pending_subtraction n phase ≡ 0)
      go node under Free f u = (zero_cond (node == n && is_none under), refl)
      go node under In f u = (zero_cond (node == n && is_none under), refl)
      go node under Bounced f u = (zero_cond (node == n && is_none under), refl)
      go node under (Up size next pending forced steps) f u = (off_and node n size (is_none under) (busy_at n node false u refl), refl)
      go node under (Held size forced steps) f u = (off_and node n size (is_none under) (busy_at n node false u refl), refl)
      go node under (Failed size forced steps) f u = (off_and node n size (is_none under) (busy_at n node false u refl), refl)
      go node under (Down size next pending) f u = (
        zero_cond (node == n && is_none under),
        off next n pending (λ e.
            let c = by_child s l.held.tree node node n (busy_at n node false u refl)
            (on_reaches s l.held.tree node node n (omega arith) (subst (λ (x : ℕ). Reaches s node x) e f.2)) in
            no_child c.0 (line_open s l.held.tree node node c.0 c.2 f.0) c.1),
      )

  -- a node without uses holds nothing
  pub unused_holds_none : (row a.rows n).held ≡ 0
  unused_holds_none =
      let b = l.held.balance n opened in
      let e₁ = sum_by-none (own_charge n) a.claims
      (All-from_get_or (λ (c : Claim). own_charge n c ≡ 0) a.claims no_claim (λ i h. (nothing i h).0)) in
      let e₂ = sum_by-none (λ (c : Claim). pending_subtraction n c.phase) a.claims
      (All-from_get_or (λ (c : Claim). pending_subtraction n c.phase ≡ 0) a.claims no_claim (λ i h. (nothing i h).1)) in
      let e₃ = sum_by-none (child_count n) a.rows (All-from_get_or (λ (r : Row). child_count n r ≡ 0) a.rows blank (λ j h. ⊎_elim
      (λ (y : (s j).is_open && is_at (s j).parent n ≡ true). let q = and_parts (s j).is_open (is_at (s j).parent n) y in
      absurd (no_child j q.0 (at_some (s j).parent n q.1)))
      (λ (no : (s j).is_open && is_at (s j).parent n ≡ false). rw no refl)
      (cases_Bool ((s j).is_open && is_at (s j).parent n)))) in
      omega arith

  -- what each number is after
  abbrev t : ℕ → Shape
  t = shapes (set a.rows n (closed_row (row a.rows n)))

  -- the node has a row
  inside : n < length a.rows
  inside = made_in a.rows n (l.held.tree.made n opened)

  -- the node itself is closed
  here_closed : t n ≡ (closed_row (row a.rows n)).shape
  here_closed = ap (λ (r : Row). r.shape) (get_or-set_same a.rows n (closed_row (row a.rows n)) blank inside)

  -- all others are as before
  there_old : (m : ℕ) → m ≢ n → t m ≡ s m
  there_old m ne = ap (λ (r : Row). r.shape) (get_or-set_other a.rows n m (closed_row (row a.rows n)) blank ne)

  -- parents stay
  same_parent : (m : ℕ) → (t m).parent ≡ (s m).parent
  same_parent m = ⊎_elim
      (λ e. ap (λ (x : ℕ). (t x).parent) e ∙ ap (λ (x : Shape). x.parent) here_closed ∙ ap (λ (x : ℕ). (s x).parent) (sym e))
      (λ ne. ap (λ (x : Shape). x.parent) (there_old m ne))
      (cases_eq m n)

  -- what was made stays made
  same_made : (m : ℕ) → (t m).made ≡ (s m).made
  same_made m = ⊎_elim
      (λ e. ap (λ (x : ℕ). (t x).made) e ∙ ap (λ (x : Shape). x.made) here_closed ∙ ap (λ (x : ℕ). (s x).made) (sym e))
      (λ ne. ap (λ (x : Shape). x.made) (there_old m ne))
      (cases_eq m n)

  -- who is open was open and is another
  was_open : (m : ℕ) → IsOpen t m → (m ≢ n) × IsOpen s m
  was_open m o = ⊎_elim
      (λ e. absurd (true≢false (sym o ∙ ap (λ (x : ℕ). (t x).is_open) e ∙ ap (λ (x : Shape). x.is_open) here_closed)))
      (λ ne. (ne, sym (ap (λ (x : Shape). x.is_open) (there_old m ne)) ∙ o))
      (cases_eq m n)

  -- who was open and is another is open
  still_open : (m : ℕ) → m ≢ n → IsOpen s m → IsOpen t m
  still_open m ne o = ap (λ (x : Shape). x.is_open) (there_old m ne) ∙ o

  -- the allocators are a tree as before
  shut_tree : IsNodeTree t
  shut_tree = record {
    made = λ m o. same_made m ∙ l.held.tree.made m (was_open m o).1;
    root = λ m h q. l.held.tree.root m (sym (same_made m) ∙ h) (sym (same_parent m) ∙ q);
    smaller = λ m q h. l.held.tree.smaller m q (sym (same_parent m) ∙ h);
    made_parent = λ m q h. same_made q ∙ l.held.tree.made_parent m q (sym (same_parent m) ∙ h);
    open_parent = λ m q o h. let w = (was_open m o).1 in let e = sym (same_parent m) ∙ h in
        still_open q (λ x. no_child m w (subst (λ (y : ℕ). (s m).parent ≡ Some y) x e)) (l.held.tree.open_parent m q w e);
  }

  -- who is above a node stays above it
  still_reaches : (k m : ℕ) → Reaches s k m → Reaches t k m
  still_reaches k m here = here
  still_reaches k m (above {level = x} {parent = p} r e) = above (still_reaches k x r) (same_parent x ∙ e)

  -- a child that is another stays open
  still_carries : (node size : ℕ) (under : Option ℕ) → ◌≡◌ {A = ℕ} (cond (is_at under n) 1 0) 0 → Carries s node under size →
      Carries t node under size
  still_carries node size None u c = tt
  still_carries node size (Some k) u c = ⊎_elim
      (λ e. absurd (let g = rw (eq-eqb k n e) at u in omega arith))
      (λ ne. let w = there_old k ne in (still_open k ne c.0, same_parent k ∙ c.1, ap (λ (x : Shape). x.reservation) w ∙ c.2))
      (cases_eq k n)

  -- what the law says of a claim holds still, if it has nothing to do with the node
  still_fits : (node : ℕ) (under : Option ℕ) (phase : Phase) → ClaimFits s node under phase →
      ◌≡◌ {A = ℕ} (cond (node == n && not (is_free phase)) 1 0) 0 → ◌≡◌ {A = ℕ} (cond (is_at under n) 1 0) 0 → ClaimFits t node under phase
  still_fits node under Free f u v = f
  still_fits node under In f u v = (still_open node (busy_at n node false u refl) f.0, still_carries node 0 under v f.1)
  still_fits node under (Up size next pending forced steps) f u v =
      (still_open node (busy_at n node false u refl) f.0, f.1, still_reaches node next f.2, f.3, f.4)
  still_fits node under (Held size forced steps) f u v =
      (still_open node (busy_at n node false u refl) f.0, still_carries node size under v f.1, f.2, f.3)
  still_fits node under (Failed size forced steps) f u v = (still_open node (busy_at n node false u refl) f.0, f.1, f.2, f.3, f.4)
  still_fits node under (Down size next pending) f u v =
      (still_open node (busy_at n node false u refl) f.0, f.1, still_reaches node next f.2, f.3, f.4)
  still_fits node under Bounced f u v =
      (ap (λ (x : Shape). x.is_open) (there_old node (busy_at n node false u refl)) ∙ f.0, same_made node ∙ f.1, f.2)

  -- what the law asks of the claims that are left
  record Leaves (claims : List Claim) : Type 0 where
    add : (m : ℕ) → sum_by (λ c. pending_addition m c.phase) claims ≡ sum_by (λ c. pending_addition m c.phase) a.claims
    take : (m : ℕ) → sum_by (λ c. pending_subtraction m c.phase) claims ≡ sum_by (λ c. pending_subtraction m c.phase) a.claims
    own : (m : ℕ) → sum_by (own_charge m) claims ≡ sum_by (own_charge m) a.claims + child_count m (row a.rows n)
    used : (m : ℕ) → sum_by (use_count m) claims ≡ sum_by (use_count m) a.claims
    stood : sum_by (backing_count n) claims ≡ 0
    stand : (m : ℕ) → m ≢ n → sum_by (backing_count m) claims ≡ sum_by (backing_count m) a.claims
    fit : All (λ c. ClaimFits s c.node c.under c.phase) claims

  -- claims that leave nothing of the node keep the law
  shut : (claims : List Claim) → Leaves claims → WholeLaw (record { rows = set a.rows n (closed_row (row a.rows n)); claims = claims })
  shut claims f = record {
    held = record {
      tree = shut_tree;
      balance = λ m o.
          (let w = was_open m o in
          let b = l.held.balance m w.1 in
          let e₁ = f.add m in let e₂ = f.take m in let e₃ = f.own m in
          let e₄ = sum_by-set (child_count m) a.rows n (closed_row (row a.rows n)) blank inside in
          let h : (row (set a.rows n (closed_row (row a.rows n))) m).held ≡ (row a.rows m).held =
          ap (λ (r : Row). r.held) (get_or-set_other a.rows n m (closed_row (row a.rows n)) blank w.0) in
          omega arith);
      empty = λ m. each_row (λ (r : Row). r.shape.is_open ≡ false → r.held ≡ 0) a.rows n m (closed_row (row a.rows n)) inside
          (λ c. unused_holds_none) (l.held.empty m);
      claims = All-from_get_or (λ (c : Claim). ClaimFits t c.node c.under c.phase) claims no_claim (λ i h.
          (let c = get_or claims i no_claim in
          still_fits c.node c.under c.phase (All-get_or (λ (c : Claim). ClaimFits s c.node c.under c.phase) claims i no_claim h f.fit)
          (let g = get_or-le-sum_by (use_count n) claims i no_claim h in let u = f.used n in let v = l.uses n in omega arith)
          (let g = get_or-le-sum_by (backing_count n) claims i no_claim h in let u = f.stood in omega arith)));
    };
    uses = λ m. (let e = row_set (λ (r : Row). r.uses) a.rows n m (closed_row (row a.rows n)) inside in let u = f.used m in
        let v = l.uses m in omega arith);
    backing = λ m. ⊎_elim
        (λ e. subst (λ (x : ℕ). sum_by (backing_count x) claims ≡ backing_needed (t x)) (sym e)
        (f.stood ∙ sym (ap backing_needed here_closed)))
        (λ ne. f.stand m ne ∙ l.backing m ∙ sym (ap backing_needed (there_old m ne)))
        (cases_eq m n);
  }

  -- the root stands on no claim
  leaves_root : (s n).parent ≡ None → Leaves a.claims
  leaves_root e = record {
    add = λ m. refl;
    take = λ m. refl;
    used = λ m. refl;
    stand = λ m ne. refl;
    own = λ m. (let z : child_count m (row a.rows n) ≡ 0 = rw (opened, e) refl in omega arith);
    stood = l.backing n ∙ rw (opened, e) refl;
    fit = l.held.claims;
  }

  -- what a claim is charged is what an empty child counted for
  gives : (b : Bool) (x : ℕ) → cond (b && true) x 0 ≡ cond b (max 0 x) 0
  gives true x = omega arith
  gives false x = refl

  -- what the law says of a claim holds still once nothing stands on it
  freed_fits : (node : ℕ) (under : Option ℕ) (phase : Phase) → ClaimFits s node under phase → is_free phase ≡ false →
      ClaimFits s node None phase
  freed_fits node under Free f b = absurd cc
  freed_fits node under In f b = (f.0, tt)
  freed_fits node under (Up size next pending forced steps) f b = (f.0, refl, f.2, f.3, f.4)
  freed_fits node under (Held size forced steps) f b = (f.0, tt, f.2, f.3)
  freed_fits node under (Failed size forced steps) f b = (f.0, refl, f.2, f.3, f.4)
  freed_fits node under (Down size next pending) f b = (f.0, refl, f.2, f.3, f.4)
  freed_fits node under Bounced f b = (f.0, f.1, refl)

  -- the claim on which the node stood is charged what the node counted for
  leaves_child : (p : ℕ) → (s n).parent ≡ Some p → (i : ℕ) → i < length a.claims → (claim a i).under ≡ Some n →
      Leaves (set a.claims i (record { node = (claim a i).node; under = None; phase = (claim a i).phase }))
  leaves_child p e i h u =
      let d : Claim = record { node = (claim a i).node; under = None; phase = (claim a i).phase } in
      let c = carrier s n (claim a i).node (claim a i).under (claim a i).phase (its_fits a l.held i h) u in
      record {
        add = λ m. (let q = sum_by-set (λ (c : Claim). pending_addition m c.phase) a.claims i d no_claim h in omega arith);
        take = λ m. (let q = sum_by-set (λ (c : Claim). pending_subtraction m c.phase) a.claims i d no_claim h in omega arith);
        used = λ m. (let q = sum_by-set (use_count m) a.claims i d no_claim h in omega arith);
        own = λ m.
            (let q = sum_by-set (own_charge m) a.claims i d no_claim h in
            let was : own_charge m (claim a i) ≡ 0 = rw u (cond-and_false ((claim a i).node == m) (charged (claim a i).phase)) in
            let now : own_charge m d ≡ child_count m (row a.rows n) =
            rw (opened, c.0, unused_holds_none, c.2) (gives ((claim a i).node == m) (charged (claim a i).phase)) in
            omega arith);
        stood =
            (let q = sum_by-set (backing_count n) a.claims i d no_claim h in
            let one : backing_count n (claim a i) ≡ 1 = rw (u, eq-eqb n n refl) refl in
            let v : sum_by (backing_count n) a.claims ≡ 1 = l.backing n ∙ rw (opened, e) refl in
            omega arith);
        stand = λ m ne. (let q = sum_by-set (backing_count m) a.claims i d no_claim h in let z : backing_count m (claim a i)
            ≡ 0 = rw (u, ne_eqb n m (λ x. ne (sym x))) refl in omega arith);
        fit = All-set (λ (c : Claim). ClaimFits s c.node c.under c.phase) a.claims i d
            (freed_fits (claim a i).node (claim a i).under (claim a i).phase (its_fits a l.held i h) c.1) l.held.claims;
      }

  -- in either case
  left_lawful : (o : Option ℕ) → (s n).parent ≡ o → (claims : List Claim) → FreesBacking n o a.claims claims → Leaves claims
  left_lawful None e claims f = subst Leaves (sym f) (leaves_root e)
  left_lawful (Some p) e claims f = subst Leaves (sym f.freed) (leaves_child p e f.place f.there f.carried)

-- the closing keeps the law
pub closes_lawful : (a b : Account) (n : ℕ) → ClosesNode a n b → WholeLaw a → WholeLaw b
closes_lawful a b n c l = subst WholeLaw
    (same_account (record { rows = set a.rows n (closed_row (row a.rows n)); claims = b.claims }) b (sym c.rows) refl)
    (shut a l n c.opened c.unused b.claims (left_lawful a l n c.opened c.unused (shapes a.rows n).parent refl b.claims c.claims))
