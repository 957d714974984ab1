-- A change of one claim and one row that conserves what each level is owed keeps the law.
use Rattle.std.proofs.Common.{◌≡◌, ℕ, ◌+◌, ◌<◌, ◌≤◌, true, false, cond, List, set, length, ◌==◌, Option, All, arith, sym, ap, ◌∙◌, subst, ⊎_elim, get_or-set_same, get_or-set_other}
use Rattle.std.proofs.lemmas.Bool.{cases_eq}
use Rattle.std.proofs.lemmas.List.Sums.{sum_by-set, get_or-le-sum_by}
use Rattle.std.proofs.lemmas.List.Elements.{All-set}
use Rattle.acct_core.specs.declared.shape.Shape.{Shape}
use Rattle.acct_core.specs.declared.row.Row.{Row}
use Rattle.acct_core.specs.Claims.{Claim, Account, use_count, backing_count, claim, no_claim}
use Rattle.acct_core.specs.Rows.{blank, row, shapes, is_at}
use Rattle.acct_core.specs.NodeTree.{IsNodeTree}
use Rattle.acct_core.proofs.FitsLemmas.{ClaimFits, HeldLaw, UsesLaw, BackingLaw, WholeLaw}
use Rattle.acct_core.specs.Lawful.{backing_needed}
use Rattle.acct_core.proofs.BalanceLemmas.{Conserves, row_set, moved}

-- what a change of one claim and one row keeps
pub record Keeps (shape : ℕ → Shape) (m : ℕ) (r r' : Row) (c d : Claim) : Type 0 where
  pub conserves : (n : ℕ) → Conserves m r r' c d n
  pub uses : use_count m c ≤ r.uses → (n : ℕ) → cond (m == n) r'.uses 0 + use_count n c ≡ cond (m == n) r.uses 0 + use_count n d
  pub same : r'.shape ≡ r.shape
  pub made : r.shape.made ≡ true
  pub fits : ClaimFits shape d.node d.under d.phase
  pub under : d.under ≡ c.under
  pub empty : r'.shape.is_open ≡ false → r'.held ≡ 0

-- a row that keeps its shape changes no shape
pub same_shapes : (rows : List Row) (m : ℕ) (r' : Row) → m < length rows → r'.shape ≡ (row rows m).shape →
    shapes (set rows m r') ≡ shapes rows
same_shapes rows m r' h e = λ j n. at n j
  where
    at : (n : ℕ) → shapes (set rows m r') n ≡ shapes rows n
    at n = ⊎_elim
        (λ q. subst (λ (x : ℕ). shapes (set rows m r') x ≡ shapes rows x) (sym q)
        (ap (λ (r : Row). r.shape) (get_or-set_same rows m r' blank h) ∙ e))
        (λ ne. ap (λ (r : Row). r.shape) (get_or-set_other rows m n r' blank ne))
        (cases_eq n m)

-- what holds of the new row and of each row before holds of each row after
pub each_row : (P : Row → Type 0) (rows : List Row) (m n : ℕ) (r' : Row) → m < length rows → P r' → P (row rows n) →
    P (row (set rows m r') n)
each_row P rows m n r' h new old = ⊎_elim
    (λ q. subst (λ (x : ℕ). P (row (set rows m r') x)) (sym q) (subst P (sym (get_or-set_same rows m r' blank h)) new))
    (λ ne. subst P (sym (get_or-set_other rows m n r' blank ne)) old)
    (cases_eq n m)

-- one claim and one row are set, which keeps what the law says of them
module _ (a : Account) (i m : ℕ) (r' : Row) (d : Claim) (hi : i < length a.claims) (hm : m < length a.rows)
    (k : Keeps (shapes a.rows) m (row a.rows m) r' (claim a i) d) where
  -- the account after
  abbrev after : Account
  after = record { rows = set a.rows m r'; claims = set a.claims i d }

  -- no shape changes
  shapes_kept : shapes after.rows ≡ shapes a.rows
  shapes_kept = same_shapes a.rows m r' hm k.same

  -- the law of the held numbers is kept
  pub kept_held : HeldLaw a → HeldLaw after
  kept_held law = record {
    tree = subst IsNodeTree (sym shapes_kept) law.tree;
    balance = λ n opened. moved a i m n r' d no_claim hi hm (k.conserves n) (law.balance n (rw shapes_kept at opened));
    empty = λ n. each_row (λ (r : Row). r.shape.is_open ≡ false → r.held ≡ 0) a.rows m n r' hm k.empty (law.empty n);
    claims = subst (λ (s : ℕ → Shape). All (λ (c : Claim). ClaimFits s c.node c.under c.phase) after.claims) (sym shapes_kept)
        (All-set (λ (c : Claim). ClaimFits (shapes a.rows) c.node c.under c.phase) a.claims i d k.fits law.claims);
  }

  -- so are the counts of uses
  kept_uses : UsesLaw a → UsesLaw after
  kept_uses law n =
      let s = sum_by-set (use_count n) a.claims i d no_claim hi in
      let t = row_set (λ (r : Row). r.uses) a.rows m n r' hm in
      let within : use_count m (claim a i) ≤ (row a.rows m).uses =
      (let x = law m in let y = get_or-le-sum_by (use_count m) a.claims i no_claim hi in omega arith) in
      let u = k.uses within n in let v = law n in
      omega arith

  -- and the backing claims
  kept_backing : BackingLaw a → BackingLaw after
  kept_backing law n =
      let s = sum_by-set (backing_count n) a.claims i d no_claim hi in
      let u : backing_count n d ≡ backing_count n (claim a i) = ap (λ (o : Option ℕ). cond (is_at o n) 1 0) k.under in
      let v = law n in
      let w : backing_needed (shapes after.rows n) ≡ backing_needed (shapes a.rows n) =
      ap (λ (f : ℕ → Shape). backing_needed (f n)) shapes_kept in
      omega arith

  -- and so the whole law
  pub kept : WholeLaw a → WholeLaw after
  kept law = record { held = kept_held law.held; uses = kept_uses law.uses; backing = kept_backing law.backing }

-- two accounts of the same rows and claims are the same
pub same_account : (a b : Account) → a.rows ≡ b.rows → a.claims ≡ b.claims → a ≡ b
same_account a b p q = λ j. record { rows = p j; claims = q j }
