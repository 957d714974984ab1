-- At rest a node holds what the list of allocators says.
use Rattle.std.proofs.Common.{suc, ◌≡◌, ℕ, ◌+◌, ◌<◌, Bool, true, false, cond, not, ◌&&◌, List, [], ◌∷◌, is_none, ◌==◌, Option, Some, None, All, sum_by, arith, refl, sym, ap, ◌∙◌, subst, ⊎_elim}
use Rattle.std.specs.Option.{option_map}
use Rattle.std.proofs.lemmas.Bool.{true≢false, cases_Bool, and_parts, cond-true, cond-false}
use Rattle.std.proofs.lemmas.List.Elements.{All-weaker}
use Rattle.std.proofs.lemmas.List.Sums.{sum_by-cons}
use Rattle.mem_model.specs.declared.charge.Charge.{Charge}
use Rattle.mem_model.specs.declared.tree_node.TreeNode.{TreeNode}
use Rattle.mem_model.specs.Reservation.{counted_at_parent}
use Rattle.mem_model.specs.TreeNode.{is_number}
use Rattle.mem_model.specs.Charge.{charged_at}
use Rattle.mem_model.specs.Held.{held_of}
use Rattle.mem_model.proofs.ChargeSumLemmas.{sum_by-none}
use Rattle.acct_core.specs.declared.row.Row.{Row}
use Rattle.acct_core.specs.Claims.{Claim, Account, own_charge}
use Rattle.acct_core.specs.Phases.{Phase, charged, pending_addition, pending_subtraction}
use Rattle.acct_core.specs.Phases.Phase.{Up, Down}
use Rattle.acct_core.specs.Rows.{row, shapes, is_at}
use Rattle.acct_core.specs.NodeTree.{IsOpen}
use Rattle.acct_core.specs.Balance.{child_count}
use Rattle.acct_core.specs.AtRest.{tree_node, tree_nodes, charge_at_rest, charges_at_rest, IsAtRest}
use Rattle.acct_core.proofs.LineLemmas.{at_some}
use Rattle.acct_core.proofs.FitsLemmas.{HeldLaw}

-- what a node is charged, as charges and as claims
charged-is : (n : ℕ) (claims : List Claim) → charged_at (charges_at_rest claims) n ≡ sum_by (own_charge n) claims
charged-is n [] = refl
charged-is n (c ∷ claims) =
    let e = sum_by-cons (λ (x : Charge). cond (x.at.0 == n) x.amount 0) (charge_at_rest c) (charges_at_rest claims) in
    let f = sum_by-cons (own_charge n) c claims in
    let g = charged-is n claims in
    let h = both (c.node == n) (is_none c.under) (charged c.phase) in
    omega arith
  where
    both : (a b : Bool) (x : ℕ) → cond a (cond b x 0) 0 ≡ cond (a && b) x 0
    both true b x = refl
    both false b x = refl

-- a row whose parent is another number counts for nothing at n
not_child : (n : ℕ) (r : Row) → ((p : ℕ) → r.shape.parent ≡ Some p → p < n) → child_count n r ≡ 0
not_child n r less = ⊎_elim
    (λ (y : r.shape.is_open && is_at r.shape.parent n ≡ true).
    let p = less n (at_some r.shape.parent n (and_parts r.shape.is_open (is_at r.shape.parent n) y).1) in absurd (omega arith))
    (λ (no : r.shape.is_open && is_at r.shape.parent n ≡ false). cond-false (r.shape.is_open && is_at r.shape.parent n) _ _ no)
    (cases_Bool (r.shape.is_open && is_at r.shape.parent n))

-- what the first of the list counts for at n, as an allocator and as a row
first_count : (opened : Bool) (parent : Option ℕ) (n reservation held counted : ℕ) → (opened ≡ true → counted ≡ held) →
    cond (is_number n (option_map (λ (p : ℕ). record { 0 = p }) parent) && not (not opened)) (counted_at_parent reservation counted) 0
    ≡ cond (opened && is_at parent n) (counted_at_parent reservation held) 0
first_count true None n reservation held counted e = refl
first_count true (Some p) n reservation held counted e =
    rw (e refl) (elim (p == n) as (λ b. cond (b && true) (counted_at_parent reservation held) 0
    ≡ cond b (counted_at_parent reservation held) 0) [ true ↦ refl | false ↦ refl ])
first_count false None n reservation held counted e = refl
first_count false (Some p) n reservation held counted e =
    elim (p == n) as (λ b. cond (b && false) (counted_at_parent reservation counted) 0 ≡ 0) [ true ↦ refl | false ↦ refl ]

-- The rows from the number k on: those that are open were made, parents have smaller numbers, and each open one holds what it is
-- charged and what its children count for
pub record Rest (charges : List Charge) (k : ℕ) (rows : List Row) : Type 0 where
  pub made : (i : ℕ) → (row rows i).shape.is_open ≡ true → (row rows i).shape.made ≡ true
  pub smaller : (i p : ℕ) → (row rows i).shape.parent ≡ Some p → p < k + i
  pub balance : (i : ℕ) → (row rows i).shape.is_open ≡ true →
      (row rows i).held ≡ charged_at charges (k + i) + sum_by (child_count (k + i)) rows

-- the rows behind the first
rest_tail : (charges : List Charge) (k : ℕ) (r : Row) (rows : List Row) → Rest charges k (r ∷ rows) → Rest charges (suc k) rows
rest_tail charges k r rows h = record {
  made = λ i. h.made (suc i);
  smaller = λ i p e. (let s = h.smaller (suc i) p e in omega arith);
  balance = λ i o.
      (let b = h.balance (suc i) o in
      let e = sum_by-cons (child_count (k + suc i)) r rows in
      let z = not_child (k + suc i) r (λ p q. (let s = h.smaller 0 p q in omega arith)) in
      let same : k + suc i ≡ suc k + i = omega arith in
      subst (λ (m : ℕ). (row rows i).held ≡ charged_at charges m + sum_by (child_count m) rows) same (omega arith));
}

-- the first of the rows holds what the list behind it says, if it is open
first_holds : (charges : List Charge) (k : ℕ) (r : Row) (rows : List Row) → Rest charges k (r ∷ rows) →
    held_of (tree_nodes (suc k) rows) charges k ≡ charged_at charges k + sum_by (child_count k) rows →
    r.shape.is_open ≡ true → held_of (tree_nodes (suc k) rows) charges k ≡ r.held
first_holds charges k r rows h below o =
    let b = h.balance 0 o in
    let same : k + 0 ≡ k = omega arith in
    let b' : r.held ≡ charged_at charges k + sum_by (child_count k) (r ∷ rows) =
    subst (λ (m : ℕ). r.held ≡ charged_at charges m + sum_by (child_count m) (r ∷ rows)) same b in
    let e = sum_by-cons (child_count k) r rows in
    let z = not_child k r (λ p q. (let s = h.smaller 0 p q in omega arith)) in
    omega arith

-- a row that wasn't made counts for nothing
unmade_count : (charges : List Charge) (k n : ℕ) (r : Row) (rows : List Row) → Rest charges k (r ∷ rows) → r.shape.made ≡ false →
    child_count n r ≡ 0
unmade_count charges k n r rows h unmade = ⊎_elim
    (λ (y : r.shape.is_open ≡ true). absurd (true≢false (sym (h.made 0 y) ∙ unmade)))
    (λ (no : r.shape.is_open ≡ false).
    ap (λ (b : Bool). cond (b && is_at r.shape.parent n) (counted_at_parent r.shape.reservation r.held) 0) no)
    (cases_Bool r.shape.is_open)

-- down the list, held is what is charged and what the rows from there on count for
pub held_of-rows : (charges : List Charge) (k : ℕ) (rows : List Row) → Rest charges k rows → (n : ℕ) →
    held_of (tree_nodes k rows) charges n ≡ charged_at charges n + sum_by (child_count n) rows
held_of-rows charges k [] h n = omega arith
held_of-rows charges k (r ∷ rows) h n =
    let tail = rest_tail charges k r rows h in
    let below_n = held_of-rows charges (suc k) rows tail n in
    let below_k = held_of-rows charges (suc k) rows tail k in
    let c = sum_by-cons (child_count n) r rows in
    ⊎_elim
    (λ (made : r.shape.made ≡ true).
    let e = ap (λ (l : List TreeNode). held_of l charges n)
    (cond-true r.shape.made (tree_node k r ∷ tree_nodes (suc k) rows) (tree_nodes (suc k) rows) made) in
    let f = first_count r.shape.is_open r.shape.parent n r.shape.reservation r.held (held_of (tree_nodes (suc k) rows) charges k)
    (first_holds charges k r rows h below_k) in
    omega arith)
    (λ (unmade : r.shape.made ≡ false).
    let e = ap (λ (l : List TreeNode). held_of l charges n)
    (cond-false r.shape.made (tree_node k r ∷ tree_nodes (suc k) rows) (tree_nodes (suc k) rows) unmade) in
    let z = unmade_count charges k n r rows h unmade in
    omega arith)
    (cases_Bool r.shape.made)

-- nothing is pending of a claim at rest
rest_pending : (n : ℕ) (phase : Phase) → IsAtRest phase → (pending_addition n phase ≡ 0) × (pending_subtraction n phase ≡ 0)
rest_pending n (Up size next pending forced steps) h = absurd h
rest_pending n (Down size next pending) h = absurd h
rest_pending n _ h = (refl, refl)

-- at rest each open node holds what the list of allocators and the list of charges say
pub held-is-held_of : (a : Account) → HeldLaw a → All (λ c. IsAtRest c.phase) a.claims → (n : ℕ) → IsOpen (shapes a.rows) n →
    (row a.rows n).held ≡ held_of (tree_nodes 0 a.rows) (charges_at_rest a.claims) n
held-is-held_of a s rest n o = held_is n o ∙ sym (held_of-rows (charges_at_rest a.claims) 0 a.rows (record {
  made = s.tree.made;
  smaller = λ i p e. (let h = s.tree.smaller i p e in omega arith);
  balance = λ i opened. (let same : i
      ≡ 0 + i = omega arith in subst
      (λ (m : ℕ). (row a.rows i).held ≡ charged_at (charges_at_rest a.claims) m + sum_by (child_count m) a.rows) same (held_is i opened));
}) n)
  where
    held_is : (m : ℕ) → IsOpen (shapes a.rows) m →
        (row a.rows m).held ≡ charged_at (charges_at_rest a.claims) m + sum_by (child_count m) a.rows
    held_is m opened =
        let b = s.balance m opened in
        let e₁ = sum_by-none (λ (c : Claim). pending_addition m c.phase) a.claims
        (All-weaker (λ (c : Claim). IsAtRest c.phase) (λ (c : Claim). pending_addition m c.phase ≡ 0)
        (λ (c : Claim) r. (rest_pending m c.phase r).0) a.claims rest) in
        let e₂ = sum_by-none (λ (c : Claim). pending_subtraction m c.phase) a.claims
        (All-weaker (λ (c : Claim). IsAtRest c.phase) (λ (c : Claim). pending_subtraction m c.phase ≡ 0)
        (λ (c : Claim) r. (rest_pending m c.phase r).1) a.claims rest) in
        let e₃ = charged-is m a.claims in
        omega arith
