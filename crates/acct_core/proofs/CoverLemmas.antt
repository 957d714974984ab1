-- What is still to be subtracted at a level is within its held number.
use Rattle.std.proofs.Common.{zero, suc, ◌≡◌, ℕ, ◌+◌, ◌<◌, ◌≤◌, ◌≢◌, Bool, true, false, cond, ◌&&◌, List, length, is_none, Option, Some, sum_by, arith, refl, sym, ◌∙◌, subst, eq-eqb, ⊎_elim, ◌==◌, nat_lt, lt-ltb}
use Rattle.std.proofs.lemmas.Bool.Decides.{nat_tests}
use Rattle.std.proofs.lemmas.Bool.{true≢false, cases_eq, cases_lt, cases_Bool, and_parts}
use Rattle.std.proofs.lemmas.List.Elements.{All-weaker}
use Rattle.acct_core.specs.declared.shape.Shape.{Shape}
use Rattle.acct_core.specs.declared.level_step.LevelStep.{LevelStep}
use Rattle.acct_core.specs.Phases.{Phase, pending_addition, pending_subtraction}
use Rattle.acct_core.specs.Claims.{Claim, Account, own_charge}
use Rattle.acct_core.specs.NodeTree.{IsNodeTree, IsOpen, Reaches}
use Rattle.acct_core.proofs.FitsLemmas.{ClaimFits, HeldLaw}
use Rattle.acct_core.specs.Rows.{blank, row, shapes, is_at}
use Rattle.acct_core.specs.Balance.{child_count}
use Rattle.acct_core.specs.Phases.Phase.{Free, In, Up, Held, Failed, Down, Bounced}
use Rattle.acct_core.proofs.SumLemmas.{sum_to, sum_to-le, at-le-sum_to, sum_by-sum_to, sum_by-zeros, sum_by-add, exchange, sum_by-le_each}
use Rattle.acct_core.proofs.LineLemmas.{at_some, made_in, on_line, on_reaches, by_child, line_open}

-- the size of a claim that has gone up past n
abbrev pub past_phase : (ℕ → Shape) → ℕ → ℕ → Phase → ℕ
past_phase shape n k Free = 0
past_phase shape n k In = 0
past_phase shape n k (Up size next pending forced steps) = cond (on_line shape k k n && nat_lt next n) size 0
past_phase shape n k (Held size forced steps) = 0
past_phase shape n k (Failed size forced steps) = 0
past_phase shape n k (Down size next pending) = 0
past_phase shape n k Bounced = 0

-- the same of a claim
abbrev pub past : (ℕ → Shape) → ℕ → Claim → ℕ
past shape n c = past_phase shape n c.node c.phase

-- an amount, where it comes from an open child of n
abbrev pub of_child : Shape → ℕ → ℕ → ℕ
of_child s n x = cond (s.is_open && is_at s.parent n) x 0

-- it comes from one
child_at : (s : Shape) (n x : ℕ) → s.is_open ≡ true → s.parent ≡ Some n → of_child s n x ≡ x
child_at s n x o e = rw (o, e, eq-eqb n n refl) refl

-- what such a claim weighs at n
weight : Bool → ℕ → ℕ → ℕ → ℕ → ℕ
weight line next n pending size = cond (next == n) pending 0 + cond (line && nat_lt next n) size 0

-- it weighs at most its size
at_most_size : (line : Bool) (next n pending size : ℕ) → pending ≤ size → weight line next n pending size ≤ size
unfolding weight
at_most_size line next n pending size h = grind (arith, nat_tests)

-- nothing below its next level
none_below : (line : Bool) (next n pending size : ℕ) → n < next → weight line next n pending size ≡ 0
unfolding weight
none_below line next n pending size h = grind (arith, nat_tests)

-- nothing off its way
none_off : (next n pending size : ℕ) → next ≢ n → weight false next n pending size ≡ 0
unfolding weight
none_off next n pending size h = grind (arith, nat_tests)

module _ (shape : ℕ → Shape) (t : IsNodeTree shape) (len : ℕ) (inside : (n : ℕ) → IsOpen shape n → n < len) where
  -- a claim on its way up is charged at n, or has gone past a child of n
  climbing : (k n : ℕ) (under : Option ℕ) (size next pending : ℕ) (forced : Bool) (steps : List LevelStep) →
      ClaimFits shape k under (Up size next pending forced steps) →
      weight (on_line shape k k n) next n pending size
      ≤ cond (k == n && is_none under) size 0 + sum_to len
      (λ j. of_child (shape j) n (past_phase shape j k (Up size next pending forced steps)))
  climbing k n under size next pending forced steps fits = ⊎_elim
      (λ same. rw (fits.1, eq-eqb k n same) (let a = at_most_size (on_line shape k k n) next n pending size fits.4 in omega arith))
      (λ other. ⊎_elim
      (λ (on : on_line shape k k n ≡ true).
      let c = by_child shape t k k n other on in
      let opened = line_open shape t k k c.0 c.2 fits.0 in
      let smaller = t.smaller c.0 n c.1 in
      ⊎_elim
      (λ (above : n < next). rw (none_below (on_line shape k k n) next n pending size above) (omega arith))
      (λ (below : next ≤ n).
      let e : of_child (shape c.0) n (past_phase shape c.0 k (Up size next pending forced steps)) ≡ size =
      child_at (shape c.0) n (past_phase shape c.0 k (Up size next pending forced steps)) opened c.1
      ∙ rw (c.2, lt-ltb next c.0 (omega arith)) refl in
      let a = at_most_size (on_line shape k k n) next n pending size fits.4 in
      let b = at-le-sum_to len (λ j. of_child (shape j) n (past_phase shape j k (Up size next pending forced steps))) c.0
      (inside c.0 opened) in
      omega arith)
      (cases_lt n next))
      (λ (off : on_line shape k k n ≡ false).
      let ne : next ≢ n = λ e. true≢false (sym (on_reaches shape t k k n (omega arith) (subst (λ (x : ℕ). Reaches shape k x) e fits.2))
      ∙ off) in
      rw (off, none_off next n pending size ne) (omega arith))
      (cases_Bool (on_line shape k k n)))
      (cases_eq k n)

  -- Of a claim on its way up, what is still to be added at n, and its size where it is past n, is charged at n or past a child of n
  pub comes_by : (n : ℕ) (c : Claim) → ClaimFits shape c.node c.under c.phase →
      pending_addition n c.phase + past shape n c ≤ own_charge n c + sum_to len (λ j. of_child (shape j) n (past shape j c))
  unfolding weight
  comes_by n c fits = go c.node c.under c.phase fits
    where
      go : (k : ℕ) (under : Option ℕ) (phase : Phase) → ClaimFits shape k under phase →
          pending_addition n phase + past_phase shape n k phase ≤ own_charge n (record { node = k; under = under; phase = phase }) + sum_to
          len (λ j. of_child (shape j) n (past_phase shape j k phase))
      go k under Free fits = omega arith
      go k under In fits = omega arith
      go k under (Held size forced steps) fits = omega arith
      go k under (Failed size forced steps) fits = omega arith
      go k under (Down size next pending) fits = omega arith
      go k under Bounced fits = omega arith
      go k under (Up size next pending forced steps) fits = climbing k n under size next pending forced steps fits

module _ (a : Account) (s : HeldLaw a) where
  -- an open number has a row
  open_inside : (n : ℕ) → IsOpen (shapes a.rows) n → n < length a.rows
  open_inside n o = made_in a.rows n (s.tree.made n o)

  -- the claims that have gone past a child are within what it counts for
  asks_enough : (n j : ℕ) → (IsOpen (shapes a.rows) j → n < j → sum_by (past (shapes a.rows) j) a.claims ≤ (row a.rows j).held) →
      sum_by (λ c. of_child (shapes a.rows j) n (past (shapes a.rows) j c)) a.claims ≤ child_count n (row a.rows j)
  asks_enough n j below = ⊎_elim
      (λ (yes : (shapes a.rows j).is_open && is_at (shapes a.rows j).parent n ≡ true).
      let p = and_parts (shapes a.rows j).is_open (is_at (shapes a.rows j).parent n) yes in
      let e = at_some (shapes a.rows j).parent n p.1 in
      let less = s.tree.smaller j n e in
      rw yes (let r = below p.0 less in omega arith))
      (λ (no : (shapes a.rows j).is_open && is_at (shapes a.rows j).parent n ≡ false). rw no (let z = sum_by-zeros a.claims in omega arith))
      (cases_Bool ((shapes a.rows j).is_open && is_at (shapes a.rows j).parent n))

  -- held covers the pending subtractions and the sizes that have gone past, from the greatest numbers down
  covered_from : (f n : ℕ) → length a.rows ≤ n + f → IsOpen (shapes a.rows) n →
      sum_by (λ c. pending_subtraction n c.phase) a.claims + sum_by (past (shapes a.rows) n) a.claims ≤ (row a.rows n).held
  covered_from zero n h o = let i = open_inside n o in absurd (omega arith)
  covered_from (suc f) n h o =
      let sh = shapes a.rows in
      let e₁ = sum_by-add (λ (c : Claim). pending_addition n c.phase) (past sh n) a.claims in
      let e₂ = sum_by-le_each (λ (c : Claim). pending_addition n c.phase + past sh n c)
      (λ (c : Claim). own_charge n c + sum_to (length a.rows) (λ j. of_child (sh j) n (past sh j c))) a.claims
      (All-weaker (λ (c : Claim). ClaimFits sh c.node c.under c.phase)
      (λ (c : Claim). pending_addition n c.phase + past sh n c
      ≤ own_charge n c + sum_to (length a.rows) (λ j. of_child (sh j) n (past sh j c)))
      (comes_by sh s.tree (length a.rows) open_inside n) a.claims s.claims) in
      let e₃ = sum_by-add (own_charge n) (λ (c : Claim). sum_to (length a.rows) (λ j. of_child (sh j) n (past sh j c))) a.claims in
      let e₄ = exchange (λ j (c : Claim). of_child (sh j) n (past sh j c)) (length a.rows) a.claims in
      let e₅ = sum_to-le (length a.rows) (λ j. sum_by (λ (c : Claim). of_child (sh j) n (past sh j c)) a.claims)
      (λ j. child_count n (row a.rows j))
      (λ j. asks_enough n j (λ opened above. (let r = covered_from f j (omega arith) opened in omega arith))) in
      let e₆ = sum_by-sum_to (child_count n) a.rows blank in
      let b = s.balance n o in
      omega arith

  -- held covers the pending subtractions
  pub covered : (n : ℕ) → IsOpen (shapes a.rows) n → sum_by (λ c. pending_subtraction n c.phase) a.claims ≤ (row a.rows n).held
  covered n o = let c = covered_from (length a.rows) n (omega arith) o in omega arith
