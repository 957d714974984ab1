-- A machine opens in a lawful state.
use Rattle.std.proofs.Common.{zero, suc, ◌≡◌, ℕ, ◌+◌, ◌*◌, ◌^◌, ◌<◌, ◌≤◌, true, ◌&&◌, List, ◌∷◌, map, replicate, set, Some, None, sum_by, nat_lt, ◌==◌, ◌⊎◌, inl, inr, arith, refl, sym, ap, ◌∙◌, subst, ⊎_elim, lt-ltb}
use Rattle.std.proofs.lemmas.Bool.{true≢false, cases_lt, le-ltb}
use Rattle.std.proofs.lemmas.List.{get_or-replicate, length-replicate}
use Rattle.std.proofs.lemmas.List.Elements.{All-cons, All-replicate}
use Rattle.std.proofs.lemmas.List.Sums.{sum_by-cons}
use Rattle.std.proofs.lemmas.List.Folds.{sum_by-replicate}
use Rattle.std.proofs.Math.ListN.{get_or-eq_default}
use Rattle.mem_num.specs.declared.bounds.TheConstants.{MAX_RESERVATION, MOST_ALLOCATORS}
use Rattle.acct_core.specs.declared.row.Row.{Row}
use Rattle.acct_core.specs.Claims.{Claim, Account, account, no_claim, own_charge, use_count, backing_count}
use Rattle.acct_core.specs.declared.slot.Slot.{Slot}
use Rattle.acct_core.specs.Rows.{blank, row, shapes}
use Rattle.acct_core.specs.NodeTree.{IsOpen, IsNodeTree}
use Rattle.acct_core.specs.Phases.{size_of, pending_addition, pending_subtraction}
use Rattle.acct_core.specs.Balance.{child_count, IsBalancedAt}
use Rattle.acct_core.specs.Lawful.{IsInTime, HasNextLevel, KeepsLimits, Backs, backing_needed, IsLawfulAccount}
use Rattle.acct_core.specs.State.{made_count, IsLawfulMachine, state_of}
use Rattle.acct_core.specs.Slots.{claim_of}
use Rattle.acct_core.specs.Opening.{opening_row, opening_rows, opening}
use Rattle.acct_core.proofs.SumLemmas.{zero_cond, cond-and_false}
use Rattle.acct_core.proofs.StateLemmas.{made_one}

-- a weight that is 0 at a free claim is 0 over free claims
free_sum : (f : Claim → ℕ) (count : ℕ) → f no_claim ≡ 0 → sum_by f (replicate count no_claim) ≡ 0
free_sum f count e = sum_by-replicate f count no_claim ∙ ap (λ (x : ℕ). count * x) e ∙ omega arith

module _ (limit numbers count : ℕ) where
  -- the root and blanks
  abbrev rows : List Row
  rows = opening_row limit ∷ replicate numbers blank

  -- free claims
  abbrev claims : List Claim
  claims = replicate count no_claim

  -- the account of both
  abbrev a : Account
  a = account rows claims

  -- each of the others is blank
  blank_at : (n : ℕ) → row (replicate numbers blank) n ≡ blank
  blank_at n = ⊎_elim
      (λ (h : n < numbers). get_or-replicate numbers n blank blank h)
      (λ (h : numbers ≤ n). get_or-eq_default (replicate numbers blank) blank (let l = length-replicate numbers blank in omega arith))
      (cases_lt n numbers)

  -- each row is the root's or blank
  each : (n : ℕ) → ((n ≡ 0) × (row rows n ≡ opening_row limit)) ⊎ ((1 ≤ n) × (row rows n ≡ blank))
  each zero = inl (refl, refl)
  each (suc n) = inr (omega arith, blank_at n)

  -- the root alone is open
  open_root : (n : ℕ) → IsOpen (shapes rows) n → n ≡ 0
  open_root n o = ⊎_elim (λ e. e.0) (λ b. absurd (true≢false (sym o ∙ ap (λ (r : Row). r.shape.is_open) b.1))) (each n)

  -- nobody has a parent
  no_parent : (n : ℕ) → (shapes rows n).parent ≡ None
  no_parent n = ⊎_elim (λ e. ap (λ (r : Row). r.shape.parent) e.1) (λ b. ap (λ (r : Row). r.shape.parent) b.1) (each n)

  -- so none is found
  has_no_parent : {A : Type 0} (n p : ℕ) → (shapes rows n).parent ≡ Some p → A
  has_no_parent n p e = let q = sym (no_parent n) ∙ e in absurd cc

  -- nothing is held
  held_nothing : (n : ℕ) → (row rows n).held ≡ 0
  held_nothing n = ⊎_elim (λ e. ap (λ (r : Row). r.held) e.1) (λ b. ap (λ (r : Row). r.held) b.1) (each n)

  -- nothing is used
  no_uses : (n : ℕ) → (row rows n).uses ≡ 0
  no_uses n = ⊎_elim (λ e. ap (λ (r : Row). r.uses) e.1) (λ b. ap (λ (r : Row). r.uses) b.1) (each n)

  -- no child counts for anything
  no_children : (n : ℕ) → sum_by (child_count n) rows ≡ 0
  no_children n =
      let e = sum_by-cons (child_count n) (opening_row limit) (replicate numbers blank) in
      let f = sum_by-replicate (child_count n) numbers blank in
      omega arith

  -- no node needs a backing claim
  needs_none : (n : ℕ) → backing_needed (shapes rows n) ≡ 0
  needs_none n = ⊎_elim (λ e. ap (λ (r : Row). backing_needed r.shape) e.1) (λ b. ap (λ (r : Row). backing_needed r.shape) b.1) (each n)

  -- the root is a tree
  opening_tree : IsNodeTree (shapes rows)
  opening_tree = record {
    made = λ n o. ap (λ (m : ℕ). (shapes rows m).made) (open_root n o);
    root = λ n m e. ⊎_elim (λ q. q.0) (λ b. absurd (true≢false (sym m ∙ ap (λ (r : Row). r.shape.made) b.1))) (each n);
    smaller = λ n p e. has_no_parent n p e;
    made_parent = λ n p e. has_no_parent n p e;
    open_parent = λ n p o e. has_no_parent n p e;
  }

  -- it balances
  opening_balance : (n : ℕ) → IsBalancedAt a n
  opening_balance n =
      let h = held_nothing n in
      let e₁ = free_sum (λ (c : Claim). pending_addition n c.phase) count refl in
      let e₂ = free_sum (own_charge n) count (zero_cond (0 == n && true)) in
      let e₃ = free_sum (λ (c : Claim). pending_subtraction n c.phase) count refl in
      let e₄ = no_children n in
      omega arith

  -- the account is lawful
  opening_account : IsLawfulAccount a
  opening_account = record {
    tree = opening_tree;
    balance = record { opened = λ n o. opening_balance n; closed = λ n c. held_nothing n };
    use_counts = λ n. no_uses n ∙ sym (free_sum (use_count n) count (cond-and_false (0 == n) 1));
    late_entries = All-replicate (λ (c : Claim). IsInTime (shapes rows) c.node c.phase) count no_claim tt;
    next_levels = All-replicate (λ (c : Claim). HasNextLevel (shapes rows) c.node c.phase) count no_claim tt;
    backing = record {
      one_claim = λ n. free_sum (backing_count n) count refl ∙ sym (needs_none n);
      paid = All-replicate (λ (c : Claim). Backs (shapes rows) c.node c.under c.phase) count no_claim tt;
    };
    limit_steps = All-replicate (λ (c : Claim). KeepsLimits c.phase) count no_claim tt;
  }

  -- one allocator was made
  pub one_made : made_count rows ≡ 1
  one_made = let e = sum_by-cons made_one (opening_row limit) (replicate numbers blank) in
      let f = sum_by-replicate made_one numbers blank in omega arith

  -- it has the first number
  opening_numbers : (n : ℕ) → (shapes rows n).made ≡ nat_lt n (made_count rows)
  opening_numbers n = ⊎_elim
      (λ e. ap (λ (r : Row). r.shape.made) e.1 ∙ sym (lt-ltb n (made_count rows) (let m = one_made in let z = e.0 in omega arith)))
      (λ b. ap (λ (r : Row). r.shape.made) b.1 ∙ sym (le-ltb n (made_count rows) (let m = one_made in let z = b.0 in omega arith)))
      (each n)

  -- the state is lawful
  pub opening_state : (bytes : ℕ) → numbers + 1 ≡ MOST_ALLOCATORS → count < 2 ^ 32 → bytes ≤ 2 ^ 61 →
      IsLawfulMachine (record { account = a; bytes = bytes })
  opening_state bytes e few fits = record {
    lawful = opening_account;
    wide = (let l = length-replicate numbers blank in omega arith);
    numbered = opening_numbers;
    few = (let l = length-replicate count no_claim in omega arith);
    reservations = All-cons (λ (r : Row). r.shape.reservation ≤ MAX_RESERVATION) (opening_row limit) (replicate numbers blank)
        (omega arith) (All-replicate (λ (r : Row). r.shape.reservation ≤ MAX_RESERVATION) numbers blank (omega arith));
    sizes = All-replicate (λ (c : Claim). size_of c.phase ≤ MAX_RESERVATION) count no_claim (omega arith);
    budget = (let z = free_sum (λ (c : Claim). size_of c.phase) count refl in omega arith);
  }

-- what is opened is lawful
pub opening_lawful : (limit count bytes : ℕ) → count < 2 ^ 32 → bytes ≤ 2 ^ 61 → IsLawfulMachine (opening limit count bytes)
    × (made_count (opening_rows limit) ≡ 1)
unfolding opening_rows
opening_lawful limit count bytes few fits = (opening_state limit 63 count bytes (omega arith) few fits, one_made limit 63 count)

-- the same of rows and slots that are those of an opening
pub opened_lawful : (limit count bytes : ℕ) (its_rows : List Row) (slots : List Slot) → its_rows ≡ opening_rows limit →
    map claim_of slots ≡ replicate count no_claim → count < 2 ^ 32 → bytes ≤ 2 ^ 61 →
    IsLawfulMachine (state_of its_rows slots bytes) × (1 ≡ made_count its_rows)
opened_lawful limit count bytes its_rows slots e f few fits =
    let l = opening_lawful limit count bytes few fits in (
      subst IsLawfulMachine (λ j. record { account = record { rows = sym e j; claims = sym f j }; bytes = bytes }) l.0,
      sym l.1 ∙ ap made_count (sym e),
    )

-- and the root and blanks are that many rows
pub opening_rows-set : (limit : ℕ) (its_rows : List Row) (root : Row) → its_rows ≡ replicate 64 blank → root ≡ opening_row limit →
    set its_rows 0 root ≡ opening_rows limit
unfolding opening_rows
opening_rows-set limit its_rows root e f = rw (e, f) refl

-- a machine opens in a lawful state
pub opening_is_lawful : (limit count bytes : ℕ) → count < 2 ^ 32 → bytes ≤ 2 ^ 61 → IsLawfulMachine (opening limit count bytes)
opening_is_lawful limit count bytes few fits = (opening_lawful limit count bytes few fits).0
