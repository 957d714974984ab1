-- Each move of a claim keeps the balance.
use Rattle.std.proofs.Common.{zero, suc, ◌≡◌, ℕ, ◌+◌, ◌-◌, ◌<◌, ◌≤◌, max, Bool, true, false, cond, not, ◌&&◌, List, [], get_or, set, length, is_none, ◌==◌, Option, Some, None, arith, refl, sym, ap, ◌∙◌, eq-eqb, ne_eqb, ⊎_elim, get_or-set_same, get_or-set_other}
use Rattle.std.proofs.lemmas.Bool.{cases_eq}
use Rattle.std.proofs.lemmas.List.Sums.{sum_by-set}
use Rattle.acct_core.specs.declared.row.Row.{Row}
use Rattle.acct_core.specs.declared.level_step.LevelStep.{LevelStep}
use Rattle.acct_core.specs.Phases.{Phase, pair_at, charged, pending_addition, pending_subtraction, any_past}
use Rattle.acct_core.specs.Claims.{Claim, Account, own_charge}
use Rattle.mem_model.specs.Reservation.{beyond_reservation}
use Rattle.acct_core.specs.Rows.{blank, row, is_at}
use Rattle.acct_core.specs.Balance.{child_count, IsBalancedAt}
use Rattle.acct_core.specs.Effects.{ended, passed, goes_on, goes_back}
use Rattle.acct_core.specs.Phases.Phase.{In, Up, Held, Failed, Down}

-- what one claim and one row give to n before and after is the same, up to what the row's own held number changes
abbrev pub Conserves : ℕ → Row → Row → Claim → Claim → ℕ → Type 0
Conserves m r r' c d n =
    cond (m == n) r'.held 0 + own_charge n c + pending_subtraction n c.phase + child_count n r + pending_addition n d.phase
    ≡ cond (m == n) r.held 0 + own_charge n d + pending_subtraction n d.phase + child_count n r' + pending_addition n c.phase

-- the row n after a write at m
pub row_set : (g : Row → ℕ) (rows : List Row) (m n : ℕ) (r' : Row) → m < length rows →
    g (row (set rows m r') n) + cond (m == n) (g (row rows m)) 0 ≡ g (row rows n) + cond (m == n) (g r') 0
row_set g rows m n r' h = ⊎_elim
    (λ e. rw (eq-eqb m n (sym e), e) (let s = get_or-set_same rows m r' blank h in let s' = ap g s in omega arith))
    (λ ne. rw (ne_eqb m n (λ e. ne (sym e))) (let s = get_or-set_other rows m n r' blank ne in let s' = ap g s in omega arith))
    (cases_eq n m)

-- what conserves the weights at n keeps its balance
pub moved : (a : Account) (i m n : ℕ) (r' : Row) (d c₀ : Claim) → i < length a.claims → m < length a.rows →
    Conserves m (row a.rows m) r' (get_or a.claims i c₀) d n → IsBalancedAt a n →
    IsBalancedAt (record { rows = set a.rows m r'; claims = set a.claims i d }) n
moved a i m n r' d c₀ hi hm local old =
    let e₁ = sum_by-set (λ (c : Claim). pending_addition n c.phase) a.claims i d c₀ hi in
    let e₂ = sum_by-set (own_charge n) a.claims i d c₀ hi in
    let e₃ = sum_by-set (λ (c : Claim). pending_subtraction n c.phase) a.claims i d c₀ hi in
    let e₄ = sum_by-set (child_count n) a.rows m r' blank hm in
    let e₅ = row_set (λ (r : Row). r.held) a.rows m n r' hm in
    omega arith

-- a test between two numbers that are the same
cond_same : (b : Bool) (n : ℕ) → n ≡ cond b n n
cond_same true n = refl
cond_same false n = refl

-- the new phases, weighed
pub weighs_ended : (n size : ℕ) (forced : Bool) (steps : List LevelStep) →
    (charged (ended size forced steps) ≡ size) × (pending_addition n (ended size forced steps) ≡ 0)
    × (pending_subtraction n (ended size forced steps) ≡ 0)
weighs_ended n size forced steps =
    elim (not forced && any_past steps) as (λ b. (charged (cond b (Failed size forced steps) (Held size forced steps)) ≡ size)
    × (pending_addition n (cond b (Failed size forced steps) (Held size forced steps)) ≡ 0)
    × (pending_subtraction n (cond b (Failed size forced steps) (Held size forced steps)) ≡ 0))
    [ true ↦ (refl, refl, refl) | false ↦ (refl, refl, refl) ]

-- what goes to the parent, at n
pub pair_passed : (p : Option ℕ) (n amount : ℕ) → pair_at n (passed p amount) ≡ cond (is_at p n) amount 0
pair_passed None n amount = refl
pair_passed (Some p) n zero = cond_same (p == n) 0
pair_passed (Some p) n (suc amount) = refl

-- a request that goes on, weighed
pub weighs_on : (pair : Option (ℕ × ℕ)) (n size : ℕ) (forced : Bool) (steps : List LevelStep) →
    (charged (goes_on pair size forced steps) ≡ size) × (pending_addition n (goes_on pair size forced steps) ≡ pair_at n pair)
    × (pending_subtraction n (goes_on pair size forced steps) ≡ 0)
weighs_on None n size forced steps = weighs_ended n size forced steps
weighs_on (Some pair) n size forced steps = (refl, refl, refl)

-- a release that goes back, weighed
pub weighs_back : (pair : Option (ℕ × ℕ)) (n size : ℕ) →
    (charged (goes_back pair size) ≡ 0) × (pending_addition n (goes_back pair size) ≡ 0)
    × (pending_subtraction n (goes_back pair size) ≡ pair_at n pair)
weighs_back None n size = (refl, refl, refl)
weighs_back (Some pair) n size = (refl, refl, refl)

-- what a level passes on is the change of what it counts for at its parent, whatever other claims did before
pub heart_up : (here above : Bool) (held pending reservation rest : ℕ) →
    cond here (held + pending) 0 + rest + 0 + cond above (max held reservation) 0 + cond above
    (beyond_reservation reservation held (held + pending)) 0
    ≡ cond here held 0 + rest + 0 + cond above (max (held + pending) reservation) 0 + cond here pending 0
heart_up true true held pending reservation rest = omega arith
heart_up true false held pending reservation rest = omega arith
heart_up false true held pending reservation rest = omega arith
heart_up false false held pending reservation rest = omega arith

-- the same downwards, where what is pending is there
pub heart_down : (here above : Bool) (held pending reservation rest : ℕ) → pending ≤ held →
    cond here (held - pending) 0 + rest + cond here pending 0 + cond above (max held reservation) 0 + 0
    ≡ cond here held 0 + rest + cond above (beyond_reservation reservation (held - pending) held) 0 + cond above
    (max (held - pending) reservation) 0 + 0
heart_down true true held pending reservation rest fits = omega arith
heart_down true false held pending reservation rest fits = omega arith
heart_down false true held pending reservation rest fits = omega arith
heart_down false false held pending reservation rest fits = omega arith

-- an addition of the pending amount at the next level m
pub conserves_up : (n m k : ℕ) (under : Option ℕ) (size pending : ℕ) (forced : Bool) (steps new_steps : List LevelStep) (r : Row) →
    r.shape.is_open ≡ true →
    Conserves m r (record r { held = r.held + pending }) (record { node = k; under = under; phase = Up size m pending forced steps })
    (record {
      node = k;
      under = under;
      phase = goes_on (passed r.shape.parent (beyond_reservation r.shape.reservation r.held (r.held + pending))) size forced new_steps;
    })
    n
conserves_up n m k under size pending forced steps new_steps r opened =
    let w = weighs_on (passed r.shape.parent (beyond_reservation r.shape.reservation r.held (r.held + pending))) n size forced new_steps in
    rw (w.0, w.1, w.2, pair_passed, opened)
    (heart_up (m == n) (is_at r.shape.parent n) r.held pending r.shape.reservation (cond (k == n && is_none under) size 0))

-- a subtraction of the pending amount at the next level m
pub conserves_down : (n m k : ℕ) (under : Option ℕ) (size pending : ℕ) (r : Row) → r.shape.is_open ≡ true → pending ≤ r.held →
    Conserves m r (record r { held = r.held - pending }) (record { node = k; under = under; phase = Down size m pending })
    (record {
      node = k;
      under = under;
      phase = goes_back (passed r.shape.parent (beyond_reservation r.shape.reservation (r.held - pending) r.held)) size;
    }) n
conserves_down n m k under size pending r opened fits =
    let w = weighs_back (passed r.shape.parent (beyond_reservation r.shape.reservation (r.held - pending) r.held)) n size in
    rw (w.0, w.1, w.2, pair_passed, opened)
    (heart_down (m == n) (is_at r.shape.parent n) r.held pending r.shape.reservation (cond (k == n && is_none under) 0 0) fits)

-- a request begins at its own node
pub conserves_begin : (n k size : ℕ) (under : Option ℕ) (forced : Bool) (r : Row) → under ≡ None →
    Conserves k r r (record { node = k; under = under; phase = In }) (record { node = k; under = under; phase = Up size k size forced [] })
    n
conserves_begin n k size under forced r free = rw free (at_begin (k == n) (child_count n r) r.held size)
  where
    at_begin : (here : Bool) (a h s : ℕ) → cond here h 0 + cond (here && true) 0 0 + 0 + a + cond here s 0
        ≡ cond here h 0 + cond (here && true) s 0 + 0 + a + 0
    at_begin true a h s = omega arith
    at_begin false a h s = omega arith

-- a charge of the size turns round at its own node
pub conserves_turn : (n k size : ℕ) (under : Option ℕ) (phase : Phase) (r : Row) → under ≡ None → charged phase ≡ size →
    pending_addition n phase ≡ 0 → pending_subtraction n phase ≡ 0 →
    Conserves k r r (record { node = k; under = under; phase = phase }) (record { node = k; under = under; phase = Down size k size }) n
conserves_turn n k size under phase r free e₁ e₂ e₃ = rw (free, e₁, e₂, e₃) (turns (k == n) (child_count n r) r.held size)
  where
    turns : (here : Bool) (a h s : ℕ) → cond here h 0 + cond (here && true) s 0 + 0 + a + 0
        ≡ cond here h 0 + cond (here && true) 0 0 + cond here s 0 + a + 0
    turns true a h s = omega arith
    turns false a h s = omega arith

-- nothing is charged before or after
pub conserves_none : (n m : ℕ) (r r' : Row) (c d : Claim) → r'.held ≡ r.held → r'.shape ≡ r.shape →
    charged c.phase ≡ 0 → pending_addition n c.phase ≡ 0 → pending_subtraction n c.phase ≡ 0 → charged d.phase ≡ 0 →
    pending_addition n d.phase ≡ 0 → pending_subtraction n d.phase ≡ 0 →
    Conserves m r r' c d n
conserves_none n m r r' c d h s e₁ e₂ e₃ f₁ f₂ f₃ =
    let p : own_charge n c ≡ 0 = ap (λ (x : ℕ). cond (c.node == n && is_none c.under) x 0) e₁
    ∙ sym (cond_same (c.node == n && is_none c.under) 0) in
    let q : own_charge n d ≡ 0 = ap (λ (x : ℕ). cond (d.node == n && is_none d.under) x 0) f₁
    ∙ sym (cond_same (d.node == n && is_none d.under) 0) in
    rw (p, q, e₂, e₃, f₂, f₃, h, s) refl
