-- Every step of the machine keeps its law.
use Rattle.std.proofs.Common.{◌≡◌, ℕ, ◌+◌, ◌<◌, ◌≤◌, ◌≢◌, Bool, true, false, cond, not, ◌&&◌, List, set, length, get_or, nat_lt, Option, Some, None, All, sum_by, arith, refl, sym, ap, ◌∙◌, subst, ⊎_elim, length-set, get_or-set_same, get_or-set_other, lt-ltb}
use Rattle.std.proofs.lemmas.Grind.{common_steps}
use Rattle.std.proofs.lemmas.Bool.{le-ltb, cases_eq, cases_lt}
use Rattle.std.proofs.lemmas.List.Elements.{All-get_or, All-set}
use Rattle.std.proofs.lemmas.List.Sums.{sum_by-set}
use Rattle.mem_num.specs.declared.bounds.TheConstants.{MAX_RESERVATION}
use Rattle.mem_num.specs.declared.alloc_id.AllocId.{AllocId}
use Rattle.acct_core.specs.declared.shape.Shape.{Shape}
use Rattle.acct_core.specs.declared.row.Row.{Row}
use Rattle.acct_core.specs.declared.level_step.LevelStep.{LevelStep}
use Rattle.acct_core.specs.Claims.{Claim, Account, claim, no_claim}
use Rattle.acct_core.specs.Phases.{Phase, size_of, any_past}
use Rattle.acct_core.specs.Phases.Phase.{In, Held, Failed}
use Rattle.acct_core.specs.declared.event.Event.{Event}
use Rattle.acct_core.specs.declared.event.Event.TheVariants.{Open, Close}
use Rattle.acct_core.specs.declared.told.Told.{Told}
use Rattle.acct_core.specs.declared.told.Told.TheVariants.{Opened, Closed, InUse}
use Rattle.acct_core.specs.Rows.{blank, row, shapes}
use Rattle.acct_core.specs.Lawful.{PaysFor, IsLawfulAccount}
use Rattle.acct_core.specs.Effects.{Effect, goes_on, goes_back, effect_of, claim_number, level_of}
use Rattle.acct_core.specs.Applies.{AppliesToClaim, opened_row, with_child, OpensChild, FreesBacking, closed_row, ClosesNode, Applies}
use Rattle.acct_core.specs.State.{State, made_count, spent, GivesNumber, StepsTo, IsLawfulMachine}
use Rattle.acct_core.proofs.FitsLemmas.{whole_law}
use Rattle.acct_core.proofs.LineLemmas.{made_in}
use Rattle.acct_core.proofs.LawLemmas.{each_move, claim_law, level_inside, its_keeps}

-- the sizes of the phases in which an addition or a subtraction ends
size_on : (pair : Option (ℕ × ℕ)) (size : ℕ) (forced : Bool) (steps : List LevelStep) → size_of (goes_on pair size forced steps) ≡ size
size_on None size forced steps =
    elim (not forced && any_past steps) as (λ b. size_of (cond b (Failed size forced steps) (Held size forced steps)) ≡ size)
    [ true ↦ refl | false ↦ refl ]
size_on (Some pair) size forced steps = refl

-- the size that a release keeps
size_back : (pair : Option (ℕ × ℕ)) (size : ℕ) → size_of (goes_back pair size) ≤ size
size_back None size = omega arith
size_back (Some pair) size = omega arith

-- a claim's size grows by what the event spends
effect_grows : (event : Event) (c : Claim) (r : Row) (u : Effect) → effect_of event c r ≡ Some u →
    size_of u.claim.phase ≤ size_of c.phase + spent event
effect_grows event c r u e = grind (arith, common_steps, size_on, size_back)

-- and stays within the largest
effect_small : (event : Event) (c : Claim) (r : Row) (u : Effect) → effect_of event c r ≡ Some u → size_of c.phase ≤ MAX_RESERVATION →
    size_of u.claim.phase ≤ MAX_RESERVATION
effect_small event c r u e s = grind (arith, common_steps, size_on, size_back)

-- A claim's size grows by what the event spends, and stays within the largest
pub record KeepsSize (c : Claim) (event : Event) (u : Effect) : Type 0 where
  pub grows : size_of u.claim.phase ≤ size_of c.phase + spent event
  pub small : size_of c.phase ≤ MAX_RESERVATION → size_of u.claim.phase ≤ MAX_RESERVATION

-- each event keeps that
effect_size : (event : Event) (c : Claim) (r : Row) (u : Effect) → effect_of event c r ≡ Some u → KeepsSize c event u
effect_size event c r u e = record {
  grows = effect_grows event c r u e;
  small = λ s. effect_small event c r u e s;
}

-- one where a row was made
abbrev pub made_one : Row → ℕ
made_one r = cond r.shape.made 1 0

-- the law of a state after its rows and claims were set, but for the law of the account
module _ (s : State) (l : IsLawfulMachine s) where
  -- the rows
  abbrev rows : List Row
  rows = s.account.rows

  -- a row that keeps its shape, but for being open
  module _ (m : ℕ) (r' : Row) (inside : m < length rows) (same : r'.shape.made ≡ (row rows m).shape.made) where
    -- changes no number
    pub same_count : made_count (set rows m r') ≡ made_count rows
    same_count =
        let q = sum_by-set made_one rows m r' blank inside in
        let f : made_one r' ≡ made_one (row rows m) = ap (λ (b : Bool). cond b 1 0) same in
        omega arith

    -- who was made stays made, and no other is
    same_made : (n : ℕ) → (shapes (set rows m r') n).made ≡ (shapes rows n).made
    same_made n = ⊎_elim
        (λ q. ap (λ (x : ℕ). (shapes (set rows m r') x).made) q ∙ ap (λ (r : Row). r.shape.made) (get_or-set_same rows m r' blank inside)
        ∙ same
        ∙ ap (λ (x : ℕ). (shapes rows x).made) (sym q))
        (λ ne. ap (λ (r : Row). r.shape.made) (get_or-set_other rows m n r' blank ne))
        (cases_eq n m)

    -- numbers are given in order still
    same_numbered : (n : ℕ) → (shapes (set rows m r') n).made ≡ nat_lt n (made_count (set rows m r'))
    same_numbered n = same_made n ∙ l.numbered n ∙ ap (nat_lt n) (sym same_count)

  -- rows and claims of which one each was set
  module _ (m i : ℕ) (r' : Row) (c' : Claim) (b : Account) (bytes : ℕ) (hm : m < length rows) (hi : i < length s.account.claims)
      (made : r'.shape.made ≡ (row rows m).shape.made) (reservation : r'.shape.reservation ≤ MAX_RESERVATION)
      (grows : size_of c'.phase + bytes ≤ size_of (claim s.account i).phase + s.bytes) (small : size_of c'.phase ≤ MAX_RESERVATION)
      (lawful : IsLawfulAccount b) (rows_are : b.rows ≡ set rows m r') (claims_are : b.claims ≡ set s.account.claims i c') where
    pub set_lawful : IsLawfulMachine (record { account = b; bytes = bytes })
    set_lawful = record {
      lawful = lawful;
      wide = ap length rows_are ∙ length-set rows m r' ∙ l.wide;
      numbered = subst (λ (x : List Row). (n : ℕ) → (shapes x n).made ≡ nat_lt n (made_count x)) (sym rows_are)
          (same_numbered m r' hm made);
      few = (let e = ap length claims_are in let f = length-set s.account.claims i c' in let g = l.few in omega arith);
      reservations = subst (All (λ (r : Row). r.shape.reservation ≤ MAX_RESERVATION)) (sym rows_are)
          (All-set (λ (r : Row). r.shape.reservation ≤ MAX_RESERVATION) rows m r' reservation l.reservations);
      sizes = subst (All (λ (c : Claim). size_of c.phase ≤ MAX_RESERVATION)) (sym claims_are)
          (All-set (λ (c : Claim). size_of c.phase ≤ MAX_RESERVATION) s.account.claims i c' small l.sizes);
      budget =
          (let e = ap (sum_by (λ (c : Claim). size_of c.phase)) claims_are in
          let f = sum_by-set (λ (c : Claim). size_of c.phase) s.account.claims i c' no_claim hi in
          let g = l.budget in
          omega arith);
    }

  -- a claim's size is small
  its_size : (i : ℕ) → i < length s.account.claims → size_of (claim s.account i).phase ≤ MAX_RESERVATION
  its_size i h = All-get_or (λ (c : Claim). size_of c.phase ≤ MAX_RESERVATION) s.account.claims i no_claim h l.sizes

  -- so is a reservation
  its_reservation : (m : ℕ) → m < length rows → (row rows m).shape.reservation ≤ MAX_RESERVATION
  its_reservation m h = All-get_or (λ (r : Row). r.shape.reservation ≤ MAX_RESERVATION) rows m blank h l.reservations

  -- an event of a claim
  claim_steps : (event : Event) (told : Told) (b : State) → AppliesToClaim s.account event told b.account →
      b.bytes + spent event ≡ s.bytes → IsLawfulMachine b
  claim_steps event told b m afforded =
      let w = whole_law s.account l.lawful in
      let inside = level_inside s.account b.account event told m w.held in
      let k = its_keeps s.account b.account event told m w.held in
      let z = effect_size event (claim s.account (claim_number event)) (row rows (level_of event (claim s.account (claim_number event))))
      (record { told = told; row = m.row_after; claim = m.claim_after }) m.effect in
      set_lawful (level_of event (claim s.account (claim_number event))) (claim_number event) m.row_after m.claim_after b.account b.bytes
      inside m.there
      (ap (λ (x : Shape). x.made) k.same)
      (let e = ap (λ (x : Shape). x.reservation) k.same in let f = its_reservation (level_of event (claim s.account (claim_number event)))
      inside in omega arith)
      (let g = z.grows in omega arith)
      (z.small (its_size (claim_number event) m.there))
      (claim_law s.account b.account event told m l.lawful) m.rows m.claims

  -- a child is made
  open_steps : (i reservation limit k : ℕ) (b : State) → OpensChild s.account i reservation limit k b.account → k ≡ made_count rows →
      b.bytes ≡ s.bytes → IsLawfulAccount b.account → IsLawfulMachine b
  open_steps i reservation limit k b o next bytes lawful =
      let r' = opened_row (claim s.account i).node reservation limit in
      let c' = with_child (Some k) (claim s.account i) in
      record {
        lawful = lawful;
        wide = ap length o.rows ∙ length-set rows k r' ∙ l.wide;
        numbered = subst (λ (x : List Row). (n : ℕ) → (shapes x n).made ≡ nat_lt n (made_count x)) (sym o.rows) numbered;
        few = (let e = ap length o.claims in let f = length-set s.account.claims i c' in let g = l.few in omega arith);
        reservations = subst (All (λ (r : Row). r.shape.reservation ≤ MAX_RESERVATION)) (sym o.rows)
            (All-set (λ (r : Row). r.shape.reservation ≤ MAX_RESERVATION) rows k r'
            (let p = paid_size (claim s.account i).phase o.pays in let q = its_size i o.there in omega arith) l.reservations);
        sizes = subst (All (λ (c : Claim). size_of c.phase ≤ MAX_RESERVATION)) (sym o.claims)
            (All-set (λ (c : Claim). size_of c.phase ≤ MAX_RESERVATION) s.account.claims i c' (its_size i o.there) l.sizes);
        budget =
            (let e = ap (sum_by (λ (c : Claim). size_of c.phase)) o.claims in
            let f = sum_by-set (λ (c : Claim). size_of c.phase) s.account.claims i c' no_claim o.there in
            let g = l.budget in
            omega arith);
      }
    where
      paid_size : (phase : Phase) → PaysFor reservation phase → reservation ≤ size_of phase
      paid_size In h = omega arith
      paid_size (Held size forced steps) h = omega arith
      paid_size _ h = absurd h

      one_more : made_count (set rows k (opened_row (claim s.account i).node reservation limit)) ≡ made_count rows + 1
      one_more =
          let q = sum_by-set made_one rows k (opened_row (claim s.account i).node reservation limit) blank o.room in
          let f : made_one (row rows k) ≡ 0 = ap (λ (b : Bool). cond b 1 0) o.fresh in
          omega arith

      numbered : (n : ℕ) → (shapes (set rows k (opened_row (claim s.account i).node reservation limit)) n).made
          ≡ nat_lt n (made_count (set rows k (opened_row (claim s.account i).node reservation limit)))
      numbered n = ⊎_elim
          (λ q. ap (λ (x : ℕ). (shapes (set rows k (opened_row (claim s.account i).node reservation limit)) x).made) q
          ∙ ap (λ (r : Row). r.shape.made) (get_or-set_same rows k (opened_row (claim s.account i).node reservation limit) blank o.room)
          ∙ sym (lt-ltb n (made_count (set rows k (opened_row (claim s.account i).node reservation limit)))
          (let m = one_more in omega arith)))
          (λ ne. ap (λ (r : Row). r.shape.made)
          (get_or-set_other rows k n (opened_row (claim s.account i).node reservation limit) blank ne) ∙ l.numbered n
          ∙ one_later n (made_count rows) (λ e. ne (omega arith)) ∙ ap (nat_lt n) (sym one_more))
          (cases_eq n k)
        where
          one_later : (n m : ℕ) → n ≢ m → nat_lt n m ≡ nat_lt n (m + 1)
          one_later n m ne = ⊎_elim
              (λ (less : n < m). lt-ltb n m less ∙ sym (lt-ltb n (m + 1) (omega arith)))
              (λ (more : m ≤ n). le-ltb n m more ∙ sym (le-ltb n (m + 1) (let h : n ≢ m = ne in omega arith)))
              (cases_lt n m)

  -- a node is closed
  close_steps : (n : ℕ) (b : State) → ClosesNode s.account n b.account → b.bytes ≡ s.bytes → IsLawfulAccount b.account → IsLawfulMachine b
  close_steps n b c bytes lawful = record {
    lawful = lawful;
    wide = ap length c.rows ∙ length-set rows n (closed_row (row rows n)) ∙ l.wide;
    numbered = subst (λ (x : List Row). (n : ℕ) → (shapes x n).made ≡ nat_lt n (made_count x)) (sym c.rows)
        (same_numbered n (closed_row (row rows n)) inside refl);
    few = (let f = l.few in let e = (freed_claims (shapes rows n).parent b.account.claims c.claims).0 in omega arith);
    reservations = subst (All (λ (r : Row). r.shape.reservation ≤ MAX_RESERVATION)) (sym c.rows)
        (All-set (λ (r : Row). r.shape.reservation ≤ MAX_RESERVATION) rows n (closed_row (row rows n)) (its_reservation n inside)
        l.reservations);
    sizes = (freed_claims (shapes rows n).parent b.account.claims c.claims).1;
    budget = (let e = (freed_claims (shapes rows n).parent b.account.claims c.claims).2 in let g = l.budget in omega arith);
  }
    where
      inside : n < length rows
      inside = made_in rows n (l.lawful.tree.made n c.opened)

      freed_claims : (o : Option ℕ) (claims : List Claim) → FreesBacking n o s.account.claims claims →
          (length claims ≡ length s.account.claims) × All (λ c. size_of c.phase ≤ MAX_RESERVATION) claims
          × (sum_by (λ c. size_of c.phase) claims ≡ sum_by (λ c. size_of c.phase) s.account.claims)
      freed_claims None claims f = (
        ap length f,
        subst (All (λ (c : Claim). size_of c.phase ≤ MAX_RESERVATION)) (sym f) l.sizes,
        ap (sum_by (λ (c : Claim). size_of c.phase)) f,
      )
      freed_claims (Some p) claims f =
          let c' = with_child None (get_or s.account.claims f.place no_claim) in (
            ap length f.freed ∙ length-set s.account.claims f.place c',
            subst (All (λ (c : Claim). size_of c.phase ≤ MAX_RESERVATION)) (sym f.freed)
                (All-set (λ (c : Claim). size_of c.phase ≤ MAX_RESERVATION) s.account.claims f.place c' (its_size f.place f.there) l.sizes),
            (let e = ap (sum_by (λ (c : Claim). size_of c.phase)) f.freed in let q = sum_by-set (λ (c : Claim). size_of c.phase)
                s.account.claims f.place c' no_claim f.there in omega arith),
          )

  -- an event that spends nothing leaves the bytes as they were
  same_bytes : (b : State) (event : Event) → b.bytes + spent event ≡ s.bytes → spent event ≡ 0 → b.bytes ≡ s.bytes
  same_bytes b event e z = omega arith

-- the number that was told
opened_number : (k m : AllocId) → Opened k ≡ Opened m → k.0 ≡ m.0
opened_number k m e = let f : k ≡ m = cc in ap (λ (x : AllocId). x.0) f

-- Each step keeps the law of the machine's state
pub each_step : (s t : State) (event : Event) (told : Told) → StepsTo s event told t → IsLawfulMachine s → IsLawfulMachine t
each_step s t event told m l = go event told m.applies m.number m.bytes (each_move s.account t.account event told m.applies l.lawful)
  where
    go : (event : Event) (told : Told) → Applies s.account event told t.account → GivesNumber event told (made_count s.account.rows) →
        t.bytes + spent event ≡ s.bytes → IsLawfulAccount t.account → IsLawfulMachine t
    go (Open i reservation limit) (Opened k) a next bytes lawful =
        open_steps s l i reservation limit k.0 t a (opened_number k (record { 0 = made_count s.account.rows }) next) (omega arith) lawful
    go (Open i reservation limit) told a next bytes lawful = absurd a
    go (Close n) Closed a next bytes lawful = close_steps s l n.0 t a (omega arith) lawful
    go (Close n) (InUse u) a next bytes lawful =
        subst IsLawfulMachine (λ j. record { account = sym a.unchanged j; bytes = (let e : s.bytes ≡ t.bytes = omega arith in e) j }) l
    go (Close n) told a next bytes lawful = absurd a
    go event told a next bytes lawful = claim_steps s l event told t a bytes
