-- The law for the claim that stands first.
use Rattle.std.proofs.Common.{zero, suc, ◌≡◌, ℕ, ◌+◌, ◌-◌, ◌<◌, ◌≤◌, Bool, true, false, List, ◌∷◌, set, length, Some, None, arith, refl}
use Rattle.acct_core.specs.declared.row.Row.{Row}
use Rattle.acct_core.specs.Claims.{Claim, claim_at, account}
use Rattle.acct_core.specs.declared.event.Event.{Event}
use Rattle.acct_core.specs.Phases.Phase.{Free, In, Bounced}
use Rattle.acct_core.specs.declared.event.Event.TheVariants.{Enter, Leave, Open, Close}
use Rattle.acct_core.specs.declared.told.Told.TheVariants.{Entered, Bounced as ToldBounced, Left, Opened, Closed}
use Rattle.acct_core.specs.Rows.{row, shapes}
use Rattle.acct_core.specs.NodeTree.{IsOpen}
use Rattle.acct_core.specs.Lawful.{PaysFor, IsLawfulAccount, IsLawfulFixedTree}
use Rattle.acct_core.specs.Effects.{Effect, effect_of, claim_number, level_of}
use Rattle.acct_core.specs.Applies.{AppliesToClaim, opened_row, closed_row}
use Rattle.acct_core.specs.Heads.{with_uses, entered_phase, paying_phase, claim_under}
use Rattle.acct_core.proofs.LawLemmas.{each_move, each_move_fixed, claim_law}
use Rattle.acct_core.proofs.OrderLemmas.{free_more, free_less}

module _ (rows : List Row) (c : Claim) (claims : List Claim) (event : Event) (effect : Effect) (first : claim_number event ≡ 0)
    (is : effect_of event c (row rows (level_of event c)) ≡ Some effect) where
  -- an event of the first claim, as one of the whole account
  pub head_applies : AppliesToClaim (account rows (c ∷ claims)) event effect.told
      (account (set rows (level_of event c) effect.row) (effect.claim ∷ claims))
  head_applies = record {
    row_after = effect.row;
    claim_after = effect.claim;
    there = (let z = first in omega arith);
    effect = rw first is;
    rows = rw first refl;
    claims = rw first refl;
  }

  -- it keeps the law
  pub head_lawful : IsLawfulAccount (account rows (c ∷ claims)) →
      IsLawfulAccount (account (set rows (level_of event c) effect.row) (effect.claim ∷ claims))
  head_lawful = claim_law (account rows (c ∷ claims)) (account (set rows (level_of event c) effect.row) (effect.claim ∷ claims)) event
      effect.told head_applies

  -- and that of a fixed tree
  pub head_fixed : IsLawfulFixedTree (account rows (c ∷ claims)) →
      IsLawfulFixedTree (account (set rows (level_of event c) effect.row) (effect.claim ∷ claims))
  head_fixed = each_move_fixed (account rows (c ∷ claims)) (account (set rows (level_of event c) effect.row) (effect.claim ∷ claims)) event
      effect.told head_applies

-- a use more of a node that was made, and a claim more
pub enter_head : (rows : List Row) (claims : List Claim) (k : ℕ) → IsLawfulAccount (account rows claims) → (row rows k).shape.made ≡ true →
    IsLawfulAccount (account (set rows k (with_uses (row rows k) ((row rows k).uses + 1)))
    (claim_at k (entered_phase (row rows k).shape.is_open) ∷ claims))
enter_head rows claims k l made = by (row rows k).shape.is_open refl
  where
    by : (b : Bool) → (row rows k).shape.is_open ≡ b →
        IsLawfulAccount (account (set rows k (with_uses (row rows k) ((row rows k).uses + 1)))
        (claim_at k (entered_phase (row rows k).shape.is_open) ∷ claims))
    by true o = rw o (head_lawful rows (claim_at k Free) claims (Enter 0 (record { 0 = k }))
        (record { told = Entered; row = with_uses (row rows k) ((row rows k).uses + 1); claim = claim_at k In }) refl (rw (made, o) refl)
        (free_more rows k claims l))
    by false o = rw o (head_lawful rows (claim_at k Free) claims (Enter 0 (record { 0 = k }))
        (record { told = ToldBounced (row rows k).uses; row = with_uses (row rows k) ((row rows k).uses + 1); claim = claim_at k Bounced })
        refl (rw (made, o) refl) (free_more rows k claims l))

-- a use less, and a claim less
pub leave_head : (rows : List Row) (claims : List Claim) (k : ℕ) (b : Bool) →
    IsLawfulAccount (account rows (claim_at k (entered_phase b) ∷ claims)) →
    IsLawfulAccount (account (set rows k (with_uses (row rows k) ((row rows k).uses - 1))) claims)
leave_head rows claims k true l = free_less (set rows k (with_uses (row rows k) ((row rows k).uses - 1))) k claims
    (head_lawful rows (claim_at k In) claims (Leave 0)
    (record { told = Left; row = with_uses (row rows k) ((row rows k).uses - 1); claim = claim_at k Free }) refl refl l)
leave_head rows claims k false l = free_less (set rows k (with_uses (row rows k) ((row rows k).uses - 1))) k claims
    (head_lawful rows (claim_at k Bounced) claims (Leave 0)
    (record { told = Left; row = with_uses (row rows k) ((row rows k).uses - 1); claim = claim_at k Free }) refl refl l)

-- a claim that is to pay for a reservation does
pays_for : (reservation : ℕ) → PaysFor reservation (paying_phase reservation)
pays_for zero = refl
pays_for (suc less) = refl

-- a child is made on the first claim, which pays for its reservation
pub open_head : (rows : List Row) (claims : List Claim) (k p r limit : ℕ) →
    IsLawfulAccount (account rows (claim_under p None r ∷ claims)) → IsOpen (shapes rows) p → r ≤ limit →
    k < length rows → (row rows k).shape.made ≡ false → p < k →
    IsLawfulAccount (account (set rows k (opened_row p r limit)) (claim_under p (Some k) r ∷ claims))
open_head rows claims k p r limit l opened within room fresh greater =
    each_move (account rows (claim_under p None r ∷ claims))
    (account (set rows k (opened_row p r limit)) (claim_under p (Some k) r ∷ claims)) (Open 0 r limit) (Opened (record { 0 = k }))
    (record {
      there = omega arith;
      within = within;
      bare = refl;
      pays = pays_for r;
      opened = opened;
      room = room;
      fresh = fresh;
      greater = greater;
      rows = refl;
      claims = refl;
    }) l

-- a child without uses, which stands on the first claim, is closed
pub close_head : (rows : List Row) (claims : List Claim) (k p r : ℕ) → IsLawfulAccount (account rows (claim_under p (Some k) r ∷ claims)) →
    IsOpen (shapes rows) k → (row rows k).uses ≡ 0 →
    (row rows k).shape.parent ≡ Some p → IsLawfulAccount (account (set rows k (closed_row (row rows k))) (claim_under p None r ∷ claims))
close_head rows claims k p r l opened unused parent =
    each_move (account rows (claim_under p (Some k) r ∷ claims))
    (account (set rows k (closed_row (row rows k))) (claim_under p None r ∷ claims)) (Close (record { 0 = k })) Closed
    (record {
      opened = opened;
      unused = unused;
      rows = refl;
      claims = rw parent (record { place = 0; there = omega arith; carried = refl; freed = refl });
    }) l

-- a node without a parent, which has no uses, is closed, and no claim changes
pub close_root : (rows : List Row) (claims : List Claim) (k : ℕ) → IsLawfulAccount (account rows claims) → IsOpen (shapes rows) k →
    (row rows k).uses ≡ 0 → (row rows k).shape.parent ≡ None → IsLawfulAccount (account (set rows k (closed_row (row rows k))) claims)
close_root rows claims k l opened unused root =
    each_move (account rows claims) (account (set rows k (closed_row (row rows k))) claims) (Close (record { 0 = k })) Closed
    (record { opened = opened; unused = unused; rows = refl; claims = rw root refl }) l
