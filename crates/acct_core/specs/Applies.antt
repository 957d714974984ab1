-- What an event does to an account, old to new.
use Rattle.std.specs.Prelude.{◌≡◌, ℕ, ◌<◌, ◌≤◌, true, false, List, length, slice_index_or, slice_set, Option, Some, None}
use Rattle.acct_core.specs.declared.row.Row.{Row}
use Rattle.acct_core.specs.declared.event.Event.{Event}
use Rattle.acct_core.specs.declared.event.Event.TheVariants.{Open, Close}
use Rattle.acct_core.specs.declared.told.Told.{Told}
use Rattle.acct_core.specs.declared.told.Told.TheVariants.{Opened, Closed, InUse}
use Rattle.acct_core.specs.Rows.{row, shapes}
use Rattle.acct_core.specs.NodeTree.{IsOpen}
use Rattle.acct_core.specs.Claims.{Claim, Account, claim, no_claim}
use Rattle.acct_core.specs.Lawful.{PaysFor}
use Rattle.acct_core.specs.Effects.{effect_of, claim_number, level_of}

-- an event of a claim sets that claim and one row, as the event table says
pub record AppliesToClaim (old : Account) (event : Event) (told : Told) (new : Account) : Type 0 where
  pub row_after : Row
  pub claim_after : Claim
  pub there : claim_number event < length old.claims
  pub effect : effect_of event (claim old (claim_number event)) (row old.rows (level_of event (claim old (claim_number event))))
      ≡ Some (record { told = told; row = row_after; claim = claim_after })
  pub rows : new.rows ≡ slice_set old.rows (level_of event (claim old (claim_number event))) row_after
  pub claims : new.claims ≡ slice_set old.claims (claim_number event) claim_after

-- the row of a child that was just made
abbrev pub opened_row : ℕ → ℕ → ℕ → Row
opened_row parent reservation limit = record {
  shape = record { made = true; is_open = true; parent = Some parent; reservation = reservation };
  limit = limit;
  held = 0;
  uses = 0;
}

-- a claim on which a child stands from now on, or none
abbrev pub with_child : Option ℕ → Claim → Claim
with_child under claim = record claim { under = under }

-- a child of a number never given before is made on the claim at this place, which pays for its reservation
pub record OpensChild (old : Account) (place reservation limit number : ℕ) (new : Account) : Type 0 where
  pub there : place < length old.claims
  pub within : reservation ≤ limit
  pub bare : (claim old place).under ≡ None
  pub pays : PaysFor reservation (claim old place).phase
  pub opened : IsOpen (shapes old.rows) (claim old place).node
  pub room : number < length old.rows
  pub fresh : (shapes old.rows number).made ≡ false
  pub greater : (claim old place).node < number
  pub rows : new.rows ≡ slice_set old.rows number (opened_row (claim old place).node reservation limit)
  pub claims : new.claims ≡ slice_set old.claims place (with_child (Some number) (claim old place))

-- one claim, on which the node stood, carries nothing any more
pub record FreesClaim (node : ℕ) (old new : List Claim) : Type 0 where
  pub place : ℕ
  pub there : place < length old
  pub carried : (slice_index_or old place no_claim).under ≡ Some node
  pub freed : new ≡ slice_set old place (with_child None (slice_index_or old place no_claim))

-- the claim on which a node stood, if it has a parent and so stood on one, carries nothing any more
abbrev pub FreesBacking : ℕ → Option ℕ → List Claim → List Claim → Type 0
FreesBacking node None old new = new ≡ old
FreesBacking node (Some parent) old new = FreesClaim node old new

-- a row whose node is closed
abbrev pub closed_row : Row → Row
closed_row row = record row { shape = record (row.shape) { is_open = false } }

-- an open node, which has no uses, is closed
pub record ClosesNode (old : Account) (node : ℕ) (new : Account) : Type 0 where
  pub opened : IsOpen (shapes old.rows) node
  pub unused : (row old.rows node).uses ≡ 0
  pub rows : new.rows ≡ slice_set old.rows node (closed_row (row old.rows node))
  pub claims : FreesBacking node (shapes old.rows node).parent old.claims new.claims

-- an open node has this many uses, and nothing changes
pub record FindsInUse (old : Account) (node uses : ℕ) (new : Account) : Type 0 where
  pub opened : IsOpen (shapes old.rows) node
  pub found : (row old.rows node).uses ≡ uses
  pub some : 1 ≤ uses
  pub unchanged : new ≡ old

-- the event takes the old account to the new one, and tells this
abbrev pub Applies : Account → Event → Told → Account → Type 0
Applies old (Open place reservation limit) (Opened number) new = OpensChild old place reservation limit number.0 new
Applies old (Open place reservation limit) told new = ⊥
Applies old (Close node) Closed new = ClosesNode old node.0 new
Applies old (Close node) (InUse uses) new = FindsInUse old node.0 uses new
Applies old (Close node) told new = ⊥
Applies old event told new = AppliesToClaim old event told new
