-- The law with all that it says of one claim in one place.
use Rattle.std.proofs.Common.{◌≡◌, ℕ, ◌≤◌, true, false, get_or, List, Option, Some, None, All, sum_by, arith, ◌<◌, length}
use Rattle.std.proofs.lemmas.List.Elements.{All-get_or, All-from_get_or}
use Rattle.acct_core.specs.declared.shape.Shape.{Shape}
use Rattle.acct_core.specs.Claims.{Claim, Account, no_claim, use_count, backing_count, claim}
use Rattle.acct_core.specs.Phases.{Phase, any_past}
use Rattle.acct_core.specs.Phases.Phase.{Free, In, Up, Held, Failed, Down, Bounced}
use Rattle.acct_core.specs.Rows.{row, shapes}
use Rattle.acct_core.specs.NodeTree.{IsOpen, Reaches, IsNodeTree}
use Rattle.acct_core.specs.Balance.{IsBalancedAt}
use Rattle.acct_core.specs.Lawful.{IsInTime, HasNextLevel, KeepsLimits, Backs, backing_needed, IsBalancedAccount, IsLawfulAccount, IsFixedTree}

-- a child that stands on a claim at node is an open child of it, which reserves just this size
abbrev pub Carries : (ℕ → Shape) → ℕ → Option ℕ → ℕ → Type 0
Carries shape node None size = Unit {0}
Carries shape node (Some k) size = IsOpen shape k × ((shape k).parent ≡ Some node) × ((shape k).reservation ≡ size)

-- all that the law says of one claim
abbrev pub ClaimFits : (ℕ → Shape) → ℕ → Option ℕ → Phase → Type 0
ClaimFits shape node under Free = under ≡ None
ClaimFits shape node under In = IsOpen shape node × Carries shape node under 0
ClaimFits shape node under (Up size next pending forced steps) = IsOpen shape node × (under ≡ None) × Reaches shape node next
    × (1 ≤ pending) × (pending ≤ size)
ClaimFits shape node under (Held size forced steps) = IsOpen shape node × Carries shape node under size
    × (forced ≡ false → any_past steps ≡ false) × (1 ≤ size)
ClaimFits shape node under (Failed size forced steps) = IsOpen shape node × (under ≡ None) × (forced ≡ false) × (any_past steps ≡ true)
    × (1 ≤ size)
ClaimFits shape node under (Down size next pending) = IsOpen shape node × (under ≡ None) × Reaches shape node next × (1 ≤ pending)
    × (pending ≤ size)
ClaimFits shape node under Bounced = ((shape node).is_open ≡ false) × ((shape node).made ≡ true) × (under ≡ None)

-- the law of the held numbers, and what it says of each claim
pub record HeldLaw (a : Account) : Type 0 where
  pub tree : IsNodeTree (shapes a.rows)
  pub balance : (n : ℕ) → IsOpen (shapes a.rows) n → IsBalancedAt a n
  pub empty : (n : ℕ) → (shapes a.rows n).is_open ≡ false → (row a.rows n).held ≡ 0
  pub claims : All (λ c. ClaimFits (shapes a.rows) c.node c.under c.phase) a.claims

-- the uses of each node are the claims at it that aren't free
abbrev pub UsesLaw : Account → Type 0
UsesLaw a = (n : ℕ) → (row a.rows n).uses ≡ sum_by (use_count n) a.claims

-- each open node but the root stands on one claim
abbrev pub BackingLaw : Account → Type 0
BackingLaw a = (n : ℕ) → sum_by (backing_count n) a.claims ≡ backing_needed (shapes a.rows n)

-- the three together
pub record WholeLaw (a : Account) : Type 0 where
  pub held : HeldLaw a
  pub uses : UsesLaw a
  pub backing : BackingLaw a

module _ (shape : ℕ → Shape) (node : ℕ) (under : Option ℕ) (phase : Phase) where
  -- the parts of the law make what it says of a claim
  pub claim_fits : IsInTime shape node phase → HasNextLevel shape node phase → Backs shape node under phase → KeepsLimits phase →
      ClaimFits shape node under phase
  claim_fits t n b k = grind arith

  -- and what it says of a claim makes the parts
  pub in_time : ClaimFits shape node under phase → IsInTime shape node phase
  in_time f = grind arith

  -- its next level
  pub has_next_level : ClaimFits shape node under phase → HasNextLevel shape node phase
  has_next_level f = grind arith

  -- its limits
  pub keeps_limits : ClaimFits shape node under phase → KeepsLimits phase
  keeps_limits f = grind arith

  -- what stands on it
  pub backs : ClaimFits shape node under phase → Backs shape node under phase
  backs f = grind arith

  -- a claim on which nothing stands backs nothing
  pub backs_none : under ≡ None → Backs shape node under phase
  backs_none e = grind arith

-- what holds of each claim by what holds of each claim
pub each_claim : (P Q : Claim → Type 0) (claims : List Claim) → ((c : Claim) → P c → Q c) → All P claims → All Q claims
each_claim P Q claims h all = All-from_get_or Q claims no_claim
    (λ i there. h (get_or claims i no_claim) (All-get_or P claims i no_claim there all))

module _ (a : Account) where
  -- what each number is
  abbrev s : ℕ → Shape
  s = shapes a.rows

  -- what the law says of a claim
  abbrev fits : Claim → Type 0
  fits c = ClaimFits s c.node c.under c.phase

  -- the parts of the law say it of each claim
  all_fit : All (λ c. IsInTime s c.node c.phase) a.claims → All (λ c. HasNextLevel s c.node c.phase) a.claims →
      All (λ c. Backs s c.node c.under c.phase) a.claims → All (λ c. KeepsLimits c.phase) a.claims →
      All (λ c. ClaimFits s c.node c.under c.phase) a.claims
  all_fit t n b k = All-from_get_or fits a.claims no_claim (λ i h.
      (let c = get_or a.claims i no_claim in
      claim_fits s c.node c.under c.phase
      (All-get_or (λ (c : Claim). IsInTime s c.node c.phase) a.claims i no_claim h t)
      (All-get_or (λ (c : Claim). HasNextLevel s c.node c.phase) a.claims i no_claim h n)
      (All-get_or (λ (c : Claim). Backs s c.node c.under c.phase) a.claims i no_claim h b)
      (All-get_or (λ (c : Claim). KeepsLimits c.phase) a.claims i no_claim h k)))

  -- what the law says of the claim at a place
  pub its_fits : HeldLaw a → (i : ℕ) → i < length a.claims → fits (claim a i)
  its_fits l i there = All-get_or fits a.claims i no_claim there l.claims

  -- the law as it is used in proofs
  pub whole_law : IsLawfulAccount a → WholeLaw a
  whole_law l = record {
    held = record {
      tree = l.tree;
      balance = l.balance.opened;
      empty = l.balance.closed;
      claims = all_fit l.late_entries l.next_levels l.backing.paid l.limit_steps;
    };
    uses = l.use_counts;
    backing = l.backing.one_claim;
  }

  -- and back
  pub lawful_account : WholeLaw a → IsLawfulAccount a
  lawful_account l = record {
    tree = l.held.tree;
    balance = record { opened = l.held.balance; closed = l.held.empty };
    use_counts = l.uses;
    late_entries = each_claim fits (λ (c : Claim). IsInTime s c.node c.phase) a.claims (λ c. in_time s c.node c.under c.phase)
        l.held.claims;
    next_levels = each_claim fits (λ (c : Claim). HasNextLevel s c.node c.phase) a.claims (λ c. has_next_level s c.node c.under c.phase)
        l.held.claims;
    backing = record {
      one_claim = l.backing;
      paid = each_claim fits (λ (c : Claim). Backs s c.node c.under c.phase) a.claims
          (λ c. backs s c.node c.under c.phase) l.held.claims;
    };
    limit_steps = each_claim fits (λ (c : Claim). KeepsLimits c.phase) a.claims (λ c. keeps_limits s c.node c.under c.phase) l.held.claims;
  }

  -- the part that speaks of held numbers alone
  pub balanced_account : HeldLaw a → IsBalancedAccount a
  balanced_account l = record {
    tree = l.tree;
    balance = record { opened = l.balance; closed = l.empty };
    next_levels = each_claim fits (λ (c : Claim). HasNextLevel s c.node c.phase) a.claims (λ c. has_next_level s c.node c.under c.phase)
        l.claims;
    limit_steps = each_claim fits (λ (c : Claim). KeepsLimits c.phase) a.claims (λ c. keeps_limits s c.node c.under c.phase) l.claims;
  }

  -- in a fixed tree the law of the held numbers is the part that speaks of them alone
  pub fixed_law : IsFixedTree a → IsBalancedAccount a → HeldLaw a
  fixed_law f l = record {
    tree = l.tree;
    balance = l.balance.opened;
    empty = l.balance.closed;
    claims = all_fit f.in_time l.next_levels
        (each_claim (λ (c : Claim). c.under ≡ None) (λ (c : Claim). Backs s c.node c.under c.phase) a.claims
        (λ c. backs_none s c.node c.under c.phase) f.bare) l.limit_steps;
  }
