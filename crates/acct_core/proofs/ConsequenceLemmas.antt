-- What follows from the law of the accounts.
use Rattle.std.proofs.Common.{◌≡◌, ℕ, ◌≤◌, ◌<◌, true, false, Bool, List, length, All, sum_by, refl}
use Rattle.std.proofs.lemmas.List.Elements.{All-get_or}
use Rattle.mem_model.specs.WorstCase.{worst_case}
use Rattle.mem_model.specs.Held.{held_of}
use Rattle.acct_core.specs.declared.level_step.LevelStep.{LevelStep}
use Rattle.acct_core.specs.Claims.{Claim, Account, claim, no_claim}
use Rattle.acct_core.specs.Phases.Phase.{Held, Failed}
use Rattle.acct_core.specs.Rows.{row, shapes}
use Rattle.acct_core.specs.NodeTree.{IsOpen}
use Rattle.acct_core.specs.Phases.{pending_subtraction, any_past}
use Rattle.acct_core.specs.Bounds.{sizes_of, own_sizes_of, reservations_of}
use Rattle.acct_core.specs.Lawful.{KeepsLimits, IsLawfulAccount}
use Rattle.acct_core.specs.AtRest.{tree_nodes, charges_at_rest, IsAtRest}
use Rattle.acct_core.proofs.FitsLemmas.{whole_law}
use Rattle.acct_core.proofs.CoverLemmas.{covered}
use Rattle.acct_core.proofs.CloseLemmas.{unused_holds_none}
use Rattle.acct_core.proofs.BoundLemmas.{held-le-worst_case, held-le-worst_case_once}
use Rattle.acct_core.proofs.RestLemmas.{held-is-held_of}

-- held covers what is still to be subtracted
pub subtractions_covered : (a : Account) → IsLawfulAccount a → (n : ℕ) → IsOpen (shapes a.rows) n →
    sum_by (λ c. pending_subtraction n c.phase) a.claims ≤ (row a.rows n).held
subtractions_covered a l = covered a (whole_law a l).held

-- a node without uses holds nothing
pub unused_empty : (a : Account) → IsLawfulAccount a → (n : ℕ) → IsOpen (shapes a.rows) n → (row a.rows n).uses ≡ 0 →
    (row a.rows n).held ≡ 0
unused_empty a l = unused_holds_none a (whole_law a l)

-- held is within the worst case
pub within_worst_case : (a : Account) → IsLawfulAccount a → (n : ℕ) →
    (row a.rows n).held ≤ worst_case (sizes_of a.claims) (reservations_of a.rows)
within_worst_case a l = held-le-worst_case a (whole_law a l).held

-- also where a reservation counts once
pub within_worst_case_once : (a : Account) → IsLawfulAccount a → (n : ℕ) →
    (row a.rows n).held ≤ worst_case (own_sizes_of a.claims) (reservations_of a.rows)
within_worst_case_once a l = held-le-worst_case_once a (whole_law a l).held

-- at rest held is what the list of allocators says
pub rest_is_held_of : (a : Account) → IsLawfulAccount a → All (λ c. IsAtRest c.phase) a.claims → (n : ℕ) → IsOpen (shapes a.rows) n →
    (row a.rows n).held ≡ held_of (tree_nodes 0 a.rows) (charges_at_rest a.claims) n
rest_is_held_of a l = held-is-held_of a (whole_law a l).held

-- what the law says of the limits of one claim
its_limits : (a : Account) → IsLawfulAccount a → (i : ℕ) → i < length a.claims → KeepsLimits (claim a i).phase
its_limits a l i h = All-get_or (λ (c : Claim). KeepsLimits c.phase) a.claims i no_claim h l.limit_steps

-- who failed went past a limit
pub failed_past : (a : Account) → IsLawfulAccount a → (i : ℕ) → i < length a.claims → (size : ℕ) (forced : Bool) (steps : List LevelStep) →
    (claim a i).phase ≡ Failed size forced steps → any_past steps ≡ true
failed_past a l i h size forced steps e = (rw e at (its_limits a l i h)).1

-- who is held and not forced went past none
pub held_within_limits : (a : Account) → IsLawfulAccount a → (i : ℕ) → i < length a.claims → (size : ℕ) (steps : List LevelStep) →
    (claim a i).phase ≡ Held size false steps → any_past steps ≡ false
held_within_limits a l i h size steps e = (rw e at (its_limits a l i h)) refl
