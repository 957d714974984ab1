-- When the held numbers of an account balance.
use Rattle.std.specs.Prelude.{◌≡◌, ℕ, ◌+◌, ◌&&◌, if◌then◌else◌, false, sum_by}
use Rattle.mem_model.specs.Reservation.{counted_at_parent}
use Rattle.acct_core.specs.declared.row.Row.{Row}
use Rattle.acct_core.specs.Rows.{row, shapes, is_at}
use Rattle.acct_core.specs.NodeTree.{IsOpen}
use Rattle.acct_core.specs.Phases.{pending_addition, pending_subtraction}
use Rattle.acct_core.specs.Claims.{Account, own_charge}

-- what a row counts for at a node, if it is an open child of that node
abbrev pub child_count : ℕ → Row → ℕ
child_count node child =
    if child.shape.is_open && is_at child.shape.parent node then counted_at_parent child.shape.reservation child.held else 0

-- held at a node, with what is still to be added there, is what the claims at it are charged, with what is still to be subtracted there,
-- and what its open children count for
abbrev pub IsBalancedAt : Account → ℕ → Type 0
IsBalancedAt account node =
    (row account.rows node).held + sum_by (λ claim. pending_addition node claim.phase) account.claims
    ≡ sum_by (own_charge node) account.claims + sum_by (λ claim. pending_subtraction node claim.phase) account.claims
    + sum_by (child_count node) account.rows

-- each open node balances, and a closed one holds nothing
pub record IsBalanced (account : Account) : Type 0 where
  pub opened : (node : ℕ) → IsOpen (shapes account.rows) node → IsBalancedAt account node
  pub closed : (node : ℕ) → (shapes account.rows node).is_open ≡ false → (row account.rows node).held ≡ 0
