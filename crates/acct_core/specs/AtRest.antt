-- An account at rest, as the list of its allocators and of what they are charged.
use Rattle.std.specs.Prelude.{ℕ, suc, not, if◌then◌else◌, List, [], ◌∷◌, map, is_none}
use Rattle.std.specs.Option.{option_map}
use Rattle.mem_model.specs.declared.tree_node.TreeNode.{TreeNode}
use Rattle.mem_model.specs.declared.charge.Charge.{Charge}
use Rattle.acct_core.specs.declared.row.Row.{Row}
use Rattle.acct_core.specs.Phases.{Phase, charged}
use Rattle.acct_core.specs.Phases.Phase.{Up, Down}
use Rattle.acct_core.specs.Claims.{Claim}

-- the allocator of a number, whose row this is
abbrev pub tree_node : ℕ → Row → TreeNode
tree_node number row = record {
  number = record { 0 = number };
  parent = option_map (λ parent. record { 0 = parent }) row.shape.parent;
  reservation = row.shape.reservation;
  limit = row.limit;
  closed = not row.shape.is_open;
}

-- the allocators that were made, in order of number, where the number is that of the first row
abbrev pub tree_nodes : ℕ → List Row → List TreeNode
tree_nodes number [] = []
tree_nodes number (row ∷ rows) =
    if row.shape.made then tree_node number row ∷ tree_nodes (suc number) rows else tree_nodes (suc number) rows

-- what a claim charges its node; where a child stands on it, the child counts in its place
abbrev pub charge_at_rest : Claim → Charge
charge_at_rest claim = record { at = record { 0 = claim.node }; amount = if is_none claim.under then charged claim.phase else 0 }

-- what all claims charge
abbrev pub charges_at_rest : List Claim → List Charge
charges_at_rest claims = map charge_at_rest claims

-- no request and no release is under way
abbrev pub IsAtRest : Phase → Type 0
IsAtRest (Up size next pending forced steps) = ⊥
IsAtRest (Down size next pending) = ⊥
IsAtRest _ = Unit {0}
