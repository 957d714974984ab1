-- What an allocator holds.
use Rattle.std.specs.Prelude.{ℕ, ◌+◌, List, [], ◌∷◌, sum_by, if◌then◌else◌}
use Rattle.mem_model.specs.declared.charge.Charge.{Charge}
use Rattle.mem_model.specs.declared.tree_node.TreeNode.{TreeNode}
use Rattle.mem_model.specs.Charge.{charged_at}
use Rattle.mem_model.specs.Reservation.{counted_at_parent}
use Rattle.mem_model.specs.TreeNode.{is_open_child}

-- what the open children of n count for at it, where `held` tells what each holds
abbrev pub counted_children : (ℕ → ℕ) → List TreeNode → ℕ → ℕ
counted_children held nodes n = sum_by (λ node. if is_open_child n node then counted_at_parent node.reservation (held node.number.0) else 0) nodes

-- what it is charged, and what each open child counts for at it; children stand after their parent, so this goes down the list
abbrev pub held_of : List TreeNode → List Charge → ℕ → ℕ
held_of [] charges n = charged_at charges n
held_of (node ∷ nodes) charges n =
    (if is_open_child n node then counted_at_parent node.reservation (held_of nodes charges node.number.0) else 0) + held_of nodes charges n
