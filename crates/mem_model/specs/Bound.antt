-- All that could be held at once.
use Rattle.std.specs.Prelude.{ℕ, ◌+◌, List, sum_by}
use Rattle.mem_model.specs.declared.charge.Charge.{Charge}
use Rattle.mem_model.specs.declared.tree_node.TreeNode.{TreeNode}

-- every charge and every reservation of a tree together
abbrev pub all_of : List TreeNode → List Charge → ℕ
all_of nodes charges = sum_by (λ charge. charge.amount) charges + sum_by (λ node. node.reservation) nodes
