-- A request: a charge on trial.
use Rattle.std.specs.Prelude.{◌-◌, ◌==◌, Bool, not, nat_lt, List, ◌∷◌, filter, length, slice_get, Option}
use Rattle.mem_num.specs.declared.full.Full.{Full}
use Rattle.mem_model.specs.declared.charge.Charge.{Charge}
use Rattle.mem_model.specs.declared.tree_node.TreeNode.{TreeNode}
use Rattle.mem_model.specs.Held.{held_of}

-- whether the request changes what a node holds
abbrev pub is_level : List TreeNode → List Charge → Charge → TreeNode → Bool
is_level nodes charges request node = not (held_of nodes (request ∷ charges) node.number.0 == held_of nodes charges node.number.0)

-- the levels of a request: where it begins, and each ancestor that it reaches past the reservations below; a parent stands before its child
abbrev pub levels_of : List TreeNode → List Charge → Charge → List TreeNode
levels_of nodes charges request = filter (is_level nodes charges request) nodes

-- whether a node holds more than its limit
abbrev pub is_past_limit : List TreeNode → List Charge → TreeNode → Bool
is_past_limit nodes charges node = nat_lt node.limit (held_of nodes charges node.number.0)

-- the lowest of some levels, where a parent stands before its child
abbrev pub lowest : List TreeNode → Option TreeNode
lowest levels = slice_get levels (length levels - 1)

-- the lowest level that the request takes past its limit, if there is one: then it is refused there
abbrev pub refusing_level : List TreeNode → List Charge → Charge → Option TreeNode
refusing_level nodes charges request = lowest (filter (is_past_limit nodes (request ∷ charges)) (levels_of nodes charges request))

-- the numbers that a refusal at a level tells
abbrev pub refusal_of : List TreeNode → List Charge → Charge → TreeNode → Full
refusal_of nodes charges request level = record {
  node = level.number;
  held = held_of nodes charges level.number.0;
  amount = held_of nodes (request ∷ charges) level.number.0 - held_of nodes charges level.number.0;
  limit = level.limit;
  local = level.number.0 == request.at.0;
}
