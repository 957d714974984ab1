-- A forced charge: it is made whatever the limits are.
use Rattle.std.specs.Prelude.{Bool, List, ◌∷◌, not, map, is_some}
use Rattle.mem_model.specs.declared.charge.Charge.{Charge}
use Rattle.mem_model.specs.declared.tree_node.TreeNode.{TreeNode}
use Rattle.mem_model.specs.Request.{levels_of, refusing_level}
use Rattle.mem_model.specs.PeakSample.{PeakSample}
use Rattle.mem_model.specs.TreeState.{TreeState, charges_in}

-- the moment of a forced charge, before the charge that it takes the place of goes: it counts for all its levels
abbrev pub force_sample_of : List TreeNode → List Charge → Charge → PeakSample
force_sample_of nodes charges force = record { nodes = nodes; charges = force ∷ charges; counts = map (λ level. level.number) (levels_of nodes charges force) }

abbrev pub force_sample : TreeState → Charge → PeakSample
force_sample state force = force_sample_of state.nodes (charges_in state) force

-- whether no level is past its limit with it
abbrev pub is_within_limits : TreeState → Charge → Bool
is_within_limits state force = not (is_some (refusing_level state.nodes (charges_in state) force))
