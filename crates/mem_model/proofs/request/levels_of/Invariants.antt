use Rattle.std.proofs.Common.{◌≡◌, filter, take}
use Rattle.mem_model.specs.Request.{is_level}
use Rattle.mem_model.proofs.request.levels_of.Given as goal

abbrev pub invariant-loop-node : goal.invariant-loop-node
invariant-loop-node l = l.levels.items ≡ filter (is_level l.nodes l.charges l.fn.request) (take l.node-index l.nodes)
