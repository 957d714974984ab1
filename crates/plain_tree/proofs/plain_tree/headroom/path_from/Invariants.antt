use Rattle.std.proofs.Common.{◌≡◌, ◌++◌, drop}
use Rattle.mem_model.specs.Headroom.{path_from}
use Rattle.plain_tree.proofs.plain_tree.headroom.path_from.Given as goal

abbrev pub invariant-loop-node : goal.invariant-loop-node
invariant-loop-node l = path_from l.newest l.fn.at ≡ l.path.items ++ path_from (drop l.node-index l.newest) l.next
