use Rattle.std.proofs.Common.{◌≡◌, false, take}
use Rattle.std.specs.List.{list_any}
use Rattle.mem_model.specs.Request.{is_past_limit}
use Rattle.plain_tree.proofs.plain_tree.headroom.is_one_past.Given as goal

abbrev pub invariant-loop-node : goal.invariant-loop-node
invariant-loop-node l = list_any (is_past_limit l.nodes l.charges) (take l.node-index l.path) ≡ false
