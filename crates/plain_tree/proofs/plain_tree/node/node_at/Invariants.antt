use Rattle.std.proofs.Common.{◌≡◌, ◌==◌, drop, find}
use Rattle.plain_tree.proofs.plain_tree.node.node_at.Given as goal

abbrev pub invariant-loop-node : goal.invariant-loop-node
invariant-loop-node l = find (λ node. node.number.0 == l.at.0) (drop l.node-index l.nodes) ≡ find (λ node. node.number.0 == l.at.0) l.nodes
