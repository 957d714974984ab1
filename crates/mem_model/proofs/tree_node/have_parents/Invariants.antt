use Rattle.std.proofs.Common.{All, take}
use Rattle.std.specs.List.{Any}
use Rattle.std.specs.Option.{ForSome}
use Rattle.mem_model.specs.TreeNode.{IsParentOf}
use Rattle.mem_model.proofs.tree_node.have_parents.Given as goal

abbrev pub invariant-loop-node : goal.invariant-loop-node
invariant-loop-node l = All (λ node. ForSome node.parent (λ _. Any (IsParentOf node) l.nodes)) (take l.node-index l.nodes)
