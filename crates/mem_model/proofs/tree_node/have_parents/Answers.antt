use Rattle.std.proofs.Common.{All, refl, subst}
use Rattle.std.specs.List.{Any}
use Rattle.std.specs.Option.{ForSome}
use Rattle.std.proofs.lemmas.List.{take_all}
use Rattle.std.proofs.lemmas.List.Elements.{All-more, All-get_or}
use Rattle.mem_model.specs.declared.tree_node.TreeNode.{TreeNode}
use Rattle.mem_model.specs.TreeNode.{IsParentOf}
use Rattle.mem_model.proofs.tree_node.have_parents.Goals as goal
use Rattle.std.proofs.Common.{List}

HasParentIn : List TreeNode → TreeNode → Type 0
HasParentIn nodes node = ForSome node.parent (λ _. Any (IsParentOf node) nodes)

pub returns-then-not-has_parent_in : goal.returns-then-not-has_parent_in
unfolding HasParentIn
returns-then-not-has_parent_in c =
    let refused = rw c.if-not-has_parent_in.true at c.has_parent_in.ensures in
    (λ h. absurd (cc), λ all'. refused.1 (All-get_or (HasParentIn c.args.nodes.now) c.args.nodes.now c.loop-node.node-index _ c.loop-node-test.true all'))

pub loop-node-preserved : goal.loop-node-preserved
unfolding HasParentIn
loop-node-preserved c =
    let passed = rw c.if-not-has_parent_in.false at c.has_parent_in.ensures in
    All-more (HasParentIn c.args.nodes.now) c.args.nodes.now c.loop-node.node-index _ c.loop-node-test.true c.loop-node.invariant (passed.0 refl)

pub returns : goal.returns
unfolding HasParentIn
returns c =
    let whole = take_all c.loop-node.node-index c.args.nodes.now c.loop-node-test.false in
    (λ _. subst (All (HasParentIn c.args.nodes.now)) whole c.loop-node.invariant, λ _. refl)
