use Rattle.plain_tree.specs.Fields.{sampled_tree}
use Rattle.plain_tree.proofs.SoundLemmas.{sound-push_child}
use Rattle.plain_tree.proofs.plain_tree.PlainTree.push_child.Goals as goal

pub invariant_of-self-2 : goal.invariant_of-self-2
invariant_of-self-2 c =
    let child = rw (← c.self.view_is) at c.requires.child in
    sound-push_child (sampled_tree c.self.inside) c.args.parent c.args.reservation c.args.limit c.args.sample _ c.push.new.self.items c.self.invariant child c.requires.sound (rw c.deref.ensures.value at c.in_ok-nodes.ensures) c.in_ok-push.ensures.items
