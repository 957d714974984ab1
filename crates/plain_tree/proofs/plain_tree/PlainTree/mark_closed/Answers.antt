use Rattle.plain_tree.specs.Fields.{sampled_tree}
use Rattle.plain_tree.proofs.SoundLemmas.{sound-close}
use Rattle.plain_tree.proofs.plain_tree.PlainTree.mark_closed.Goals as goal

pub invariant_of-self : goal.invariant_of-self
invariant_of-self c =
    let unused = rw (← c.self.view_is) at c.requires.unused in
    sound-close (sampled_tree c.self.inside) c.args.at.0 _ c.self.invariant unused (rw c.deref.ensures.value at c.in_ok-nodes.ensures)
