use Rattle.plain_tree.specs.Fields.{sampled_tree}
use Rattle.plain_tree.proofs.SoundLemmas.{sound-chunks}
use Rattle.plain_tree.proofs.plain_tree.PlainTree.put_chunks.Goals as goal

pub invariant_of-self : goal.invariant_of-self
invariant_of-self c =
    let lawful = rw (← c.self.view_is) at c.requires.lawful in
    sound-chunks (sampled_tree c.self.inside) c.args.chunks.items c.self.invariant lawful c.requires.references
