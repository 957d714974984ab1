use Rattle.plain_tree.specs.Fields.{sampled_tree}
use Rattle.plain_tree.proofs.SoundLemmas.{sound-spend_chunk}
use Rattle.plain_tree.proofs.plain_tree.PlainTree.spend_chunk.Goals as goal

pub invariant_of-self-2 : goal.invariant_of-self-2
invariant_of-self-2 c =
    let room = rw (← c.self.view_is) at c.requires.numbers in
    sound-spend_chunk (sampled_tree c.self.inside) c.args.sample c.push.new.self.items c.self.invariant room c.requires.sound c.in_ok-push.ensures.items
