use Rattle.plain_tree.specs.Fields.{sampled_tree}
use Rattle.plain_tree.proofs.SoundLemmas.{sound-spend_number}
use Rattle.plain_tree.proofs.plain_tree.PlainTree.spend_number.Goals as goal

pub invariant_of-self-2 : goal.invariant_of-self-2
invariant_of-self-2 c = sound-spend_number (sampled_tree c.self.inside) c.args.sample c.push.new.self.items c.self.invariant c.requires.sound c.in_ok-push.ensures.items
