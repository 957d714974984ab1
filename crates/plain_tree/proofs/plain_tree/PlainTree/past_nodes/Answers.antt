use Rattle.plain_tree.specs.Fields.{sampled_tree}
use Rattle.plain_tree.proofs.SoundLemmas.{sound-past_nodes}
use Rattle.plain_tree.proofs.plain_tree.PlainTree.past_nodes.Goals as goal

pub invariant_of-self : goal.invariant_of-self
invariant_of-self c = sound-past_nodes (sampled_tree c.self.inside) c.self.invariant
