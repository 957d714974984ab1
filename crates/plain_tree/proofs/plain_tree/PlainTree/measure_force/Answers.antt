use Rattle.std.proofs.Common.{◌∙◌}
use Rattle.plain_tree.specs.Fields.{sampled_tree}
use Rattle.plain_tree.proofs.SoundLemmas.{sound-fits_at, sound-measure}
use Rattle.plain_tree.proofs.plain_tree.PlainTree.measure_force.Goals as goal

pub force_sample-requires-clause-fits : goal.force_sample-requires-clause-fits
force_sample-requires-clause-fits c =
    sound-fits_at (sampled_tree c.self.inside) c.args.self.now _ _ c.args.force c.self.invariant c.self.view_is c.requires.small c.deref.ensures.value (c.deref-2.ensures.value ∙ c.in_ok-charges.ensures)

pub invariant_of-self-2 : goal.invariant_of-self-2
invariant_of-self-2 c =
    sound-measure (sampled_tree c.self.inside) c.in_ok-sample.sample c.push.new.self.items c.self.invariant c.in_ok-sample.ensures.sound c.in_ok-push.ensures.items
