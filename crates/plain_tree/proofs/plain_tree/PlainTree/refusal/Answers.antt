use Rattle.std.proofs.Common.{◌∙◌}
use Rattle.plain_tree.specs.Fields.{sampled_tree}
use Rattle.plain_tree.proofs.SoundLemmas.{sound-fits_at}
use Rattle.plain_tree.proofs.plain_tree.PlainTree.refusal.Goals as goal

pub refusal_of-requires-clause-fits : goal.refusal_of-requires-clause-fits
refusal_of-requires-clause-fits c =
    sound-fits_at (sampled_tree c.self.inside) c.args.self.now _ _ c.args.request c.self.invariant c.self.view_is c.requires.small c.deref.ensures.value (c.deref-2.ensures.value ∙ c.in_ok-charges.ensures)
