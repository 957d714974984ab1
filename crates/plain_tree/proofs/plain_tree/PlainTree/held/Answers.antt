use Rattle.std.proofs.Common.{◌∙◌, arith}
use Rattle.plain_tree.specs.Fields.{sampled_tree}
use Rattle.plain_tree.proofs.SoundLemmas.{sound-all_of_at}
use Rattle.plain_tree.proofs.plain_tree.PlainTree.held.Goals as goal

pub held_of-requires-clause-fits : goal.held_of-requires-clause-fits
held_of-requires-clause-fits c =
    let all = sound-all_of_at (sampled_tree c.self.inside) c.args.self.now _ _ c.self.invariant c.self.view_is c.deref.ensures.value (c.deref-2.ensures.value ∙ c.in_ok-charges.ensures) in
    omega (arith, all)
