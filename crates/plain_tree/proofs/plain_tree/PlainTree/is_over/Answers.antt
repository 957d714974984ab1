use Rattle.std.proofs.Common.{◌∙◌, arith}
use Rattle.plain_tree.specs.Fields.{sampled_tree}
use Rattle.plain_tree.proofs.SoundLemmas.{sound-all_of_at}
use Rattle.plain_tree.proofs.plain_tree.PlainTree.is_over.Goals as goal

pub is_one_past-requires-clause-fits : goal.is_one_past-requires-clause-fits
is_one_past-requires-clause-fits c =
    let all = sound-all_of_at (sampled_tree c.self.inside) c.args.self.now _ _ c.self.invariant c.self.view_is c.deref-2.ensures.value (c.deref-3.ensures.value ∙ c.in_ok-charges.ensures) in
    omega (arith, all)
