use Rattle.std.proofs.Common.{◌∙◌}
use Rattle.plain_tree.specs.Fields.{sampled_tree}
use Rattle.mem_model.proofs.PathLemmas.{path_bounds}
use Rattle.plain_tree.proofs.SoundLemmas.{sound-all_of_at}
use Rattle.plain_tree.proofs.plain_tree.PlainTree.headroom_of.Goals as goal

pub headroom_on-requires-clause-fits : goal.headroom_on-requires-clause-fits
headroom_on-requires-clause-fits c =
    sound-all_of_at (sampled_tree c.self.inside) c.args.self.now _ _ c.self.invariant c.self.view_is c.deref-2.ensures.value (c.deref-3.ensures.value ∙ c.in_ok-charges.ensures)

pub headroom_on-requires-clause-bounds : goal.headroom_on-requires-clause-bounds
headroom_on-requires-clause-bounds c =
    rw (c.deref-4.ensures.value, c.in_ok-path.ensures, c.deref.ensures.value) (path_bounds (sampled_tree c.self.inside).state c.args.at.0 c.self.invariant.lawful)
