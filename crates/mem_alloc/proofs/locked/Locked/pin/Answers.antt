use Rattle.std.proofs.Common.{sym, ◌∙◌}
use Rattle.mem_alloc.proofs.OpenLemmas.{few-open}
use Rattle.mem_alloc.proofs.locked.Locked.pin.Goals as goal

pub add-requires : goal.add-requires
add-requires g c = record {
  number = few-open c.args.self.now.tree.state c.args.at.0 c.every_tree_is_lawful.ensures (sym c.is_open.ensures.value ∙ c.if-is_open.true);
}

pub returns-then-is_open-clause-number : goal.returns-then-is_open-clause-number
returns-then-is_open-clause-number g c =
    λ _. few-open c.args.self.now.tree.state c.args.at.0 c.every_tree_is_lawful.ensures (sym c.is_open.ensures.value ∙ c.if-is_open.true)
