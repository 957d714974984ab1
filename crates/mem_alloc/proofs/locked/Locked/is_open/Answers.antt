use Rattle.std.proofs.Common.{Some, None, sym, ◌∙◌}
use Rattle.mem_model.specs.MeasuredTree.{peak_at}
use Rattle.mem_alloc.proofs.OpenLemmas.{open-placed}
use Rattle.mem_alloc.proofs.locked.Locked.is_open.Goals as goal

pub returns-in-Some : goal.returns-in-Some
returns-in-Some c =
    let tree = c.args.self.now.tree in
    record {
      value = open-placed (peak_at tree) tree.state c.args.at.0 (Some c.in-Some.placed) c.every_tree_is_lawful.ensures.tree
          (sym c.in-Some.is ∙ c.node.ensures);
    }

pub returns-in-None : goal.returns-in-None
returns-in-None c =
    let tree = c.args.self.now.tree in
    record {
      value = open-placed (peak_at tree) tree.state c.args.at.0 None c.every_tree_is_lawful.ensures.tree
          (sym c.in-None.is ∙ c.node.ensures);
    }
