use Rattle.std.proofs.Common.{◌∙◌, sym, ap, is_some}
use Rattle.mem_model.specs.MeasuredTree.{MeasuredTree}
use Rattle.mem_model.specs.TreeState.{is_open}
use Rattle.alloc_tree.proofs.OpenLemmas.{is_open_row}
use Rattle.alloc_tree.proofs.solo_tree.SoloTree.is_open.Goals as goal

pub returns : goal.returns
returns c = c.is_some.ensures ∙ ap is_some c.get_open.ensures ∙ sym (is_open_row c.self.inside.rows c.args.at.0)
    ∙ ap (λ (t : MeasuredTree). is_open t.state c.args.at.0) c.self.view_is
