use Rattle.std.proofs.Common.{◌≡◌, ◌∙◌, sym, ap, subst}
use Rattle.std.specs.Option.{option_map}
use Rattle.mem_model.specs.MeasuredTree.{MeasuredTree, placed_at, peak_at}
use Rattle.alloc_tree.specs.Placed.{placed_row}
use Rattle.alloc_tree.specs.Rows.{row_at}
use Rattle.alloc_tree.proofs.LookLemmas.{placed_of_row}
use Rattle.alloc_tree.proofs.solo_tree.SoloTree.node.Goals as goal

pub returns-in_err-row : goal.returns-in_err-row
returns-in_err-row c =
    let told = subst (λ (tree : MeasuredTree). option_map (placed_row c.args.at) (row_at c.self.inside.rows c.args.at.0)
    ≡ placed_at (peak_at tree) tree.state c.args.at.0) c.self.view_is (placed_of_row c.self.inside c.args.at c.self.invariant.sound) in
    c.from_residual.ensures ∙ ap (option_map (placed_row c.args.at)) (sym c.in_err-row.was ∙ c.get.ensures) ∙ told

pub returns : goal.returns
returns c =
    let told = subst (λ (tree : MeasuredTree). option_map (placed_row c.args.at) (row_at c.self.inside.rows c.args.at.0)
    ≡ placed_at (peak_at tree) tree.state c.args.at.0) c.self.view_is (placed_of_row c.self.inside c.args.at c.self.invariant.sound) in
    rw c.placed.ensures (ap (option_map (placed_row c.args.at)) (sym c.in_ok-row.was ∙ c.get.ensures) ∙ told)
