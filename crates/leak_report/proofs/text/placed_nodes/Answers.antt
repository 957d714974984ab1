use Rattle.std.proofs.Common.{◌≡◌, ◌∙◌, sym, ap, subst, map, arith, List, [], ◌∷◌, ◌++◌}
use Rattle.std.proofs.lemmas.List.{append-nil}
use Rattle.mem_num.specs.declared.placed.Placed.{Placed}
use Rattle.mem_model.specs.MeasuredTree.{peak_at, placed_node}
use Rattle.leak_report.specs.TreeText.{placed_nodes}
use Rattle.leak_report.proofs.NodesLemmas.{HasShortPeaks, nodes_below-zero, nodes_below-end, placed_below-more, short_peaks_from, short_peaks_more}
use Rattle.leak_report.proofs.text.placed_nodes.Goals.{in-Some+in_ok-push, in_default}
use Rattle.leak_report.proofs.text.placed_nodes.Goals as goal

pub loop-number-init : goal.loop-number-init
loop-number-init c =
    let tree = c.args.tree.now in
    record {
      nodes = c.new-nodes.ensures.items ∙ ap (map (placed_node (peak_at tree) tree.state)) (sym (nodes_below-zero tree.state.nodes));
      peaks = subst HasShortPeaks (sym c.new-nodes.ensures.items) (λ k d within. absurd (omega arith));
    }

pub loop-number-preserved : goal.loop-number-preserved
loop-number-preserved c =
    let tree = c.args.tree.now in
    let more = placed_below-more (placed_node (peak_at tree) tree.state) c.loop-number.number tree.state.nodes c.node.result c.every_tree_is_lawful.ensures.tree.ordered c.node.ensures in
    elim c.match-node.branch [
      | in-Some+in_ok-push w ↦ record {
        nodes = ap (λ v. v.items) w.nodes-is ∙ w.in_ok-push.ensures.items ∙ ap (λ xs. xs ++ w.in-Some.node ∷ []) c.loop-number.invariant.nodes ∙ sym (rw w.in-Some.is at more);
        peaks = subst HasShortPeaks (sym (ap (λ v. v.items) w.nodes-is ∙ w.in_ok-push.ensures.items)) (short_peaks_more c.loop-number.nodes.items w.in-Some.node c.loop-number.invariant.peaks w.has_short_peak.ensures);
      }
      | in_default w ↦ record {
        nodes = (let same = rw w.in_default.is at more in ap (λ v. v.items) w.nodes-is ∙ c.loop-number.invariant.nodes ∙ sym (same ∙ append-nil _));
        peaks = subst HasShortPeaks (sym (ap (λ v. v.items) w.nodes-is)) c.loop-number.invariant.peaks;
      }
    ]

pub returns-clause-nodes : goal.returns-clause-nodes
returns-clause-nodes c =
    let tree = c.args.tree.now in
    c.loop-number.invariant.nodes ∙ ap (map (placed_node (peak_at tree) tree.state)) (nodes_below-end tree.state c.loop-number.number c.every_tree_is_lawful.ensures (omega (arith, c.next.ensures, c.min-number-end.ensures)))

pub returns-clause-peaks : goal.returns-clause-peaks
returns-clause-peaks c =
    let tree = c.args.tree.now in
    let nodes : List Placed = c.loop-number.nodes.items in
    let whole : nodes ≡ placed_nodes (peak_at tree) tree.state =
    c.loop-number.invariant.nodes ∙ ap (map (placed_node (peak_at tree) tree.state)) (nodes_below-end tree.state c.loop-number.number c.every_tree_is_lawful.ensures (omega (arith, c.next.ensures, c.min-number-end.ensures))) in
    short_peaks_from (peak_at tree) tree.state tree.state.nodes (subst HasShortPeaks whole c.loop-number.invariant.peaks)
