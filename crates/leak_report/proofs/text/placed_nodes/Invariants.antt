use Rattle.std.proofs.Common.{◌≡◌, map}
use Rattle.mem_model.specs.MeasuredTree.{peak_at, placed_node}
use Rattle.leak_report.proofs.NodesLemmas.{nodes_below, HasShortPeaks}
use Rattle.leak_report.proofs.text.placed_nodes.Given as goal

-- the nodes so far
abbrev pub invariant-loop-number : goal.invariant-loop-number
invariant-loop-number l = record {
  nodes : l.nodes.items ≡ map (placed_node (peak_at l.tree) l.tree.state) (nodes_below l.number l.tree.state.nodes);
  peaks : HasShortPeaks l.nodes.items;
}
