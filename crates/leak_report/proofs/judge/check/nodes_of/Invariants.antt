use Rattle.std.proofs.Common.{◌≡◌, map, take}
use Rattle.leak_report.specs.LawfulReport.{printed_node}
use Rattle.leak_report.proofs.judge.check.nodes_of.Given as goal

-- the nodes so far
abbrev pub invariant-loop-printed : goal.invariant-loop-printed
invariant-loop-printed l = l.nodes.items ≡ map printed_node (take l.printed-index l.allocators)
