use Rattle.std.proofs.Common.{◌≡◌, take}
use Rattle.leak_report.specs.ReadReport.{parent_after}
use Rattle.leak_report.proofs.judge.read.parent_after.Given as goal

-- the parent by the lines so far
abbrev pub invariant-loop-above : goal.invariant-loop-above
invariant-loop-above l = l.parent ≡ parent_after (take l.above-index l.levels) l.depth
