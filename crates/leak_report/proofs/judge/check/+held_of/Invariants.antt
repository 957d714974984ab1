use Rattle.std.proofs.Common.{length}
use Rattle.leak_report.proofs.judge.check.+held_of.Given as goal

abbrev pub decreases-held_of : goal.decreases-held_of
decreases-held_of l = length l.nodes.now
