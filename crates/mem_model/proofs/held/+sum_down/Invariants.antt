use Rattle.std.proofs.Common.{length}
use Rattle.mem_model.proofs.held.+sum_down.Given as goal

abbrev pub decreases-sum_down : goal.decreases-sum_down
decreases-sum_down l = length l.nodes.now
