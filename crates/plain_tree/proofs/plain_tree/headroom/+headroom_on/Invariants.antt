use Rattle.std.proofs.Common.{length}
use Rattle.plain_tree.proofs.plain_tree.headroom.+headroom_on.Given as goal

abbrev pub decreases-headroom_on : goal.decreases-headroom_on
decreases-headroom_on l = length l.path.now
