-- Fewer reservations are left.
use Rattle.std.proofs.Common.{length}
use Rattle.pipeline.proofs.opening.+open_each.Given as goal

abbrev pub decreases-open_each : goal.decreases-open_each
decreases-open_each l = length l.limits.now
