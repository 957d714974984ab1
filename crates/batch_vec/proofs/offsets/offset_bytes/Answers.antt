-- The first text begins before each ends.
use Rattle.std.proofs.Common.{rules}
use Rattle.batch_vec.proofs.OffsetLemmas.{start_below}
use Rattle.batch_vec.proofs.offsets.offset_bytes.Goals as goal

pub overflow_sub-end : goal.overflow_sub-end
overflow_sub-end c = start_below c.args.start c.args.ends.now c.requires.rising.0 c.ends.end-index c.requires.rising.1 (search rules)
