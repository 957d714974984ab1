-- The first columns were encoded.
use Rattle.std.proofs.Common.{◌-◌, length, map}
use Rattle.batch_vec.proofs.StoredLemmas.{HasEncoded}
use Rattle.batch_vec.proofs.encoding.encoded.Given as goal

abbrev pub invariant-columns : goal.invariant-columns
invariant-columns l = HasEncoded l.rows l.kinds.items (map (λ buffer. buffer.items) l.buffers.items)

abbrev pub decreases-columns : goal.decreases-columns
decreases-columns l = length l.rows.kinds - length l.kinds.items
