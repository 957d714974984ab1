-- The lengths of the columns so far, and those that are left.
use Rattle.std.proofs.Common.{◌≡◌, ◌++◌, drop}
use Rattle.query_model.specs.Buffers.{buffer_lengths, lengths_from}
use Rattle.query_model.proofs.buffers.buffer_lengths.Given as goal

abbrev pub invariant-loop-column : goal.invariant-loop-column
invariant-loop-column l = buffer_lengths l.kinds l.rows ≡ l.lengths.items ++ lengths_from l.column (drop l.column l.kinds) l.rows
