-- What the buffers so far are charged.
use Rattle.std.proofs.Common.{◌≡◌, take}
use Rattle.query_model.specs.Buffers.{sizes_of}
use Rattle.query_model.proofs.buffers.sizes_of.Given as goal

abbrev pub invariant-loop-length : goal.invariant-loop-length
invariant-loop-length l = l.sizes.items ≡ sizes_of (take l.length-index l.lengths)
