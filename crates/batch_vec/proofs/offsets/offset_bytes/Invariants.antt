-- The bytes of the places so far.
use Rattle.std.proofs.Common.{◌≡◌, take}
use Rattle.batch_vec.specs.Offsets.{offsets_of}
use Rattle.batch_vec.proofs.offsets.offset_bytes.Given as goal

abbrev pub invariant-ends : goal.invariant-ends
invariant-ends l = l.bytes.items ≡ offsets_of l.start (take l.end-index l.ends)
