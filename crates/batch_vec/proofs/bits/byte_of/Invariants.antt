-- The byte has the bits of the marks from a place on.
use Rattle.std.proofs.Common.{◌≡◌, ◌≤◌, length, drop, map}
use Rattle.query_model.specs.Bytes.{bit_of, number_of_bits}
use Rattle.batch_vec.proofs.bits.byte_of.Given as goal

abbrev pub invariant-bits : goal.invariant-bits
invariant-bits l = record {
  bits : l.byte ≡ number_of_bits (map bit_of (drop l.left l.known));
  within : l.left ≤ length l.known;
}

abbrev pub decreases-bits : goal.decreases-bits
decreases-bits l = l.left
