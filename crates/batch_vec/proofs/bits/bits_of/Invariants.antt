-- The bytes of the places so far.
use Rattle.std.proofs.Common.{◌≡◌, ◌≤◌, map}
use Rattle.std.specs.List.{range_with_len}
use Rattle.std.specs.Vec.{vec_len, vec_capacity}
use Rattle.query_model.specs.Bytes.{bit_byte, bit_of}
use Rattle.batch_vec.proofs.bits.bits_of.Given as goal

abbrev pub invariant-bytes : goal.invariant-bytes
invariant-bytes l = record {
  bytes : l.bytes.items ≡ map (bit_byte (map bit_of l.known)) (range_with_len 0 l.place);
  filled : vec_len l.bytes ≡ l.place;
  room : l.count ≤ vec_capacity l.bytes;
}
