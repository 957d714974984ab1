-- One byte more.
use Rattle.std.proofs.Common.{map, rules}
use Rattle.query_model.specs.Bytes.{bit_byte, bit_of}
use Rattle.batch_vec.proofs.ListLemmas.{map_pushed}
use Rattle.batch_vec.proofs.bits.bits_of.Goals as goal

pub bytes-preserved : goal.bytes-preserved
bytes-preserved c = record {
  bytes = map_pushed (bit_byte (map bit_of c.args.known.now)) c.bytes.place _ _ _ c.push_reserved.ensures.items c.bytes.invariant.bytes
      c.byte_at.ensures.value;
  filled = search rules;
  room = search rules;
}
