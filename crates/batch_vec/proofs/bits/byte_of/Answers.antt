-- One bit more.
use Rattle.std.proofs.Common.{arith, rules}
use Rattle.batch_vec.proofs.BitLemmas.{bits_fit, bits_more, bits_none}
use Rattle.batch_vec.proofs.bits.byte_of.Goals as goal

pub bits-init : goal.bits-init
bits-init c = record { bits = bits_none c.args.known.now; within = omega arith }

pub overflow_mul-byte : goal.overflow_mul-byte
overflow_mul-byte c =
    let fits = bits_fit c.args.known.now c.bits.left c.bits.byte c.requires.few (search rules) c.bits.invariant.bits in
    search (rules, fits)

pub overflow_add-byte : goal.overflow_add-byte
overflow_add-byte c =
    let fits = bits_fit c.args.known.now c.bits.left c.bits.byte c.requires.few (search rules) c.bits.invariant.bits in
    search (rules, fits)

pub bits-preserved : goal.bits-preserved
bits-preserved c = record {
  bits = bits_more c.args.known.now c.bits.left c.bits.byte _ _ (search rules) c.bits.invariant.within c.bits.invariant.bits
      c.bit_of.ensures.value;
  within = search rules;
}
