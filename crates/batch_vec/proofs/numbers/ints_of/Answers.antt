-- One number more.
use Rattle.std.proofs.Common.{◌∙◌, FitsSigned, rules}
use Rattle.std.specs.Int.{w64}
use Rattle.std.proofs.lemmas.Int.{to_z-of_z}
use Rattle.batch_vec.proofs.NumberLemmas.{int_pushed}
use Rattle.batch_vec.proofs.numbers.ints_of.Goals as goal

pub chunks-preserved : goal.chunks-preserved
chunks-preserved c =
    let fits : FitsSigned w64 c.int_of.result = search rules in
    record {
      values = int_pushed c.args.bytes.now c.as_chunks.result.0.now c.chunks.chunk-index _ _ _ _ c.as_chunks.ensures.front (search rules)
          c.push_reserved.ensures.items c.chunks.invariant.values (to_z-of_z w64 c.int_of.result fits ∙ c.int_of.ensures.value);
      filled = search rules;
      room = search rules;
    }
