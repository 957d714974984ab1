-- One number more.
use Rattle.std.proofs.Common.{◌∙◌, FitsSigned, rules}
use Rattle.std.specs.Int.{w128}
use Rattle.std.proofs.lemmas.Int.{to_z-of_z}
use Rattle.batch_vec.proofs.NumberLemmas.{sum_pushed}
use Rattle.batch_vec.proofs.numbers.sums_of.Goals as goal

pub chunks-preserved : goal.chunks-preserved
chunks-preserved c =
    let fits : FitsSigned w128 c.sum_of.result = search rules in
    record {
      values = sum_pushed c.args.bytes.now c.as_chunks.result.0.now c.chunks.chunk-index _ _ _ _ c.as_chunks.ensures.front (search rules)
          c.push_reserved.ensures.items c.chunks.invariant.values (to_z-of_z w128 c.sum_of.result fits ∙ c.sum_of.ensures.value);
      filled = search rules;
      room = search rules;
    }
