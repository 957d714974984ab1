-- One end more.
use Rattle.std.proofs.Common.{rules}
use Rattle.batch_vec.proofs.OffsetLemmas.{end_pushed}
use Rattle.batch_vec.proofs.offsets.ends_of.Goals as goal

pub chunks-preserved : goal.chunks-preserved
chunks-preserved c = record {
  ends = end_pushed c.args.bytes.now c.as_chunks.result.0.now c.chunks.place _ _ _ _ c.as_chunks.ensures.front (search rules)
      (search rules) c.push_reserved.ensures.items c.chunks.invariant.ends c.place_of.ensures.value;
  filled = search rules;
  room = search rules;
}
