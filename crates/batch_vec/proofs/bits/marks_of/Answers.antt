-- One mark more.
use Rattle.std.proofs.Common.{rules}
use Rattle.batch_vec.specs.Marks.{is_set}
use Rattle.batch_vec.proofs.ListLemmas.{map_pushed}
use Rattle.batch_vec.proofs.bits.marks_of.Goals as goal

pub marks-preserved : goal.marks-preserved
marks-preserved c = record {
  known = map_pushed (is_set c.args.bytes.now) c.marks.place _ _ _ c.push_reserved.ensures.items c.marks.invariant.known
      c.is_set.ensures.value;
  filled = search rules;
  room = search rules;
}
