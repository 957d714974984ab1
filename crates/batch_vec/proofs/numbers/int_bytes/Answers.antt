-- One number more.
use Rattle.std.proofs.Common.{rules}
use Rattle.std.specs.Int.{w64}
use Rattle.query_model.specs.declared.cell.Cell.TheVariants.{Int}
use Rattle.batch_vec.proofs.NumberLemmas.{number_all, number_pushed}
use Rattle.batch_vec.proofs.numbers.int_bytes.Goals as goal

pub values-preserved : goal.values-preserved
values-preserved c = number_pushed Int w64 c.args.values.now c.args.known.now c.values.place _ _ _ c.requires.marked (search rules)
    c.in_ok-extend_from_slice.ensures.items c.values.invariant c.bytes_of_int.ensures.value

pub returns : goal.returns
returns c = record {
  value = number_all Int w64 c.args.values.now c.args.known.now c.values.place _ c.requires.marked
      (search rules) c.values.invariant;
}
