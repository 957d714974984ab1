-- The numbers of the first places were added.
use Rattle.std.proofs.Common.{◌≡◌, length}
use Rattle.query_model.specs.declared.cell.Cell.TheVariants.{Sum}
use Rattle.row_text.specs.Stored.{numbers}
use Rattle.operators.proofs.AddLemmas.{IsAdding}
use Rattle.operators.proofs.sums.add_sums.Given as goal

abbrev pub invariant-rows : goal.invariant-rows
invariant-rows l = record {
  adding : IsAdding (numbers Sum l.fn.sums l.fn.seen) (numbers Sum l.sums l.seen) l.places (numbers Sum l.values l.known) l.row;
  sums : length l.sums ≡ length l.fn.sums;
  seen : length l.seen ≡ length l.fn.seen;
}
