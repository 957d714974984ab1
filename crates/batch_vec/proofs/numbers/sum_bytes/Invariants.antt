-- The bytes of the numbers so far.
use Rattle.std.proofs.Common.{◌≡◌, take}
use Rattle.std.specs.Int.{w128}
use Rattle.std.specs.List.{flat_map}
use Rattle.query_model.specs.Bytes.{number_bytes}
use Rattle.query_model.specs.declared.cell.Cell.TheVariants.{Sum}
use Rattle.row_text.specs.Stored.{numbers}
use Rattle.batch_vec.proofs.numbers.sum_bytes.Given as goal

abbrev pub invariant-values : goal.invariant-values
invariant-values l = l.bytes.items ≡ flat_map (number_bytes w128) (take l.place (numbers Sum l.values l.known))
