-- The bytes of the numbers so far.
use Rattle.std.proofs.Common.{◌≡◌, take}
use Rattle.std.specs.Int.{w64}
use Rattle.std.specs.List.{flat_map}
use Rattle.query_model.specs.Bytes.{number_bytes}
use Rattle.query_model.specs.declared.cell.Cell.TheVariants.{Int}
use Rattle.row_text.specs.Stored.{numbers}
use Rattle.batch_vec.proofs.numbers.int_bytes.Given as goal

abbrev pub invariant-values : goal.invariant-values
invariant-values l = l.bytes.items ≡ flat_map (number_bytes w64) (take l.place (numbers Int l.values l.known))
