-- A column was made for each one so far.
use Rattle.std.proofs.Common.{◌≡◌, take}
use Rattle.row_text.specs.Table.{kinds_of}
use Rattle.row_text.specs.Rows.{AreLong, cells_in, kinds_in}
use Rattle.row_text.proofs.read.empty_columns.Given as goal

abbrev pub invariant-columns : goal.invariant-columns
invariant-columns l = record {
  kinds : kinds_in l.made.items ≡ kinds_of (take l.column-index l.columns);
  cells : AreLong 0 (cells_in l.made.items);
}
