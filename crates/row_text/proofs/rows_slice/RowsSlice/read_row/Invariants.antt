-- The fields are those of the columns so far.
use Rattle.std.proofs.Common.{◌≡◌, [], take}
use Rattle.csv.specs.Records.{fields_of, partial_of}
use Rattle.row_text.proofs.PrintLemmas.{fields_at}
use Rattle.row_text.proofs.rows_slice.RowsSlice.read_row.Given as goal

abbrev pub invariant-columns : goal.invariant-columns
invariant-columns l = record {
  fields : fields_of l.fields ≡ fields_at l.place (take l.column-index l.columns);
  whole : partial_of l.fields ≡ [];
}
