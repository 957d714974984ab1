-- The columns before this one took their fields, and the others are as they were.
use Rattle.std.proofs.Common.{◌≡◌, ◌<◌, ◌≤◌, ℕ, [], get_or}
use Rattle.csv.specs.Records.{fields_of}
use Rattle.row_text.specs.Stored.{ColumnCells}
use Rattle.row_text.specs.Rows.{Took}
use Rattle.row_text.proofs.read.push_record.Given as goal

abbrev pub invariant-columns : goal.invariant-columns
invariant-columns l = record {
  done : (k : ℕ) (d : ColumnCells) → k < l.i → Took (get_or l.fn.columns k d) (get_or (fields_of l.fields) k []) (get_or l.columns k d);
  left : (k : ℕ) (d : ColumnCells) → l.i ≤ k → get_or l.columns k d ≡ get_or l.fn.columns k d;
}
