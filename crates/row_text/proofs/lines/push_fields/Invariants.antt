-- The columns before this one took their fields, and the others are as they were.
use Rattle.std.proofs.Common.{◌≡◌, ◌<◌, ◌≤◌, ℕ, [], get_or}
use Rattle.row_text.specs.Lines.{fields_between}
use Rattle.row_text.specs.Stored.{ColumnCells}
use Rattle.row_text.specs.Rows.{Took}
use Rattle.row_text.proofs.lines.push_fields.Given as goal

abbrev pub invariant-columns : goal.invariant-columns
invariant-columns l = record {
  done : (k : ℕ) (d : ColumnCells) → k < l.i
      → Took (get_or l.fn.columns k d) (get_or (fields_between 0 l.ends l.text) k []) (get_or l.columns k d);
  left : (k : ℕ) (d : ColumnCells) → l.i ≤ k → get_or l.columns k d ≡ get_or l.fn.columns k d;
}
