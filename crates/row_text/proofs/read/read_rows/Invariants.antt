-- The records so far are the header and these rows, and those that are left follow.
use Rattle.std.proofs.Common.{◌≡◌, ◌≤◌, ◌-◌, ℕ, List, ◌∷◌, ◌++◌, length}
use Rattle.query_model.specs.declared.bounds.TheConstants.{MOST_ROWS}
use Rattle.row_text.specs.Left.{HasLeft}
use Rattle.row_text.specs.Table.{EachReads, kinds_of, names_of, records_of}
use Rattle.row_text.specs.Rows.{AreLong, cells_in, kinds_in, rows_from}
use Rattle.row_text.proofs.read.read_rows.Given as goal

abbrev pub invariant-records : goal.invariant-records
invariant-records l = record {
  few : l.count ≤ MOST_ROWS;
  kinds : kinds_in l.cells.items ≡ kinds_of l.columns;
  long : AreLong l.count (cells_in l.cells.items);
  read : (done : List (List (List ℕ))) × (left : List (List (List ℕ))) × HasLeft l.reader left
      × (records_of l.fn.bytes ≡ names_of l.columns ∷ (done ++ left))
      × (length done ≡ l.count) × EachReads (kinds_of l.columns) done (rows_from l.count (cells_in l.cells.items));
}

abbrev pub decreases-records : goal.decreases-records
decreases-records l = MOST_ROWS - l.count
