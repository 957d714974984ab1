-- The records so far are the header and these rows, and those of the text that is left follow.
use Rattle.std.proofs.Common.{◌≡◌, ◌≤◌, ◌-◌, ℕ, List, ◌∷◌, ◌++◌, length, drop}
use Rattle.csv.specs.Reading.{default_config, records}
use Rattle.query_model.specs.declared.bounds.TheConstants.{MOST_ROWS}
use Rattle.row_text.specs.Table.{EachReads, kinds_of, names_of, records_of}
use Rattle.row_text.specs.Rows.{AreLong, cells_in, kinds_in, rows_from}
use Rattle.row_text.proofs.lines.read_lines.Given as goal

abbrev pub invariant-records : goal.invariant-records
invariant-records l = record {
  few : l.count ≤ MOST_ROWS;
  within : l.at ≤ length l.bytes;
  kinds : kinds_in l.cells.items ≡ kinds_of l.columns;
  long : AreLong l.count (cells_in l.cells.items);
  read : (done : List (List (List ℕ)))
      × (records_of l.bytes ≡ names_of l.columns ∷ (done ++ records default_config (drop l.at l.bytes)))
      × (length done ≡ l.count) × EachReads (kinds_of l.columns) done (rows_from l.count (cells_in l.cells.items));
}

abbrev pub decreases-records : goal.decreases-records
decreases-records l = length l.bytes - l.at
