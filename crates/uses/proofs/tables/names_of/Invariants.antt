-- The names of the columns so far.
use Rattle.std.proofs.Common.{◌≡◌, take}
use Rattle.row_text.specs.Table.{names_of}
use Rattle.uses.proofs.tables.names_of.Given as goal

abbrev pub invariant-columns : goal.invariant-columns
invariant-columns l = l.names.items ≡ names_of (take l.column-index l.columns)
