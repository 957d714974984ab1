-- The first columns were read back.
use Rattle.std.proofs.Common.{◌≡◌, take}
use Rattle.batch_vec.specs.Batches.{bytes_of}
use Rattle.batch_vec.specs.Columns.{cells_from, rows_in}
use Rattle.batch_vec.proofs.rows.columns_of.Given as goal

abbrev pub invariant-kinds : goal.invariant-kinds
invariant-kinds g l = l.columns.items ≡ take l.place (cells_from 0 l.kinds (rows_in l.count l.kinds (bytes_of l.buffers)))
