-- Which rows meet the tests of a filter.
use Rattle.std.specs.Prelude.{Bool, false, List, filter, Option, Some, None}
use Rattle.std.specs.Cmp.Lexicographic.{slice_cmp}
use Rattle.std.specs.List.{list_all}
use Rattle.std.specs.Option.{option_map_or}
use Rattle.std.specs.declared.cmp.Ordering.{Ordering}
use Rattle.std.specs.Ordering.{nat_cmp, int_cmp, is_eq, is_ne, is_lt, is_le, is_gt, is_ge}
use Rattle.query_model.specs.declared.cell.Cell.{Cell}
use Rattle.query_model.specs.declared.cell.Cell.TheVariants.{Int, Text}
use Rattle.query_model.specs.declared.op.Op.{Op}
use Rattle.query_model.specs.declared.op.Op.TheVariants.{Eq, Ne, Lt, Le, Gt, Ge}
use Rattle.query_model.specs.declared.test.Test.{Test}
use Rattle.query_model.specs.Cells.{cell_at}

-- how a cell compares with a value: whole numbers by size, texts by their bytes; a null compares with nothing
abbrev pub order_of : Cell → Cell → Option Ordering
order_of (Int n) (Int value) = Some (int_cmp n value)
order_of (Text bytes) (Text value) = Some (slice_cmp nat_cmp bytes value)
order_of cell value = None

-- whether a comparison accepts an order
abbrev pub accepts : Op → Ordering → Bool
accepts Eq order = is_eq order
accepts Ne order = is_ne order
accepts Lt order = is_lt order
accepts Le order = is_le order
accepts Gt order = is_gt order
accepts Ge order = is_ge order

-- whether a cell meets a comparison with a value
abbrev pub is_met : Op → Cell → Cell → Bool
is_met op value cell = option_map_or (accepts op) (order_of cell value) false

-- whether a row meets a test
abbrev pub meets : List Cell → Test → Bool
meets row test = is_met test.op test.value (cell_at test.column row)

-- the rows that meet every test, in order
abbrev pub meeting : List Test → List (List Cell) → List (List Cell)
meeting tests rows = filter (λ row. list_all (meets row) tests) rows
