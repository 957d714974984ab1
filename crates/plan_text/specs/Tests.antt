-- The tests of a plan.
use Rattle.std.specs.Prelude.{ℕ, List, [], Option, Some, None, if◌then◌else◌, codes}
use Rattle.std.specs.Str.{bytes_eq}
use Rattle.toml.specs.Data.{Data, string, integer, Members, get_member, as_table}
use Rattle.query_model.specs.declared.cell.Cell.{Cell}
use Rattle.query_model.specs.declared.cell.Cell.TheVariants.{Int, Text}
use Rattle.query_model.specs.declared.column.Column.{Column}
use Rattle.query_model.specs.declared.kind.Kind.{Kind}
use Rattle.query_model.specs.declared.kind.Kind.TheVariants as kind
use Rattle.query_model.specs.declared.op.Op.{Op}
use Rattle.query_model.specs.declared.op.Op.TheVariants.{Eq, Ne, Lt, Le, Gt, Ge}
use Rattle.query_model.specs.declared.test.Test.{Test}
use Rattle.query_model.specs.declared.bounds.TheConstants.{MOST_TESTS}
use Rattle.plan_text.specs.declared.keys.Keys.TheVariants as tables
use Rattle.query_model.specs.Fit.{kind_at}
use Rattle.plan_text.specs.Columns.{place_of}
use Rattle.plan_text.specs.Keys.{has_only, keys_of}
use Rattle.plan_text.specs.Values.{◌>>=◌, each_of, items_between, text_at}

-- the comparison of a name
abbrev pub op_of : List ℕ → Option Op
op_of name =
    if bytes_eq name (codes "eq") then Some Eq
    else if bytes_eq name (codes "ne") then Some Ne
    else if bytes_eq name (codes "lt") then Some Lt
    else if bytes_eq name (codes "le") then Some Le
    else if bytes_eq name (codes "gt") then Some Gt
    else if bytes_eq name (codes "ge") then Some Ge
    else None

-- what a test of a column of this kind compares with: a number, or a text
abbrev pub cell_of : Kind → Data → Option Cell
cell_of kind.Int (integer n) = Some (Int n)
cell_of kind.Int value = None
cell_of kind.Text (string text) = Some (Text text)
cell_of kind.Text value = None
cell_of kind.Sum value = None

-- the column that a test names
abbrev pub place_at : List Column → Members → Option ℕ
place_at columns members = text_at (codes "column") members >>= place_of columns

-- the comparison that a test names
abbrev pub op_at : Members → Option Op
op_at members = text_at (codes "op") members >>= op_of

-- a test has the name of a column, a comparison and a value of the column's kind
abbrev pub test_with : List Column → Members → Option Test
test_with columns members = do
  place ← place_at columns members
  op ← op_at members
  kind ← kind_at columns place
  value ← get_member (codes "value") members
  cell ← cell_of kind value
  Some (record { column = place; op = op; value = cell })

-- and no other key
abbrev pub test_in : List Column → Members → Option Test
test_in columns members =
    if has_only (keys_of tables.Test) members then test_with columns members else None

-- the test that a value is
abbrev pub test_of : List Column → Data → Option Test
test_of columns value = as_table value >>= test_in columns

-- the tests of a plan: at most 8, and none where the key is absent
abbrev pub tests_of : List Column → Option Data → Option (List Test)
tests_of columns None = Some []
tests_of columns (Some value) = do
  items ← items_between 0 MOST_TESTS value
  each_of (test_of columns) items
