-- What every plan has: its parts fit its columns, and its numbers their bounds.
use Rattle.std.specs.Prelude.{◌≡◌, ◌≤◌, ◌<◌, ℕ, Bool, true, not, ◌&&◌, nat_eq, nat_le, List, [], ◌∷◌, All, length, drop}
use Rattle.std.specs.Prelude.{Option, Some, None, option_map, slice_get}
use Rattle.std.specs.List.{list_all, list_any, zip}
use Rattle.std.specs.Str.{bytes_eq}
use Rattle.mem_num.specs.declared.bounds.TheConstants.{MAX_LIMIT, MAX_RESERVATION}
use Rattle.query_model.specs.declared.bounds.TheConstants.{MOST_BATCH_ROWS, MOST_COLUMNS, MOST_TESTS}
use Rattle.query_model.specs.declared.cell.Cell.{Cell}
use Rattle.query_model.specs.declared.cell.Cell.TheVariants.{Null, Int, Sum, Text}
use Rattle.query_model.specs.declared.column.Column.{Column}
use Rattle.query_model.specs.declared.kind.Kind.{Kind}
use Rattle.query_model.specs.declared.kind.Kind.TheVariants as kind
use Rattle.query_model.specs.declared.output.Output.{Output}
use Rattle.query_model.specs.declared.output.Output.TheVariants.{Select, Group}
use Rattle.query_model.specs.declared.plan.Plan.{Plan}
use Rattle.query_model.specs.declared.test.Test.{Test}

-- no value is the same as one after it
unfoldable pub are_different : {A : Type 0} → (A → A → Bool) → List A → Bool
are_different same [] = true
are_different same (value ∷ values) =
    not (list_any (λ other. same other value) values) && are_different same values

-- a column of this name
abbrev pub is_named : List ℕ → Column → Bool
is_named name column = bytes_eq column.name name

-- two columns have one name
abbrev pub have_one_name : Column → Column → Bool
have_one_name a b = is_named b.name a

-- the kind of the column of a number
abbrev pub kind_at : List Column → ℕ → Option Kind
kind_at columns place = option_map (λ column. column.kind) (slice_get columns place)

-- each reservation is at most the limit beside it
abbrev pub are_within : List ℕ → List ℕ → Bool
are_within limits reserves = list_all (λ both. nat_le both.0 both.1) (zip reserves limits)

-- each reservation is at most the limit of its allocator; the root has a limit alone
abbrev pub are_covered : List ℕ → List ℕ → Bool
are_covered limits reserves = are_within (drop 1 limits) reserves

-- the kind of the columns whose cells are compared with this one
abbrev pub compared_kind : Cell → Option Kind
compared_kind Null = None
compared_kind (Int n) = Some kind.Int
compared_kind (Sum n) = Some kind.Sum
compared_kind (Text bytes) = Some kind.Text

-- a test is of a column that there is, with a value of its kind
pub record FitsColumn (columns : List Column) (test : Test) : Type 0 where
  pub within : test.column < length columns
  pub kind : kind_at columns test.column ≡ compared_kind test.value

-- 1 to 32 different columns
pub record ArePicks (picks : List ℕ) : Type 0 where
  pub some : 1 ≤ length picks
  pub few : length picks ≤ MOST_COLUMNS
  pub different : are_different nat_eq picks ≡ true

-- an answer is of columns that there are, and sums whole numbers
abbrev pub FitsColumns : List Column → Output → Type 0
FitsColumns columns (Select picks) = ArePicks picks × All (λ pick. pick < length columns) picks
FitsColumns columns (Group key sums) =
    (key < length columns) × ArePicks sums × All (λ pick. kind_at columns pick ≡ Some kind.Int) sums

-- a plan's parts fit its columns, and its numbers their bounds
pub record IsFit (plan : Plan) : Type 0 where
  pub some : 1 ≤ length plan.columns
  pub few : length plan.columns ≤ MOST_COLUMNS
  pub different : are_different have_one_name plan.columns ≡ true
  pub batch : (1 ≤ plan.batch) × (plan.batch ≤ MOST_BATCH_ROWS)
  pub few_tests : length plan.tests ≤ MOST_TESTS
  pub tests : All (FitsColumn plan.columns) plan.tests
  pub output : FitsColumns plan.columns plan.output
  pub limits : All (λ limit. limit ≤ MAX_LIMIT) plan.limits
  pub reserves : All (λ reservation. reservation ≤ MAX_RESERVATION) plan.reserves
  pub covered : are_covered plan.limits plan.reserves ≡ true
