-- How the cells of a column lie in memory, and what a contract sees of them.
use Rattle.std.specs.Prelude.{◌≡◌, ℕ, Bool, true, false, List, [], ◌∷◌, ◌++◌, length, map, Some, None, if◌then◌else◌}
use Rattle.csv.specs.Records.{AllText, Rising, cut_from, last_end}
use Rattle.query_model.specs.declared.cell.Cell.{Cell}
use Rattle.query_model.specs.declared.cell.Cell.TheVariants.{Null, Int, Sum, Text}
use Rattle.query_model.specs.declared.kind.Kind.{Kind}
use Rattle.query_model.specs.declared.kind.Kind.TheVariants as kind
use Rattle.row_text.specs.declared.cell_column.Stored.{Stored}
use Rattle.row_text.specs.declared.cell_column.Stored.TheVariants.{Ints, Sums, Texts}
use Rattle.row_text.specs.Fields.{cell_of}

-- a column's kind and cells
pub record ColumnCells : Type 0 where
  pub kind : Kind
  pub cells : List Cell

-- the cells of numbers, each beside a mark that says whether it is known: an unknown one is null
unfoldable pub numbers : {N : Type 0} → (N → Cell) → List N → List Bool → List Cell
numbers cell [] known = []
numbers cell (value ∷ values) [] = []
numbers cell (value ∷ values) (mark ∷ known) = (if mark then cell value else Null) ∷ numbers cell values known

-- the texts that end at these places of one run of bytes
abbrev pub texts : List ℕ → List ℕ → List Cell
texts bytes ends = map Text (cut_from 0 ends bytes)

-- each text is UTF-8, and the last one ends where the bytes end
pub record AreTexts (bytes ends : List ℕ) : Type 0 where
  pub rising : Rising 0 ends (length bytes)
  pub whole : last_end 0 ends ≡ length bytes
  pub text : AllText (cut_from 0 ends bytes)

abbrev pub column_of : Stored → ColumnCells
column_of (Ints values known) = record { kind = kind.Int; cells = numbers Int values.items known.items }
column_of (Sums values known) = record { kind = kind.Sum; cells = numbers Sum values.items known.items }
column_of (Texts bytes ends) = record { kind = kind.Text; cells = texts bytes.items ends.items }

abbrev pub IsStored : Stored → Type 0
IsStored (Ints values known) = length values.items ≡ length known.items
IsStored (Sums values known) = length values.items ≡ length known.items
IsStored (Texts bytes ends) = AreTexts bytes.items ends.items

-- a field was read: the column has its cell at the end, or it is no cell of this kind
abbrev pub TakesField : Kind → List ℕ → List Cell → List Cell → Bool → Type 0
TakesField kind field old new true = (cell : Cell) × (cell_of kind field ≡ Some cell) × (new ≡ old ++ cell ∷ [])
TakesField kind field old new false = cell_of kind field ≡ None
