-- A table as rows, and its first bad row.
use Rattle.std.specs.Prelude.{◌≡◌, Some, None, ◌≤◌, ◌+◌, ℕ, zero, suc, List, [], ◌∷◌, ◌++◌, length, map, ⊤}
use Rattle.csv.specs.Reading.{default_config, records, strip_bom}
use Rattle.query_model.specs.declared.bounds.TheConstants.{MOST_ROWS}
use Rattle.query_model.specs.declared.cell.Cell.{Cell}
use Rattle.query_model.specs.declared.column.Column.{Column}
use Rattle.query_model.specs.declared.kind.Kind.{Kind}
use Rattle.row_text.specs.Fields.{cells_of}

-- the records of a table: as csv reads them with its defaults, after a byte order mark
abbrev pub records_of : List ℕ → List (List (List ℕ))
records_of bytes = records default_config (strip_bom bytes)

abbrev pub names_of : List Column → List (List ℕ)
names_of columns = map (λ column. column.name) columns

abbrev pub kinds_of : List Column → List Kind
kinds_of columns = map (λ column. column.kind) columns

-- each record reads as the row of its place
unfoldable pub EachReads : List Kind → List (List (List ℕ)) → List (List Cell) → Type 0
EachReads kinds [] [] = ⊤
EachReads kinds [] (row ∷ rows) = ⊥
EachReads kinds (fields ∷ more) [] = ⊥
EachReads kinds (fields ∷ more) (row ∷ rows) = (cells_of kinds fields ≡ Some row) × EachReads kinds more rows

-- bytes are a table of these rows: the first record is the columns' names, and each of the others, so many at most, reads as a row
pub record IsTable (columns : List Column) (bytes : List ℕ) (rows : List (List Cell)) : Type 0 where
  pub body : List (List (List ℕ))
  pub header : records_of bytes ≡ names_of columns ∷ body
  pub few : length body ≤ MOST_ROWS
  pub each : EachReads (kinds_of columns) body rows

-- the row of this number, from 1 on, breaks a rule, and none before it does
pub record IsFirstBadRow (columns : List Column) (bytes : List ℕ) (number : ℕ) : Type 0 where
  pub before : List (List (List ℕ))
  pub rows : List (List Cell)
  pub fields : List (List ℕ)
  pub after : List (List (List ℕ))
  pub header : records_of bytes ≡ names_of columns ∷ (before ++ fields ∷ after)
  pub place : number ≡ length before + 1
  pub each : EachReads (kinds_of columns) before rows
  pub few : number ≤ MOST_ROWS + 1
  pub bad : number ≤ MOST_ROWS → cells_of (kinds_of columns) fields ≡ None

-- this is the first row that breaks a rule: row 0 where the first record isn't the columns' names
abbrev pub IsFirstBad : List Column → List ℕ → ℕ → Type 0
IsFirstBad columns bytes zero = (body : List (List (List ℕ))) → records_of bytes ≡ names_of columns ∷ body → ⊥
IsFirstBad columns bytes (suc number) = IsFirstBadRow columns bytes (suc number)
