-- Rows whose sums have 128 bits.
use Rattle.std.specs.Prelude.{ℕ, ◌≤◌, ◌^◌, ◌-◌, ℤ, unsigned_abs, List, All, sum_by}
use Rattle.query_model.specs.Answer.{numbers_at, rows_with_key}
use Rattle.query_model.specs.declared.cell.Cell.{Cell}

-- what numbers come to at most, whatever their signs
abbrev pub magnitude : List ℤ → ℕ
magnitude numbers = sum_by unsigned_abs numbers

-- for each key and each of some columns, the absolute values of the cells that aren't null add up to a number of 128 bits
abbrev pub AreSummable : ℕ → List ℕ → List (List Cell) → Type 0
AreSummable key columns rows =
    All (λ column. (one : List ℕ) → magnitude (numbers_at column (rows_with_key key one rows)) ≤ 2 ^ 127 - 1) columns
