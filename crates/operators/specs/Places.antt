-- Rows by their places.
use Rattle.std.specs.Prelude.{ℕ, List, [], filter, get_or, length}
use Rattle.std.specs.List.{list_all, range_with_len}
use Rattle.query_model.specs.Filter.{meets}
use Rattle.query_model.specs.declared.cell.Cell.{Cell}
use Rattle.query_model.specs.declared.test.Test.{Test}

-- the places of these that pass all tests
abbrev pub places_left : List Test → List (List Cell) → List ℕ → List ℕ
places_left tests rows places = filter (λ place. list_all (meets (get_or rows place [])) tests) places

-- the places of the rows that meet every test, in order
abbrev pub places_meeting : List Test → List (List Cell) → List ℕ
places_meeting tests rows = places_left tests rows (range_with_len 0 (length rows))
