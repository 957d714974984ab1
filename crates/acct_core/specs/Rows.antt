-- The rows of an account: the allocator of a number is the row at that place.
use Rattle.std.specs.Prelude.{ℕ, Bool, false, ◌==◌, List, slice_index_or, Option, Some, None}
use Rattle.acct_core.specs.declared.row.Row.{Row}
use Rattle.acct_core.specs.declared.shape.Shape.{Shape}

-- the row of a number that was never given
abbrev pub blank : Row
blank = record { shape = record { made = false; is_open = false; parent = None; reservation = 0 }; limit = 0; held = 0; uses = 0 }

-- the row of a node
abbrev pub row : List Row → ℕ → Row
row rows node = slice_index_or rows node blank

-- what each number's allocator is
abbrev pub shapes : List Row → ℕ → Shape
shapes rows node = (row rows node).shape

-- whether there is a number, and it is this node's
abbrev pub is_at : Option ℕ → ℕ → Bool
is_at None node = false
is_at (Some number) node = number == node
