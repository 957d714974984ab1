-- What a view of some bytes shows.
use Rattle.std.specs.Prelude.{ℕ, List, take, drop}
use Rattle.std.specs.Arc.{arc_value}
use Rattle.mem_buf.specs.declared.view.View.{View}

-- a part of some bytes: so many from a place on
abbrev pub part_of : ℕ → ℕ → List ℕ → List ℕ
part_of from len bytes = take len (drop from bytes)

-- the bytes that a view shows
abbrev pub bytes_in : View → List ℕ
bytes_in view = part_of view.from view.len (arc_value view.bytes).items
