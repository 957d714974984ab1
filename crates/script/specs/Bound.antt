-- The entries of a map as names that are bound.
use Rattle.std.specs.Prelude.{ℕ, ◌+◌, ◌<◌, ◌^◌, List, map, All}
use denote.Ref.{Bor}
use Rattle.script.specs.declared.buffer.Buffer.{Buffer}

-- the bytes of a buffer end below 2 ^ 63
abbrev pub IsWithin : Buffer → Type 0
IsWithin buffer = buffer.start + buffer.len < 2 ^ 63

-- so do those of all that are bound
abbrev pub AreWithin : List (List ℕ × Buffer) → Type 0
AreWithin bound = All (λ binding. IsWithin binding.1) bound

-- the binding of an entry
abbrev pub buffer_binding : Bor (List ℕ) × Buffer → List ℕ × Buffer
buffer_binding entry = (entry.0.now, entry.1)

-- the bindings of a map's entries
abbrev pub buffer_bindings : List (Bor (List ℕ) × Buffer) → List (List ℕ × Buffer)
buffer_bindings entries = map buffer_binding entries
