-- Places among texts, in bytes.
use Rattle.std.specs.Prelude.{ℕ, ◌+◌, ◌-◌, List, ◌++◌}
use Rattle.std.specs.Int.{w32, to_le_bytes}
use Rattle.std.specs.List.{flat_map}
use Rattle.query_model.specs.Bytes.{number_at}

-- the place 0, and the ends of texts counted from where the first begins
abbrev pub offsets_of : ℕ → List ℕ → List ℕ
offsets_of start ends = to_le_bytes w32 0 ++ flat_map (λ end. to_le_bytes w32 (end - start)) ends

-- where the text of this number ends
abbrev pub end_at : List ℕ → ℕ → ℕ
end_at bytes place = number_at w32 bytes (place + 1)
