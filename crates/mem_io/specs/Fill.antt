-- What one turn of reading does.
use Rattle.std.specs.Prelude.{◌≡◌, ℕ, ◌<◌, List, length, Option}
use Rattle.std.specs.Io.KnownBytes.{IsAtEnd}
use Rattle.mem_io.specs.declared.fill.Turn.{Turn}
use Rattle.mem_io.specs.declared.fill.Turn.TheVariants.{Took, Ended}

-- a turn took at least one byte, or took none and found the end of the reader
abbrev pub MakesProgress : Turn → List ℕ → List ℕ → Option (List ℕ) → Type 0
MakesProgress Took before after left = length before < length after
MakesProgress Ended before after left = (after ≡ before) × IsAtEnd left
