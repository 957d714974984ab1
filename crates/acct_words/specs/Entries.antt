-- The entries of a history: atomic steps, with what each found in its word.
use Rattle.std.specs.Prelude.{◌≡◌, ℕ, ◌+◌, max, ◌==◌, if◌then◌else◌, List}
use mathlib.Core.Option.{some}
use lib.ListN.{get_elem?}
use Rattle.acct_words.specs.Places.{peak_word}

-- What a step does to its word; amounts and sizes are in bytes. A charge begins by adding its whole size at its allocator; a token that
-- gives up a chunk of some size, which is charged nowhere, does so at a load; a peak is raised to a number where it is below it
pub data StepKind : Type 0 where
  LoadWord : StepKind
  DrawChunkNumber : StepKind
  BeginCharge : (size : ℕ) → StepKind
  AddHeld : (amount : ℕ) → StepKind
  SubtractHeld : (amount : ℕ) → StepKind
  ForgetChunk : (size : ℕ) → StepKind
  RaisePeak : (to : ℕ) → StepKind

-- one atomic step of a caller: its name, which is its place among all steps of the table, its word, and what the word returned to it
pub record Entry : Type 0 where
  pub name : ℕ
  pub word : ℕ
  pub kind : StepKind
  pub found : ℕ

-- the size of the charge that a step begins
abbrev pub size_begun : StepKind → ℕ
size_begun (BeginCharge size) = size
size_begun _ = 0

-- the size of the chunk that a step forgets
abbrev pub size_forgotten : StepKind → ℕ
size_forgotten (ForgetChunk size) = size
size_forgotten _ = 0

-- what an addition to a held number leads to; 0 for any other step
abbrev pub reached : StepKind → ℕ → ℕ
reached (BeginCharge size) found = found + size
reached (AddHeld amount) found = found + amount
reached _ found = 0

-- what a step raises a peak to; 0 for any other step
abbrev pub raised_to : StepKind → ℕ
raised_to (RaisePeak to) = to
raised_to _ = 0

-- one where a step draws a number
abbrev pub draw_count : StepKind → ℕ
draw_count DrawChunkNumber = 1
draw_count _ = 0

-- the size of the charge that an entry begins
abbrev pub begun : Entry → ℕ
begun entry = size_begun entry.kind

-- the size of the chunk that an entry forgets
abbrev pub forgotten : Entry → ℕ
forgotten entry = size_forgotten entry.kind

-- one for an entry that draws
abbrev pub drawn : Entry → ℕ
drawn entry = draw_count entry.kind

-- one for an entry that draws this number
abbrev pub drew : ℕ → Entry → ℕ
drew number entry = if entry.found == number then draw_count entry.kind else 0

-- what an entry shows that the peak of an allocator has reached: what it found in the peak's word, and what it raised it to
abbrev pub peak_shown : ℕ → Entry → ℕ
peak_shown number entry = if entry.word == peak_word number then max entry.found (raised_to entry.kind) else 0

-- an entry stands in a history where its name says
abbrev pub InHistory : List Entry → Entry → Type 0
InHistory history entry = get_elem? history entry.name ≡ some entry
