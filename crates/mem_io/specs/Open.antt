-- What an opener tells of its inputs, and what was read of one.
use Rattle.std.specs.Prelude.{◌≡◌, ℕ, List, Option, Some, None, Result, Ok, Err}
use Rattle.mem_io.specs.Shelf.{within}
use Rattle.mem_io.specs.declared.shelf.ShelfFault.{ShelfFault}
use Rattle.mem_io.specs.declared.shelf.ShelfFault.TheVariants.{Failed, TooLong, NoMemory}

-- there is such an input, and a reader that was opened has all its bytes before it
abbrev pub Opens : Option (List ℕ) → Option (List ℕ) → Type 0
Opens None left = ⊥
Opens (Some bytes) left = left ≡ Some bytes

-- Ok gave the whole input, and what is too long is longer than the limit; a failure may come at any time
abbrev pub ReadsInput : Result (Unit {0}) ShelfFault → List ℕ → Option (List ℕ) → ℕ → Type 0
ReadsInput (Ok _) into input limit = within input limit ≡ Ok into
ReadsInput (Err Failed) into input limit = Unit {0}
ReadsInput (Err TooLong) into input limit = within input limit ≡ Err TooLong
ReadsInput (Err NoMemory) into input limit = Unit {0}
