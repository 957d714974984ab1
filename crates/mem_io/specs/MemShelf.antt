-- What a shelf in memory tells, and what a call leaves.
use Rattle.std.specs.Prelude.{ℕ, ◌+◌, List, [], Result, Ok, Err, String, Vec, string_bytes, map, take}
use Rattle.std.specs.declared.alloc.Global.{Global}
use Rattle.mem_io.specs.Shelf.{Told}
use Rattle.mem_io.specs.declared.mem_shelf.MemShelf.{MemShelf}
use Rattle.mem_io.specs.declared.shelf.ShelfFault.{ShelfFault}
use Rattle.mem_io.specs.declared.shelf.ShelfFault.TheVariants.{Failed, TooLong, NoMemory}

-- pairs of a name and a file, by their bytes
abbrev pub files_of : List (String Global × Vec ℕ Global) → List (List ℕ × List ℕ)
files_of files = map (λ file. (string_bytes file.0, file.1.items)) files

-- its files, and which of its calls are to fail
abbrev pub told_of : MemShelf → Told
told_of shelf = record { files = files_of shelf.files.items; fault_plan = record { failing = shelf.failing.items; calls = shelf.calls } }

-- what a call has taken of these bytes: all, one more than the limit, or none
abbrev pub taken : Result (Unit {0}) ShelfFault → ℕ → List ℕ → List ℕ
taken (Ok _) limit bytes = bytes
taken (Err Failed) limit bytes = []
taken (Err TooLong) limit bytes = take (limit + 1) bytes
taken (Err NoMemory) limit bytes = []
