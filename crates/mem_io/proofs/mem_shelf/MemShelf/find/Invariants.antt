-- None of the files so far has the name: what is found among the rest is found among all.
use Rattle.std.proofs.Common.{◌≡◌, drop}
use Rattle.mem_io.specs.Shelf.{file_of}
use Rattle.mem_io.specs.MemShelf.{files_of}
use Rattle.mem_io.proofs.mem_shelf.MemShelf.find.Given as goal

abbrev pub invariant-loop-file : goal.invariant-loop-file
invariant-loop-file l = file_of (files_of (drop l.file-index l.file-items)) l.name ≡ file_of (files_of l.file-items) l.name
