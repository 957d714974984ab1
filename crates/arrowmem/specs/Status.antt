-- The exit status of each way to end.
use Rattle.std.specs.Prelude.{ℕ}
use Rattle.arrowmem.specs.declared.status.Status.{Status}
use Rattle.arrowmem.specs.declared.status.Status.TheVariants.{Done, Usage, Unreadable, Limit, ReadFault, WriteFault, TooLong, NoMemory}

abbrev pub code_of : Status → ℕ
code_of Done = 0
code_of Usage = 2
code_of Unreadable = 3
code_of Limit = 4
code_of ReadFault = 5
code_of WriteFault = 6
code_of TooLong = 7
code_of NoMemory = 8
