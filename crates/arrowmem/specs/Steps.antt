-- What the parts of the top call do.
use Rattle.std.specs.Prelude.{◌≡◌, ◌≢◌, ℕ, true}
use Rattle.mem_io.specs.Faults.{FaultPlan, Rose, fails_next}
use Rattle.mem_io.specs.declared.shelf.ShelfFault.{ShelfFault}
use Rattle.mem_io.specs.declared.shelf.ShelfFault.TheVariants.{Failed, TooLong as Longer, NoMemory as WithoutMemory}
use Rattle.arrowmem.specs.declared.status.Status.{Status}
use Rattle.arrowmem.specs.declared.status.Status.TheVariants.{Done, Unreadable, Limit, ReadFault, TooLong, WriteFault, NoMemory}

-- a call of the sink leaves the status, or ends with a write fault that rose its count, or finds no memory
abbrev pub EndsAs : Status → Status → Type 0 → Type 0
EndsAs status WriteFault rose = status ≢ WriteFault → rose
EndsAs status NoMemory rose = Unit {0}
EndsAs status ended rose = ended ≡ status

-- a call that is planned to fail does so, unless memory runs out
abbrev pub IsPlanned : FaultPlan → Status → Status → Type 0
IsPlanned plan status ended = (status ≢ WriteFault → ended ≡ WriteFault → fails_next plan ≡ true)
    × (fails_next plan ≡ true → ended ≢ NoMemory → ended ≡ WriteFault)

-- a status with which a script can end before anything is written
abbrev pub EndsScript : Status → Type 0
EndsScript Done = Unit {0}
EndsScript Unreadable = Unit {0}
EndsScript ReadFault = Unit {0}
EndsScript TooLong = Unit {0}
EndsScript status = ⊥

-- a status with which a query can end before anything is written
abbrev pub EndsQuery : Status → Type 0
EndsQuery Limit = Unit {0}
EndsQuery status = EndsScript status

-- the status that tells of a shelf's fault
abbrev pub status_of : ShelfFault → Status
status_of Failed = ReadFault
status_of Longer = TooLong
status_of WithoutMemory = NoMemory

-- the shelf's error count rose where a read fault is told, and was left alone otherwise
abbrev pub CountsReads : ℕ → ℕ → Status → Type 0
CountsReads before now ReadFault = Rose before now
CountsReads before now status = now ≡ before
