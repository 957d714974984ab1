-- What a call of `read` gives, over what a shelf tells.
use Rattle.std.specs.Prelude.{◌≡◌, ◌≢◌, ℕ, nat_lt, List, [], length, if◌then◌else◌, Option, Some, None, unwrap_or, option_map, find, Result, Ok, Err, codes}
use Rattle.std.specs.declared.io.Error.{Error}
use Rattle.std.specs.declared.io.ErrorKind.TheVariants.{OutOfMemory}
use Rattle.std.specs.IoError.{error_kind}
use Rattle.std.specs.Str.{bytes_eq}
use Rattle.mem_io.specs.Faults.{counted, Rose, FaultPlan, fails_next, plan_after}
use Rattle.mem_io.specs.declared.shelf.ShelfFault.{ShelfFault}
use Rattle.mem_io.specs.declared.shelf.ShelfFault.TheVariants.{Failed, TooLong, NoMemory}

-- what a shelf in memory tells: its files by name, and which calls are to fail
pub record Told : Type 0 where
  pub files : List (List ℕ × List ℕ)
  pub fault_plan : FaultPlan

-- the shelf after a call: one more was made, and nothing else has changed
abbrev pub after_call : Told → Told
after_call told = record told { fault_plan = plan_after told.fault_plan }

-- the bytes of the first file of that name
abbrev pub file_of : List (List ℕ × List ℕ) → List ℕ → Option (List ℕ)
file_of files name = option_map (λ file. file.1) (find (λ file. bytes_eq file.0 name) files)

-- the bytes on the shelf under that name, none where no file has it
abbrev pub bytes_of : Told → List ℕ → List ℕ
bytes_of told name = unwrap_or (file_of told.files name) []

-- the whole file, or why it isn't given: it isn't there, or is longer than the limit
abbrev pub within : Option (List ℕ) → ℕ → Result (List ℕ) ShelfFault
within None limit = Err Failed
within (Some bytes) limit = if nat_lt limit (length bytes) then Err TooLong else Ok bytes

-- what the next call gives for that name, where memory is ample
abbrev pub reading : Told → List ℕ → ℕ → Result (List ℕ) ShelfFault
reading told name limit = if fails_next told.fault_plan then Err Failed else within (file_of told.files name) limit

-- the call gave what was to be read, or memory ran out
abbrev pub Gives : Result (Unit {0}) ShelfFault → List ℕ → Result (List ℕ) ShelfFault → Type 0
Gives (Ok _) into reading = reading ≡ Ok into
Gives (Err Failed) into reading = reading ≡ Err Failed
Gives (Err TooLong) into reading = reading ≡ Err TooLong
Gives (Err NoMemory) into reading = Unit {0}

-- the error count rose where the call failed, and was left alone where it didn't
abbrev pub CountsFaults : ℕ → ℕ → Result (Unit {0}) ShelfFault → Type 0
CountsFaults before now (Ok _) = now ≡ before
CountsFaults before now (Err Failed) = Rose before now
CountsFaults before now (Err TooLong) = now ≡ before
CountsFaults before now (Err NoMemory) = now ≡ before

-- the error count after a call that counts itself once where it failed
abbrev pub faults_after : Result (Unit {0}) ShelfFault → ℕ → ℕ
faults_after (Ok _) before = before
faults_after (Err Failed) before = counted before
faults_after (Err TooLong) before = before
faults_after (Err NoMemory) before = before

-- the fault for an error of the system: want of memory is told apart, and any other error is a failure
abbrev pub IsFaultOf : Error → ShelfFault → Type 0
IsFaultOf error Failed = error_kind error ≢ OutOfMemory
IsFaultOf error TooLong = ⊥
IsFaultOf error NoMemory = error_kind error ≡ OutOfMemory

-- the printed text of a fault
abbrev pub fault_text : ShelfFault → List ℕ
fault_text Failed = codes "the input can't be read"
fault_text TooLong = codes "the input is too long"
fault_text NoMemory = codes "no memory"
