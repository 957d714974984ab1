-- What a call of `write` leaves, over what a sink tells.
use Rattle.std.specs.Prelude.{◌≡◌, ◌≢◌, ℕ, List, ◌++◌, true, false, Option, Some, None, Result, Ok, Err, take, codes}
use Rattle.std.specs.declared.io.Error.{Error}
use Rattle.std.specs.declared.io.ErrorKind.TheVariants.{OutOfMemory}
use Rattle.std.specs.IoError.{error_kind}
use Rattle.mem_io.specs.Faults.{counted, Rose, FaultPlan, fails_next}
use Rattle.mem_io.specs.declared.sink.SinkFault.{SinkFault}
use Rattle.mem_io.specs.declared.sink.SinkFault.TheVariants.{Failed, NoMemory}

-- the bytes written are the old ones and then these, or a front of these where the call isn't Ok
abbrev pub Appends : List ℕ → Option (List ℕ) → List ℕ → Result (Unit {0}) SinkFault → Type 0
Appends old None bytes result = ⊥
Appends old (Some new) bytes (Ok _) = new ≡ old ++ bytes
Appends old (Some new) bytes (Err fault) = (count : ℕ) × (new ≡ old ++ take count bytes)

-- the call failed exactly where the plan says so, unless memory ran out
abbrev pub Follows : FaultPlan → Result (Unit {0}) SinkFault → Type 0
Follows plan (Ok _) = fails_next plan ≡ false
Follows plan (Err Failed) = fails_next plan ≡ true
Follows plan (Err NoMemory) = Unit {0}

-- the error count rose where the call failed, and was left alone where it didn't
abbrev pub CountsFaults : ℕ → ℕ → Result (Unit {0}) SinkFault → Type 0
CountsFaults before now (Ok _) = now ≡ before
CountsFaults before now (Err Failed) = Rose before now
CountsFaults before now (Err NoMemory) = now ≡ before

-- the error count after a call that counts itself once where it failed
abbrev pub faults_after : Result (Unit {0}) SinkFault → ℕ → ℕ
faults_after (Ok _) before = before
faults_after (Err Failed) before = counted before
faults_after (Err NoMemory) before = before

-- the fault for an error of the system: want of memory is told apart, and any other error is a failure
abbrev pub IsFaultOf : Error → SinkFault → Type 0
IsFaultOf error Failed = error_kind error ≢ OutOfMemory
IsFaultOf error NoMemory = error_kind error ≡ OutOfMemory

-- the printed text of a fault
abbrev pub fault_text : SinkFault → List ℕ
fault_text Failed = codes "the output can't be written"
fault_text NoMemory = codes "no memory"
