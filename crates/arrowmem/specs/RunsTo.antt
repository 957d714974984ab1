-- What a run of the program comes to: its status and its output, by the words of its command line and the files.
use Rattle.std.specs.Prelude.{◌≡◌, ◌≢◌, ℕ, List, ◌++◌, take, Option, Some, None}
use Rattle.mem_io.specs.Shelf.{Told, after_call}
use Rattle.query_model.specs.declared.cell.Cell.{Cell}
use Rattle.query_model.specs.declared.plan.Plan.{Plan}
use Rattle.arrowmem.specs.Words.{command_of, trace, query}
use Rattle.arrowmem.specs.Answers.{Answers}
use Rattle.arrowmem.specs.Files.{PlanFile, TableFile, QueryAsks}
use Rattle.arrowmem.specs.declared.status.Status.{Status}
use Rattle.arrowmem.specs.declared.status.Status.TheVariants.{WriteFault, NoMemory}

-- but for want of memory, words have at most one answer over some files: so each status comes just where its cause stands
abbrev pub WordsHaveOneAnswer : Type 0
WordsHaveOneAnswer =
    (words : List (List ℕ)) (files : Told) (one other : Status) (output output' : List ℕ) → Answers words files one output
    → Answers words files other output'
    → one ≢ NoMemory → other ≢ NoMemory → (one ≡ other) × (output ≡ output')

-- how the one call of the sink ends: an output is written whole, or a first part of it where the sink fails or finds no memory
pub data Delivers (status : Status) (output : List ℕ) : Status → List ℕ → Type 0 where
  whole : Delivers status output status output
  write_fault : (count : ℕ) → Delivers status output WriteFault (take count output)
  without_memory : (count : ℕ) → Delivers status output NoMemory (take count output)

-- a run ends with this status and these bytes: it has an answer, and delivers it
pub record RunsTo (words : List (List ℕ)) (files : Told) (ended : Status) (bytes : List ℕ) : Type 0 where
  pub status : Status
  pub output : List ℕ
  pub answers : Answers words files status output
  pub delivers : Delivers status output ended bytes

-- the sink has these bytes behind what it had, where it tells its bytes
abbrev pub Writes : Option (List ℕ) → Option (List ℕ) → List ℕ → Type 0
Writes None new bytes = Unit {0}
Writes (Some old) new bytes = new ≡ Some (old ++ bytes)

-- words are a query
pub record IsQuery (words : List (List ℕ)) : Type 0 where
  pub plan : List ℕ
  pub table : List ℕ
  pub command : command_of words ≡ Some (query plan table)

-- words are a query whose plan and rows are read from these files as these
pub record HasRows (words : List (List ℕ)) (files : Told) (plan : Plan) (rows : List (List Cell)) : Type 0 where
  pub name : List ℕ
  pub table : List ℕ
  pub command : command_of words ≡ Some (query name table)
  pub planned : PlanFile files name plan
  pub read : TableFile (after_call files) table plan rows

-- what a shelf tells after the calls of words: one for a script
pub data IsAsked (words : List (List ℕ)) (files : Told) : Option Told → Type 0 where
  traced : {name : List ℕ} → command_of words ≡ Some (trace name) → IsAsked words files (Some (after_call files))
  queried : {plan table : List ℕ} {after : Option Told} → command_of words ≡ Some (query plan table) → QueryAsks files plan after
      → IsAsked words files after
