-- Answers over a shelf that tells its files, and what a sink has after a call.
use Rattle.std.proofs.Common.{◌≡◌, ◌≢◌, ◌∙◌, arith, ℕ, List, Option, None, Some, Result, Ok, Err, IfOk, IfSome, sym, subst, take, codes, ap}
use Rattle.mem_io.specs.Shelf.{Told, after_call}
use Rattle.mem_io.specs.Sink.{Appends}
use Rattle.mem_io.specs.declared.sink.SinkFault.{SinkFault}
use Rattle.leak_report.specs.LawfulReport.{IsLawfulReport}
use Rattle.pipeline.specs.Query.{query_report}
use Rattle.query_model.specs.declared.cell.Cell.{Cell}
use Rattle.query_model.specs.declared.plan.Plan.{Plan}
use Rattle.arrowmem.specs.Words.{command_of, query, trace}
use Rattle.arrowmem.specs.Lines.{usage_text}
use Rattle.arrowmem.specs.Files.{PlanFile, QueryAsks, TableFile, input_of}
use Rattle.arrowmem.specs.Answers.{Answers, PlanAnswers, ScriptAnswers, no_memory, queried, traced, usage}
use Rattle.arrowmem.specs.RunsTo as run
use Rattle.arrowmem.specs.RunsTo.{Delivers, HasRows, IsAsked, write_fault, without_memory, RunsTo, Writes}
use Rattle.arrowmem.specs.Status.{code_of}
use Rattle.arrowmem.specs.Steps.{EndsAs}
use Rattle.arrowmem.specs.declared.status.Status.{Status}
use Rattle.arrowmem.specs.declared.status.Status.TheVariants as status

-- words without a reading
pub usage_answers : (words : List (List ℕ)) (told : Option Told) (output : List ℕ) → command_of words ≡ None → output ≡ usage_text
    → IfSome told (λ files. Answers words files status.Usage output)
usage_answers words None output none is = tt
usage_answers words (Some files) output none is = subst (Answers words files status.Usage) (sym is) (usage none)

module _ {E : Type 0} (words : List (List ℕ)) where
  -- the answer of a script
  pub trace_answers : (told : Option Told) (name output : List ℕ) (ended : Result Status E) → command_of words ≡ Some (trace name)
      → IfOk ended (λ status. IfSome told (λ files. ScriptAnswers name (input_of files name) status output))
      → IfOk ended (λ status. IfSome told (λ files. Answers words files status output))
  trace_answers told name output (Err e) named holds = tt
  trace_answers None name output (Ok ended) named holds = tt
  trace_answers (Some files) name output (Ok ended) named holds = traced named holds

  -- the answer of a query
  pub query_answers : (told : Option Told) (plan table output : List ℕ) (ended : Result Status E)
      → command_of words ≡ Some (query plan table)
      → IfOk ended (λ status. IfSome told (λ files. PlanAnswers files plan table (input_of files plan) status output))
      → IfOk ended (λ status. IfSome told (λ files. Answers words files status output))
  query_answers told plan table output (Err e) named holds = tt
  query_answers None plan table output (Ok ended) named holds = tt
  query_answers (Some files) plan table output (Ok ended) named holds = queried named holds

-- which calls the shelf had, and what holds of the plan and the rows that they gave
module _ (words : List (List ℕ)) where
  pub trace_asked : (told new : Option Told) (name : List ℕ) → command_of words ≡ Some (trace name)
      → IfSome told (λ files. new ≡ Some (after_call files))
      → IfSome told (λ files. command_of words ≢ None → IsAsked words files new)
  trace_asked None new name named asked = tt
  trace_asked (Some files) new name named asked = λ read. subst (IsAsked words files) (sym asked) (run.traced named)

  pub query_asked : (told new : Option Told) (plan table : List ℕ) → command_of words ≡ Some (query plan table)
      → IfSome told (λ files. QueryAsks files plan new)
      → IfSome told (λ files. command_of words ≢ None → IsAsked words files new)
  query_asked None new plan table named asked = tt
  query_asked (Some files) new plan table named asked = λ read. run.queried named asked

  -- words name one plan and one table
  same_plan : (plan table plan' table' : List ℕ) → command_of words ≡ Some (query plan table)
      → command_of words ≡ Some (query plan' table') → plan' ≡ plan
  same_plan plan table plan' table' named named' = cc

  same_table : (plan table plan' table' : List ℕ) → command_of words ≡ Some (query plan table)
      → command_of words ≡ Some (query plan' table') → table' ≡ table
  same_table plan table plan' table' named named' = cc

  pub query_lawful : {E : Type 0} (told : Option Told) (plan table : List ℕ) (ended : Result Status E)
      → command_of words ≡ Some (query plan table)
      → IfSome told (λ files. ended ≡ Ok status.Done → (read : Plan) (rows : List (List Cell)) → PlanFile files plan read
      → TableFile (after_call files) table read rows → IsLawfulReport (query_report read rows))
      → IfSome told (λ files. ended ≡ Ok status.Done → (read : Plan) (rows : List (List Cell)) → HasRows words files read rows
      → IsLawfulReport (query_report read rows))
  query_lawful None plan table ended named lawful = tt
  query_lawful (Some files) plan table ended named lawful = λ done read rows has.
      lawful done read rows
      (subst (λ n. PlanFile files n read) (same_plan plan table has.name has.table named has.command) has.planned)
      (subst (λ n. TableFile (after_call files) n read rows) (same_table plan table has.name has.table named has.command) has.read)

  pub query_table_asked : {E : Type 0} (told new : Option Told) (plan table : List ℕ) (ended : Result Status E)
      → command_of words ≡ Some (query plan table)
      → IfOk ended (λ status. IfSome told
      (λ files. (read : Plan) → PlanFile files plan read → new ≡ Some (after_call (after_call files))))
      → IfOk ended (λ status. IfSome told (λ files. (plan table : List ℕ) (read : Plan) → command_of words ≡ Some (query plan table)
      → PlanFile files plan read → new ≡ Some (after_call (after_call files))))
  query_table_asked told new plan table (Err e) named asked = tt
  query_table_asked None new plan table (Ok ended) named asked = tt
  query_table_asked (Some files) new plan table (Ok ended) named asked = λ plan' table' read named' file.
      asked read (subst (λ n. PlanFile files n read) (same_plan plan table plan' table' named named') file)

-- what is written behind what a sink had
pub wrote_all : (old new : Option (List ℕ)) (bytes : List ℕ) → IfSome old (λ o. Appends o new bytes (Ok tt)) → Writes old new bytes
wrote_all None new bytes h = tt
wrote_all (Some o) None bytes h = absurd h
wrote_all (Some o) (Some n) bytes h = ap Some h

pub wrote_some : (old new : Option (List ℕ)) (bytes : List ℕ) (fault : SinkFault) → IfSome old (λ o. Appends o new bytes (Err fault))
    → (count : ℕ) × Writes old new (take count bytes)
wrote_some None new bytes fault h = (0, tt)
wrote_some (Some o) None bytes fault h = absurd h
wrote_some (Some o) (Some n) bytes fault h = (h.0, ap Some h.1)

-- the statuses with which a sink may have taken a first part of an output
abbrev pub CutsShort : Status → Type 0
CutsShort status.WriteFault = Unit {0}
CutsShort status.NoMemory = Unit {0}
CutsShort ended = ⊥

-- an output of which a first part was taken is delivered with these
pub cut_short : (answer ended : Status) (output : List ℕ) (count : ℕ) → CutsShort ended → Delivers answer output ended (take count output)
cut_short answer status.WriteFault output count short = write_fault count
cut_short answer status.NoMemory output count short = without_memory count
cut_short answer _ output count short = absurd short

-- an answer that was delivered is a run
pub delivered : (words : List (List ℕ)) (told : Option Told) (old new : Option (List ℕ)) (answer ended : Status) (output : List ℕ)
    (code : ℕ) → IfSome told (λ files. Answers words files answer output) → code ≡ code_of ended
    → (bytes : List ℕ) × Delivers answer output ended bytes × Writes old new bytes
    → IfSome told (λ files. (s : Status) × (bytes : List ℕ) × (code ≡ code_of s) × RunsTo words files s bytes × Writes old new bytes)
delivered words None old new answer ended output code answers is sent = tt
delivered words (Some files) old new answer ended output code answers is (bytes, delivers, writes) =
    (ended, bytes, is, record { status = answer; output = output; answers = answers; delivers = delivers }, writes)

-- want of memory is always an answer
pub no_memory_answers : (words : List (List ℕ)) (told : Option Told)
    → IfSome told (λ files. Answers words files status.NoMemory (codes "no memory\n"))
no_memory_answers words None = tt
no_memory_answers words (Some files) = no_memory

-- a run that ends well has an answer that did
ended_done : (answer ended : Status) (rose : Type 0) → EndsAs answer ended rose → code_of ended ≡ 0 → answer ≡ status.Done
ended_done answer status.Done rose ends code = sym ends
ended_done answer status.Usage rose ends code = absurd (omega (arith, code))
ended_done answer status.Unreadable rose ends code = absurd (omega (arith, code))
ended_done answer status.Limit rose ends code = absurd (omega (arith, code))
ended_done answer status.ReadFault rose ends code = absurd (omega (arith, code))
ended_done answer status.WriteFault rose ends code = absurd (omega (arith, code))
ended_done answer status.TooLong rose ends code = absurd (omega (arith, code))
ended_done answer status.NoMemory rose ends code = absurd (omega (arith, code))

-- so what holds of the answer holds of the run
pub lawful_run : (E : Type 0) (words : List (List ℕ)) (told : Option Told) (answer ended : Status) (code : ℕ) (rose : Type 0)
    → EndsAs answer ended rose → code ≡ code_of ended
    → IfSome told (λ files. ◌≡◌ {A = Result Status E} (Ok answer) (Ok status.Done) → (plan : Plan) (rows : List (List Cell))
    → HasRows words files plan rows
    → IsLawfulReport (query_report plan rows))
    → IfSome told (λ files. code ≡ 0 → (plan : Plan) (rows : List (List Cell)) → HasRows words files plan rows
    → IsLawfulReport (query_report plan rows))
lawful_run E words None answer ended code rose ends is lawful = tt
lawful_run E words (Some files) answer ended code rose ends is lawful = λ zero. lawful
    (ap Ok (ended_done answer ended rose ends (sym is ∙ zero)))

-- the table was asked for, whatever the sink did
pub asked_anyway : (words : List (List ℕ)) (told new : Option Told) (code : ℕ)
    → IfSome told (λ files. (plan table : List ℕ) (read : Plan) → command_of words ≡ Some (query plan table) → PlanFile files plan read
    → new ≡ Some (after_call (after_call files)))
    → IfSome told (λ files. (plan table : List ℕ) (read : Plan) → command_of words ≡ Some (query plan table) → PlanFile files plan read
    → code ≢ 6 → code ≢ 8 → new ≡ Some (after_call (after_call files)))
asked_anyway words None new code asked = tt
asked_anyway words (Some files) new code asked = λ plan table read named file written memory. asked plan table read named file
