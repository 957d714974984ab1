-- Which status and output words have over the files of a shelf, file by file as these are read.
use Rattle.std.specs.Prelude.{◌≡◌, ℕ, List, Some, None, Ok, Err, codes}
use Rattle.std.specs.Str.Lines.{lines}
use Rattle.mem_io.specs.Shelf.{Told, after_call}
use Rattle.mem_io.specs.declared.shelf.ShelfFault.{ShelfFault}
use Rattle.mem_io.specs.declared.shelf.ShelfFault.TheVariants.{Failed, TooLong as Longer}
use Rattle.query_model.specs.SequentialCalls.{FullBatch, sequential_refusal}
use Rattle.query_model.specs.declared.cell.Cell.{Cell}
use Rattle.query_model.specs.declared.plan.Plan.{Plan}
use Rattle.row_text.specs.Table.{IsTable, IsFirstBad}
use Rattle.plan_text.specs.Plans.{IsPlanText}
use Rattle.script.specs.Grammar.{ScriptParts, IsScript, IsFirstUnreadable}
use Rattle.script.specs.Trace.{trace_text}
use Rattle.script.specs.declared.form.Form.TheVariants.{Trace}
use Rattle.pipeline.specs.Query.{query_text}
use Rattle.arrowmem.specs.Words.{command_of, trace, query}
use Rattle.arrowmem.specs.Files.{Input, input_of}
use Rattle.arrowmem.specs.Lines.{usage_text, no_memory_text, file_line, unreadable_text, bad_row_text, refusal_text}
use Rattle.arrowmem.specs.declared.status.Status.{Status}
use Rattle.arrowmem.specs.declared.status.Status.TheVariants.{Done, Usage, Unreadable, Limit, ReadFault, TooLong, NoMemory}

-- a file of this name wasn't read
pub data FaultAnswers (name : List ℕ) : ShelfFault → Status → List ℕ → Type 0 where
  read_fault : FaultAnswers name Failed ReadFault (file_line (codes "read fault: ") name)
  too_long : FaultAnswers name Longer TooLong (file_line (codes "too long: ") name)

-- a script of this name was asked for: its bytes are a script or have a first unreadable line
pub data ScriptAnswers (name : List ℕ) : Input → Status → List ℕ → Type 0 where
  done : {bytes : List ℕ} {script : ScriptParts} → IsScript Trace (lines bytes) script
      → ScriptAnswers name (Ok bytes) Done (trace_text script)
  unreadable : {bytes : List ℕ} {line : ℕ} → IsFirstUnreadable Trace (lines bytes) line
      → ScriptAnswers name (Ok bytes) Unreadable (unreadable_text name line)
  fault : {fault : ShelfFault} {status : Status} {output : List ℕ} → FaultAnswers name fault status output
      → ScriptAnswers name (Err fault) status output

-- a query over these rows: its calls are all granted, or end at a refusal
pub data RowsAnswer (plan : Plan) (rows : List (List Cell)) : Status → List ℕ → Type 0 where
  done : sequential_refusal plan rows ≡ None → RowsAnswer plan rows Done (query_text plan rows)
  limit : {refusal : FullBatch} → sequential_refusal plan rows ≡ Some refusal → RowsAnswer plan rows Limit (refusal_text refusal)

-- a table of this name was asked for by a query with this plan: its bytes are a table or have a first bad row
pub data TableAnswers (plan : Plan) (name : List ℕ) : Input → Status → List ℕ → Type 0 where
  rows : {bytes : List ℕ} {rows : List (List Cell)} {status : Status} {output : List ℕ} → IsTable plan.columns bytes rows
      → RowsAnswer plan rows status output → TableAnswers plan name (Ok bytes) status output
  bad_row : {bytes : List ℕ} (row : ℕ) → IsFirstBad plan.columns bytes row
      → TableAnswers plan name (Ok bytes) Unreadable (bad_row_text name row)
  fault : {fault : ShelfFault} {status : Status} {output : List ℕ} → FaultAnswers name fault status output
      → TableAnswers plan name (Err fault) status output

-- a plan of this name was asked for: only where its bytes are a plan is the table asked for, by the next call
pub data PlanAnswers (files : Told) (name table : List ℕ) : Input → Status → List ℕ → Type 0 where
  plan : {bytes : List ℕ} {plan : Plan} {status : Status} {output : List ℕ} → IsPlanText bytes plan
      → TableAnswers plan table (input_of (after_call files) table) status output → PlanAnswers files name table (Ok bytes) status output
  bad_plan : {bytes : List ℕ} → ((plan : Plan) → IsPlanText bytes plan → ⊥)
      → PlanAnswers files name table (Ok bytes) Unreadable (file_line (codes "input: ") name)
  fault : {fault : ShelfFault} {status : Status} {output : List ℕ} → FaultAnswers name fault status output
      → PlanAnswers files name table (Err fault) status output

-- the status and the output that these words have over these files; want of memory may come at any time
pub data Answers (words : List (List ℕ)) (files : Told) : Status → List ℕ → Type 0 where
  usage : command_of words ≡ None → Answers words files Usage usage_text
  traced : {name : List ℕ} {status : Status} {output : List ℕ} → command_of words ≡ Some (trace name)
      → ScriptAnswers name (input_of files name) status output → Answers words files status output
  queried : {plan table : List ℕ} {status : Status} {output : List ℕ} → command_of words ≡ Some (query plan table)
      → PlanAnswers files plan table (input_of files plan) status output → Answers words files status output
  no_memory : Answers words files NoMemory no_memory_text
