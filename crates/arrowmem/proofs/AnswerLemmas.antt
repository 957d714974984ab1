-- Words have one answer, file by file.
use Rattle.std.proofs.Common.{◌≡◌, ℕ, List, refl, ap, subst}
use Rattle.std.specs.Str.Lines.{lines}
use Rattle.mem_io.specs.Shelf.{Told, after_call}
use Rattle.mem_io.specs.declared.shelf.ShelfFault.{ShelfFault}
use Rattle.query_model.specs.declared.cell.Cell.{Cell}
use Rattle.query_model.specs.declared.column.Column.{Column}
use Rattle.query_model.specs.declared.plan.Plan.{Plan}
use Rattle.row_text.specs.Table.{IsTable, IsFirstBad}
use Rattle.plan_text.specs.Plans.{IsPlanText}
use Rattle.script.specs.Grammar.{TextsHaveOneReading}
use Rattle.script.specs.Trace.{trace_text}
use Rattle.script.specs.declared.form.Form.TheVariants.{Trace}
use Rattle.arrowmem.specs.Answers.{FaultAnswers, ScriptAnswers, RowsAnswer, TableAnswers, PlanAnswers}
use Rattle.arrowmem.specs.Answers.{read_fault, too_long, done, unreadable, fault, limit, bad_row, bad_plan}
use Rattle.arrowmem.specs.Answers.{usage, traced, queried, no_memory}
use Rattle.arrowmem.specs.Answers.{rows as is_table, plan as is_plan}
use Rattle.arrowmem.specs.Files.{Input, input_of}
use Rattle.arrowmem.specs.Lines.{unreadable_text, bad_row_text, refusal_text}
use Rattle.arrowmem.specs.RunsTo.{WordsHaveOneAnswer}
use Rattle.arrowmem.specs.declared.status.Status.{Status}

-- two answers are the same
abbrev AreSame : Status → Status → List ℕ → List ℕ → Type 0
AreSame one other output output' = (one ≡ other) × (output ≡ output')

-- a fault has one answer
fault_once : (name : List ℕ) (why : ShelfFault) (one other : Status) (output output' : List ℕ)
    → FaultAnswers name why one output → FaultAnswers name why other output' → AreSame one other output output'
fault_once name _ _ _ _ _ read_fault read_fault = (refl, refl)
fault_once name _ _ _ _ _ too_long too_long = (refl, refl)

-- an input has one answer as a script
script_once : TextsHaveOneReading → (name : List ℕ) (input : Input) (one other : Status) (output output' : List ℕ)
    → ScriptAnswers name input one output → ScriptAnswers name input other output' → AreSame one other output output'
script_once texts name _ _ _ _ _ (done {bytes = b} {script = s} is) (done {script = t} is') =
    (refl, ap trace_text (texts.script Trace (lines b) s t is is'))
script_once texts name _ _ _ _ _ (done {bytes = b} {script = s} is) (unreadable {line = l} first) =
    absurd (texts.apart Trace (lines b) l first s is)
script_once texts name _ _ _ _ _ (unreadable {bytes = b} {line = l} first) (done {script = s} is) =
    absurd (texts.apart Trace (lines b) l first s is)
script_once texts name _ _ _ _ _ (unreadable {bytes = b} {line = l} first) (unreadable {line = m} first') =
    (refl, ap (unreadable_text name) (texts.line Trace (lines b) l m first first'))
script_once texts name _ _ _ _ _ (fault one) (fault other) = fault_once name _ _ _ _ _ one other

-- rows have one answer
rows_once : (query : Plan) (table : List (List Cell)) (one other : Status) (output output' : List ℕ)
    → RowsAnswer query table one output → RowsAnswer query table other output' → AreSame one other output output'
rows_once query table _ _ _ _ (done granted) (done granted') = (refl, refl)
rows_once query table _ _ _ _ (done granted) (limit refused) = absurd cc
rows_once query table _ _ _ _ (limit refused) (done granted) = absurd cc
rows_once query table _ _ _ _ (limit {refusal = r} refused) (limit {refusal = s} refused') =
    let same : r ≡ s = cc in (refl, ap refusal_text same)

-- bytes are one table at most, or have one first bad row and are none
pub record TablesHaveOneReading : Type 0 where
  pub table : (columns : List Column) (bytes : List ℕ) (one other : List (List Cell))
      → IsTable columns bytes one → IsTable columns bytes other → one ≡ other
  pub row : (columns : List Column) (bytes : List ℕ) (one other : ℕ)
      → IsFirstBad columns bytes one → IsFirstBad columns bytes other → one ≡ other
  pub apart : (columns : List Column) (bytes : List ℕ) (table : List (List Cell)) (row : ℕ)
      → IsTable columns bytes table → IsFirstBad columns bytes row → ⊥

-- an input has one answer as the table of a plan
table_once : TablesHaveOneReading → (query : Plan) (name : List ℕ) (input : Input) (one other : Status) (output output' : List ℕ)
    → TableAnswers query name input one output → TableAnswers query name input other output' → AreSame one other output output'
table_once tables query name _ _ other _ output' (is_table {bytes = b} {rows = r} is answer) (is_table {rows = s} is' answer') =
    let same : s ≡ r = tables.table query.columns b s r is' is in
    rows_once query r _ _ _ _ answer (subst (λ table. RowsAnswer query table other output') same answer')
table_once tables query name _ _ _ _ _ (is_table {bytes = b} {rows = r} is answer) (bad_row row bad) =
    absurd (tables.apart query.columns b r row is bad)
table_once tables query name _ _ _ _ _ (bad_row row bad) (is_table {bytes = b} {rows = r} is answer) =
    absurd (tables.apart query.columns b r row is bad)
table_once tables query name _ _ _ _ _ (bad_row {bytes = b} row bad) (bad_row row' bad') =
    (refl, ap (bad_row_text name) (tables.row query.columns b row row' bad bad'))
table_once tables query name _ _ _ _ _ (fault one) (fault other) = fault_once name _ _ _ _ _ one other

-- bytes are one plan at most
abbrev pub BytesAreOnePlan : Type 0
BytesAreOnePlan = (bytes : List ℕ) (one other : Plan) → IsPlanText bytes one → IsPlanText bytes other → one ≡ other

-- an input has one answer as a plan
plan_once : BytesAreOnePlan → TablesHaveOneReading → (files : Told) (name table : List ℕ) (input : Input)
    (one other : Status) (output output' : List ℕ)
    → PlanAnswers files name table input one output → PlanAnswers files name table input other output' → AreSame one other output output'
plan_once plans tables files name table _ _ other _ output' (is_plan {bytes = b} {plan = p} is answer) (is_plan {plan = q} is' answer') =
    let same : q ≡ p = plans b q p is' is in
    table_once tables p table _ _ _ _ _ answer
    (subst (λ query. TableAnswers query table (input_of (after_call files) table) other output') same answer')
plan_once plans tables files name table _ _ _ _ _ (is_plan {plan = p} is answer) (bad_plan none) = absurd (none p is)
plan_once plans tables files name table _ _ _ _ _ (bad_plan none) (is_plan {plan = p} is answer) = absurd (none p is)
plan_once plans tables files name table _ _ _ _ _ (bad_plan none) (bad_plan none') = (refl, refl)
plan_once plans tables files name table _ _ _ _ _ (fault one) (fault other) = fault_once name _ _ _ _ _ one other

-- words name one command at most, and this has one answer but for want of memory
pub one_answer : TextsHaveOneReading → BytesAreOnePlan → TablesHaveOneReading → WordsHaveOneAnswer
one_answer texts plans tables words files _ _ _ _ no_memory answer memory memory' = absurd (memory refl)
one_answer texts plans tables words files _ _ _ _ answer no_memory memory memory' = absurd (memory' refl)
one_answer texts plans tables words files _ _ _ _ (usage none) (usage none') memory memory' = (refl, refl)
one_answer texts plans tables words files _ _ _ _ (usage none) (traced named answer) memory memory' = absurd cc
one_answer texts plans tables words files _ _ _ _ (usage none) (queried named answer) memory memory' = absurd cc
one_answer texts plans tables words files _ _ _ _ (traced named answer) (usage none) memory memory' = absurd cc
one_answer texts plans tables words files _ other _ output'
    (traced {name = n} named answer) (traced {name = m} named' answer') memory memory' =
    let same : m ≡ n = cc in
    script_once texts n _ _ _ _ _ answer (subst (λ name. ScriptAnswers name (input_of files name) other output') same answer')
one_answer texts plans tables words files _ _ _ _ (traced named answer) (queried named' answer') memory memory' = absurd cc
one_answer texts plans tables words files _ _ _ _ (queried named answer) (usage none) memory memory' = absurd cc
one_answer texts plans tables words files _ _ _ _ (queried named answer) (traced named' answer') memory memory' = absurd cc
one_answer texts plans tables words files _ other _ output'
    (queried {plan = p} {table = t} named answer) (queried {plan = q} {table = u} named' answer') memory memory' =
    let same_plan : q ≡ p = cc in
    let same_table : u ≡ t = cc in
    plan_once plans tables files p t _ _ _ _ _ answer
    (subst (λ table. PlanAnswers files p table (input_of files p) other output') same_table
    (subst (λ name. PlanAnswers files name u (input_of files name) other output') same_plan answer'))
