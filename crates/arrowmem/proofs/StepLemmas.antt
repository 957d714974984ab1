-- What the parts of a run come to, over a shelf that may tell its files.
use Rattle.std.proofs.Common.{◌≡◌, ◌++◌, ℕ, List, [], codes, Option, None, Some, Result, Ok, Err, IfOk, IfSome, ap, sym, subst, ◌∙◌}
use Rattle.std.specs.Str.Lines.{lines}
use Rattle.mem_io.specs.Shelf.{Gives, Told, after_call, reading}
use Rattle.mem_io.specs.declared.shelf.ShelfFault.{ShelfFault}
use Rattle.mem_num.specs.declared.full.Full.{Full}
use Rattle.query_model.specs.SequentialCalls.{sequential_refusal}
use Rattle.query_model.specs.declared.cell.Cell.{Cell}
use Rattle.query_model.specs.declared.plan.Plan.{Plan}
use Rattle.plan_text.specs.Plans.{IsPlanText}
use Rattle.row_text.specs.Table.{IsFirstBad, IsTable}
use Rattle.script.specs.Grammar.{ScriptParts, IsScript, IsFirstUnreadable}
use Rattle.script.specs.Trace.{trace_text}
use Rattle.script.specs.declared.form.Form.TheVariants.{Trace}
use Rattle.leak_report.specs.LawfulReport.{IsLawfulReport}
use Rattle.pipeline.specs.Query.{query_report, query_text}
use Rattle.arrowmem.specs.Answers as answers
use Rattle.arrowmem.specs.Answers.{FaultAnswers, PlanAnswers, RowsAnswer, ScriptAnswers, TableAnswers}
use Rattle.arrowmem.specs.Files.{Input, PlanFile, QueryAsks, TableFile, both, input_of, max_input, plan_alone}
use Rattle.arrowmem.specs.Lines.{bad_row_text, file_line, refusal_text, unreadable_text}
use Rattle.arrowmem.specs.declared.status.Status.{Status}
use Rattle.arrowmem.specs.declared.status.Status.TheVariants as status

-- a script that was read
pub script_done : (name bytes old output : List ℕ) → old ≡ [] → (script : ScriptParts) × IsScript Trace (lines bytes) script
    × (output ≡ old ++ trace_text script)
    → ScriptAnswers name (Ok bytes) status.Done output
script_done name bytes old output empty (script, is, text) =
    subst (ScriptAnswers name (Ok bytes) status.Done) (sym (text ∙ ap (λ o. o ++ trace_text script) empty))
    (answers.ScriptAnswers.done is)

pub script_unreadable : (name bytes old output : List ℕ) (line : ℕ) → old ≡ [] → IsFirstUnreadable Trace (lines bytes) line
    → output ≡ old ++ unreadable_text name line → ScriptAnswers name (Ok bytes) status.Unreadable output
script_unreadable name bytes old output line empty first text =
    subst (ScriptAnswers name (Ok bytes) status.Unreadable) (sym (text ∙ ap (λ o. o ++ unreadable_text name line) empty))
    (answers.ScriptAnswers.unreadable first)

-- rows that a query was run over
pub rows_done : (plan : Plan) (rows : List (List Cell)) (old output : List ℕ) → old ≡ [] → sequential_refusal plan rows ≡ None
    → output ≡ old ++ query_text plan rows → RowsAnswer plan rows status.Done output
rows_done plan rows old output empty granted text =
    subst (RowsAnswer plan rows status.Done) (sym (text ∙ ap (λ o. o ++ query_text plan rows) empty)) (answers.RowsAnswer.done granted)

pub rows_refused : (plan : Plan) (rows : List (List Cell)) (full : Full) (batch : ℕ) (old output : List ℕ) → old ≡ []
    → sequential_refusal plan rows ≡ Some (record { full = full; batch = batch })
    → output ≡ old ++ refusal_text (record { full = full; batch = batch }) → RowsAnswer plan rows status.Limit output
rows_refused plan rows full batch old output empty refused text =
    subst (RowsAnswer plan rows status.Limit) (sym (text ∙ ap (λ o. o ++ refusal_text (record { full = full; batch = batch })) empty))
    (answers.RowsAnswer.limit refused)

-- the answer of a query over the rows of a table
pub rows_answer : {E : Type 0} (plan : Plan) (name bytes output : List ℕ) (rows : List (List Cell)) (ended : Result Status E)
    → IsTable plan.columns bytes rows → IfOk ended (λ status. RowsAnswer plan rows status output)
    → IfOk ended (λ status. TableAnswers plan name (Ok bytes) status output)
rows_answer plan name bytes output rows (Err e) read answer = tt
rows_answer plan name bytes output rows (Ok ended) read answer = answers.TableAnswers.rows read answer

-- a bad row
pub row_unreadable : (plan : Plan) (name bytes old output : List ℕ) (row : ℕ) → old ≡ [] → IsFirstBad plan.columns bytes row
    → output ≡ old ++ bad_row_text name row → TableAnswers plan name (Ok bytes) status.Unreadable output
row_unreadable plan name bytes old output row empty first text =
    subst (TableAnswers plan name (Ok bytes) status.Unreadable) (sym (text ∙ ap (λ o. o ++ bad_row_text name row) empty))
    (answers.TableAnswers.bad_row row first)

-- a fault that has a status is the one that was to come
fault_given : (files : Told) (name into output : List ℕ) (fault : ShelfFault) (ended : Status) → FaultAnswers name fault ended output
    → Gives (Err fault) into (reading files name max_input) → reading files name max_input ≡ Err fault
fault_given files name into _ _ _ answers.FaultAnswers.read_fault gives = gives
fault_given files name into _ _ _ answers.FaultAnswers.too_long gives = gives

module _ {E : Type 0} (told : Option Told) (name : List ℕ) (P : Told → Input → Status → List ℕ → Type 0) (ended : Result Status E)
    (output : List ℕ) where
  -- the answer over an input that was given
  pub given_answers : (bytes : List ℕ) → IfSome told (λ files. reading files name max_input ≡ Ok bytes)
      → IfOk ended (λ status. IfSome told (λ files. P files (Ok bytes) status output))
      → IfOk ended (λ status. IfSome told (λ files. P files (input_of files name) status output))
  given_answers bytes given holds = given_in told ended given holds where
    given_in : (told : Option Told) (ended : Result Status E) → IfSome told (λ files. reading files name max_input ≡ Ok bytes)
        → IfOk ended (λ status. IfSome told (λ files. P files (Ok bytes) status output))
        → IfOk ended (λ status. IfSome told (λ files. P files (input_of files name) status output))
    given_in told (Err e) given holds = tt
    given_in None (Ok ended) given holds = tt
    given_in (Some files) (Ok ended) given holds = subst (λ input. P files input ended output) (sym given) holds

  -- the answer over an input that wasn't given
  pub fault_answers : (into : List ℕ) (fault : ShelfFault)
      → ((files : Told) (status : Status) → FaultAnswers name fault status output → P files (Err fault) status output)
      → IfSome told (λ files. Gives (Err fault) into (reading files name max_input))
      → IfOk ended (λ status. FaultAnswers name fault status output)
      → IfOk ended (λ status. IfSome told (λ files. P files (input_of files name) status output))
  fault_answers into fault is gives holds = fault_in told ended gives holds where
    fault_in : (told : Option Told) (ended : Result Status E)
        → IfSome told (λ files. Gives (Err fault) into (reading files name max_input))
        → IfOk ended (λ status. FaultAnswers name fault status output)
        → IfOk ended (λ status. IfSome told (λ files. P files (input_of files name) status output))
    fault_in told (Err e) gives holds = tt
    fault_in None (Ok ended) gives holds = tt
    fault_in (Some files) (Ok ended) gives holds =
        subst (λ input. P files input ended output) (sym (fault_given files name into output fault ended holds gives))
        (is files ended holds)

-- what holds whatever a shelf tells
pub told_anyway : {E : Type 0} (told : Option Told) (ended : Result Status E) (P : Status → List ℕ → Type 0) (output : List ℕ)
    → IfOk ended (λ status. P status output) → IfOk ended (λ status. IfSome told (λ files. P status output))
told_anyway told (Err e) P output holds = tt
told_anyway None (Ok ended) P output holds = tt
told_anyway (Some files) (Ok ended) P output holds = holds

-- a report is lawful for the rows of a table, whichever derivation names them
pub lawful_rows : {E : Type 0} (plan : Plan) (bytes : List ℕ) (rows : List (List Cell)) (ended : Result Status E)
    → IsTable plan.columns bytes rows
    → ((one other : List (List Cell)) → IsTable plan.columns bytes one → IsTable plan.columns bytes other → one ≡ other)
    → (ended ≡ Ok status.Done → IsLawfulReport (query_report plan rows))
    → ended ≡ Ok status.Done → (others : List (List Cell)) → IsTable plan.columns bytes others → IsLawfulReport (query_report plan others)
lawful_rows plan bytes rows ended read once lawful done others table =
    subst (λ r. IsLawfulReport (query_report plan r)) (once rows others read table) (lawful done)

-- a call gives one input
same_input : (files : Told) (name one other : List ℕ) → input_of files name ≡ Ok one → reading files name max_input ≡ Ok other
    → one ≡ other
same_input files name one other given given' = cc

-- the same of the table of a file
pub lawful_table : {E : Type 0} (told : Option Told) (name bytes : List ℕ) (plan : Plan) (ended : Result Status E)
    → IfSome told (λ files. reading files name max_input ≡ Ok bytes)
    → (ended ≡ Ok status.Done → (rows : List (List Cell)) → IsTable plan.columns bytes rows → IsLawfulReport (query_report plan rows))
    → IfSome told (λ files. ended ≡ Ok status.Done → (rows : List (List Cell)) → TableFile files name plan rows
    → IsLawfulReport (query_report plan rows))
lawful_table None name bytes plan ended given lawful = tt
lawful_table (Some files) name bytes plan ended given lawful = λ done rows file.
    lawful done rows (subst (λ b. IsTable plan.columns b rows) (same_input files name file.bytes bytes file.given given) file.text)

-- a query whose plan was given by a shelf, which tells of the next call from then on
module _ (name table bytes : List ℕ) where
  -- its answer is the one over the table's file
  pub planned_answers : {E : Type 0} (told mid : Option Told) (plan : Plan) (ended : Result Status E) (output : List ℕ)
      → IfSome told (λ files. reading files name max_input ≡ Ok bytes) → IfSome told (λ files. mid ≡ Some (after_call files))
      → IsPlanText bytes plan
      → IfOk ended (λ status. IfSome mid (λ files. TableAnswers plan table (input_of files table) status output))
      → IfOk ended (λ status. IfSome told (λ files. PlanAnswers files name table (input_of files name) status output))
  planned_answers told mid plan (Err e) output given after text holds = tt
  planned_answers None mid plan (Ok ended) output given after text holds = tt
  planned_answers (Some files) mid plan (Ok ended) output given after text holds =
      let over : TableAnswers plan table (input_of (after_call files) table) ended output =
      subst (λ m. IfSome m (λ f. TableAnswers plan table (input_of f table) ended output)) after holds in
      subst (λ input. PlanAnswers files name table input ended output) (sym given) (answers.PlanAnswers.plan text over)

  -- its report is lawful, whichever plan and rows are read there
  pub planned_lawful : {E : Type 0} (told mid : Option Told) (plan : Plan) (ended : Result Status E)
      → IfSome told (λ files. reading files name max_input ≡ Ok bytes) → IfSome told (λ files. mid ≡ Some (after_call files))
      → IsPlanText bytes plan
      → ((one other : Plan) → IsPlanText bytes one → IsPlanText bytes other → one ≡ other)
      → IfSome mid (λ files. ended ≡ Ok status.Done → (rows : List (List Cell)) → TableFile files table plan rows
      → IsLawfulReport (query_report plan rows))
      → IfSome told (λ files. ended ≡ Ok status.Done → (read : Plan) (rows : List (List Cell)) → PlanFile files name read
      → TableFile (after_call files) table read rows → IsLawfulReport (query_report read rows))
  planned_lawful None mid plan ended given after text once lawful = tt
  planned_lawful (Some files) mid plan ended given after text once lawful = λ done read rows file held.
      let over : ended ≡ Ok status.Done → (rows : List (List Cell)) → TableFile (after_call files) table plan rows
      → IsLawfulReport (query_report plan rows) =
      subst (λ m. IfSome m (λ f. ended ≡ Ok status.Done → (rows : List (List Cell)) → TableFile f table plan rows
      → IsLawfulReport (query_report plan rows))) after lawful in
      let same : plan ≡ read = once plan read text
      (subst (λ b. IsPlanText b read) (same_input files name file.bytes bytes file.given given) file.text) in
      subst (λ p. IsLawfulReport (query_report p rows)) same
      (over done rows (subst (λ p. TableFile (after_call files) table p rows) (sym same) held))

  -- the shelf was asked for both files
  pub both_asked : (told mid new : Option Told) (plan : Plan) → IfSome told (λ files. reading files name max_input ≡ Ok bytes)
      → IfSome told (λ files. mid ≡ Some (after_call files)) → IsPlanText bytes plan → IfSome mid (λ files. new ≡ Some (after_call files))
      → IfSome told (λ files. QueryAsks files name new)
  both_asked None mid new plan given after text asked = tt
  both_asked (Some files) mid new plan given after text asked =
      let last : new ≡ Some (after_call (after_call files)) = subst (λ m. IfSome m (λ f. new ≡ Some (after_call f))) after asked in
      subst (QueryAsks files name) (sym last) (both (record { bytes = bytes; given = given; text = text }))

  -- bytes that are no plan, and the table isn't asked for
  pub bad_plan_answers : (told : Option Told) (output : List ℕ) → IfSome told (λ files. reading files name max_input ≡ Ok bytes)
      → ((plan : Plan) → IsPlanText bytes plan → ⊥) → output ≡ file_line (codes "input: ") name
      → IfSome told (λ files. PlanAnswers files name table (input_of files name) status.Unreadable output)
  bad_plan_answers None output given none text = tt
  bad_plan_answers (Some files) output given none text =
      subst (λ input. PlanAnswers files name table input status.Unreadable output) (sym given)
      (subst (PlanAnswers files name table (Ok bytes) status.Unreadable) (sym text) (answers.PlanAnswers.bad_plan none))

  pub bad_plan_asked : (told new : Option Told) → IfSome told (λ files. reading files name max_input ≡ Ok bytes)
      → ((plan : Plan) → IsPlanText bytes plan → ⊥)
      → IfSome told (λ files. (read : Plan) → PlanFile files name read → new ≡ Some (after_call (after_call files)))
  bad_plan_asked None new given none = tt
  bad_plan_asked (Some files) new given none = λ read file.
      absurd (none read (subst (λ b. IsPlanText b read) (same_input files name file.bytes bytes file.given given) file.text))

-- the shelf was asked for the plan alone
pub plan_asked : (told mid : Option Told) (name : List ℕ) → IfSome told (λ files. mid ≡ Some (after_call files))
    → IfSome told (λ files. QueryAsks files name mid)
plan_asked None mid name after = tt
plan_asked (Some files) mid name after = subst (QueryAsks files name) (sym after) plan_alone
