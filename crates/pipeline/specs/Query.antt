-- What a query prints: its answer as a table, the report of its tree, and how many allocators were closed.
use Rattle.std.specs.Prelude.{ℕ, List, [], ◌∷◌, ◌++◌, map, slice_get, codes, decimal}
use Rattle.std.specs.Option.{option_map_or}
use Rattle.mem_num.specs.declared.alloc_id.AllocId.{AllocId}
use Rattle.mem_model.specs.PeakSample.{peak_of}
use Rattle.alloc_tree.specs.Names.{root_binding}
use Rattle.leak_report.specs.ReportText.{report_text}
use Rattle.query_model.specs.Answer.{answer_of}
use Rattle.query_model.specs.Requests.{scan_id, filter_id, project_id, sums_id, result_id}
use Rattle.query_model.specs.SequentialCalls.{sequential_run}
use Rattle.query_model.specs.declared.cell.Cell.{Cell}
use Rattle.query_model.specs.declared.column.Column.{Column}
use Rattle.query_model.specs.declared.output.Output.{Output}
use Rattle.query_model.specs.declared.output.Output.TheVariants.{Select, Group}
use Rattle.query_model.specs.declared.plan.Plan.{Plan}
use Rattle.row_text.specs.Answer.{table_text}

-- the name of the column of a number; past the last column, none
abbrev pub name_at : List Column → ℕ → List ℕ
name_at columns place = option_map_or (λ column. column.name) (slice_get columns place) []

-- the names of an answer's columns: those that are picked, or the key's, and for each sum its column's behind `sum_`
abbrev pub output_header : List Column → Output → List (List ℕ)
output_header columns (Select picks) = map (name_at columns) picks
output_header columns (Group key sums) = name_at columns key ∷ map (λ sum. codes "sum_" ++ name_at columns sum) sums

abbrev pub header_of : Plan → List (List ℕ)
header_of plan = output_header plan.columns plan.output

-- the names of a query's allocators
abbrev pub query_names : List (List ℕ × AllocId)
query_names =
    root_binding ∷ (codes "scan", scan_id) ∷ (codes "filter", filter_id) ∷ (codes "project", project_id)
    ∷ (codes "sums", sums_id) ∷ (codes "result", result_id) ∷ []

-- the answer of a query
abbrev pub answer_text : Plan → List (List Cell) → List ℕ
answer_text plan rows = table_text (header_of plan) (answer_of plan rows)

-- the report of the tree of a query with one worker, before its result is given back
abbrev pub query_report : Plan → List (List Cell) → List ℕ
query_report plan rows =
    let run = sequential_run plan rows in
    report_text (query_names ∷ []) (peak_of run.samples) run.state

-- how many allocators were closed
abbrev pub closed_text : ℕ → List ℕ
closed_text count = codes "closed " ++ (decimal count ++ codes "\n")

-- what a query with one worker prints: all six allocators close
abbrev pub query_text : Plan → List (List Cell) → List ℕ
query_text plan rows = answer_text plan rows ++ (query_report plan rows ++ closed_text 6)
