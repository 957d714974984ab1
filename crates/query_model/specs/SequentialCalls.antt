-- The calls that a query with one worker makes on its tree, up to the report. A call names a reference by the place of the call that
-- gives it, where the first call stands at 0.
use Rattle.std.specs.Prelude.{ℕ, ◌+◌, ◌-◌, ◌*◌, drop, ◌==◌, not, List, [], ◌∷◌, ◌++◌, map, filter, flat_map, length, slice_index_or, Option}
use Rattle.std.specs.Prelude.{Some, None, Result, Err}
use Rattle.std.specs.List.{range_with_len, list_any}
use Rattle.mem_num.specs.declared.alloc_id.AllocId.{AllocId}
use Rattle.mem_num.specs.declared.buffer_ref.Ref.{Ref}
use Rattle.mem_num.specs.declared.full.Full.{Full}
use Rattle.mem_num.specs.declared.buffer_refused.BufferRefused.{BufferRefused}
use Rattle.mem_num.specs.declared.buffer_refused.BufferRefused.TheVariants as buffer
use Rattle.mem_num.specs.declared.child_refused.ChildRefused.{ChildRefused}
use Rattle.mem_num.specs.declared.child_refused.ChildRefused.TheVariants as child
use Rattle.mem_model.specs.Calls.{Child, Grant, Transfer, Release, CallAnswer, ToChild, ToGrant}
use Rattle.mem_model.specs.PlannedCalls.{PlannedCall, run_planned}
use Rattle.mem_model.specs.TreeState.{CallResult, opened}
use Rattle.query_model.specs.declared.cell.Cell.{Cell}
use Rattle.query_model.specs.declared.kind.Kind.{Kind}
use Rattle.query_model.specs.declared.output.Output.{Output}
use Rattle.query_model.specs.declared.output.Output.TheVariants.{Select, Group}
use Rattle.query_model.specs.declared.plan.Plan.{Plan}
use Rattle.query_model.specs.Answer.{answer_of}
use Rattle.query_model.specs.Buffers.{buffer_lengths}
use Rattle.query_model.specs.Filter.{meeting}
use Rattle.query_model.specs.Requests.{scan_id, filter_id, project_id, sums_id, result_id, root_id, kinds_of, answer_kinds, batches_of}

-- a request for each buffer of rows, column by column
abbrev pub store_calls : AllocId → List Kind → List (List Cell) → List PlannedCall
store_calls at kinds rows = map (Grant at) (buffer_lengths kinds rows)

-- references are given back, one after the other
abbrev pub release_calls : List ℕ → List PlannedCall
release_calls places = map Release places

-- references move to an allocator, one after the other
abbrev pub move_calls : AllocId → List ℕ → List PlannedCall
move_calls target places = flat_map (λ place. Transfer place target ∷ Release place ∷ []) places

-- the places of the two references of each of these columns, where those of column 0 are `first` and the next
abbrev pub column_places : ℕ → List ℕ → List ℕ
column_places first columns = flat_map (λ column. range_with_len (first + 2 * column) 2) columns

-- the columns that aren't picked, of so many
abbrev pub unpicked : ℕ → List ℕ → List ℕ
unpicked columns picks = filter (λ column. not (list_any (λ pick. pick == column) picks)) (range_with_len 0 columns)

-- how many columns a plan's table has, and its answer
abbrev pub width : Plan → ℕ
width plan = length plan.columns

abbrev pub answer_width : Plan → ℕ
answer_width plan = length (answer_kinds plan)

-- how many calls each batch makes, if none is refused: for each column two buffers are stored and given back by the scan and by the
-- filter; and two of each column of the answer are moved, or stored
abbrev pub calls_a_batch : Plan → ℕ
calls_a_batch plan = 8 * width plan + 2 * answer_width plan

-- the place of the first call of a batch, where batches are numbered from 1; the children of the root stand before them
abbrev pub first_place : Plan → ℕ → ℕ
first_place plan batch = length plan.reserves + calls_a_batch plan * (batch - 1)

-- the places of the references of its scan, and of its filter
abbrev pub scan_places : Plan → ℕ → List ℕ
scan_places plan batch = range_with_len (first_place plan batch) (2 * width plan)

abbrev pub filter_places : Plan → ℕ → List ℕ
filter_places plan batch = range_with_len (first_place plan batch + 2 * width plan) (2 * width plan)

-- the places of the references of its part of the answer: of the transfers, behind each of which stands a release; or of the groups
abbrev pub answer_places : Plan → ℕ → Output → List ℕ
answer_places plan batch (Select picks) =
    map (λ i. first_place plan batch + 6 * width plan + 2 * i) (range_with_len 0 (2 * answer_width plan))
answer_places plan batch (Group key sums) = range_with_len (first_place plan batch + 6 * width plan) (2 * answer_width plan)

-- what becomes of the rows that met the tests: picked columns move and the others go; or groups are stored and all columns go
abbrev pub output_calls : Plan → List (List Cell) → ℕ → Output → List PlannedCall
output_calls plan rows batch (Select picks) =
    let first = first_place plan batch + 2 * width plan in
    move_calls project_id (column_places first picks) ++ release_calls (column_places first (unpicked (width plan) picks))
output_calls plan rows batch (Group key sums) =
    store_calls sums_id (answer_kinds plan) (answer_of plan rows) ++ release_calls (filter_places plan batch)

-- the calls for the rows of a batch
abbrev pub batch_calls : Plan → ℕ → List (List Cell) → List PlannedCall
batch_calls plan batch rows =
    store_calls scan_id (kinds_of plan.columns) rows
    ++ (store_calls filter_id (kinds_of plan.columns) (meeting plan.tests rows)
    ++ (release_calls (scan_places plan batch)
    ++ output_calls plan rows batch plan.output))

-- the merge of batches: their answers move to the result; or the groups of all rows are stored there and theirs go
abbrev pub merge_calls : Plan → List (List Cell) → List ℕ → Output → List PlannedCall
merge_calls plan rows batches (Select picks) =
    flat_map (λ batch. move_calls result_id (answer_places plan batch (Select picks))) batches
merge_calls plan rows batches (Group key sums) =
    store_calls result_id (answer_kinds plan) (answer_of plan rows)
    ++ flat_map (λ batch. release_calls (answer_places plan batch (Group key sums))) batches

-- a child of the root for each reservation, with the limit beside it
abbrev pub opening_calls : List ℕ → List ℕ → List PlannedCall
opening_calls (limit ∷ limits) (reservation ∷ reserves) = Child root_id reservation limit ∷ opening_calls limits reserves
opening_calls limits reserves = []

-- a call with its batch; batch 0 is the opening and the merge
pub record BatchCall : Type 0 where
  pub batch : ℕ
  pub call : PlannedCall

-- calls of one batch
abbrev pub in_batch : ℕ → List PlannedCall → List BatchCall
in_batch batch calls = map (λ call. record { batch = batch; call = call }) calls

-- the calls of batches from this number on, one after the other
abbrev pub calls_from : Plan → ℕ → List (List (List Cell)) → List BatchCall
calls_from plan batch [] = []
calls_from plan batch (rows ∷ later) = in_batch batch (batch_calls plan batch rows) ++ calls_from plan (batch + 1) later

-- all calls of a query with one worker, if none is refused
abbrev pub sequential_calls : Plan → List (List Cell) → List BatchCall
sequential_calls plan rows =
    in_batch 0 (opening_calls (drop 1 plan.limits) plan.reserves)
    ++ (calls_from plan 1 (batches_of plan rows)
    ++ in_batch 0 (merge_calls plan rows (range_with_len 1 (length (batches_of plan rows))) plan.output))

-- the numbers of an answer that says that a level is full
abbrev pub full_child : Result AllocId ChildRefused → Option Full
full_child (Err (child.Full full)) = Some full
full_child _ = None

abbrev pub full_buffer : Result Ref BufferRefused → Option Full
full_buffer (Err (buffer.Full full)) = Some full
full_buffer _ = None

abbrev pub full_in : CallAnswer → Option Full
full_in (ToChild answer) = full_child answer
full_in (ToGrant answer) = full_buffer answer
full_in _ = None

-- a refusal, with the batch in which it came
pub record FullBatch : Type 0 where
  pub full : Full
  pub batch : ℕ

-- the refusal of this answer, or else the one that comes later
abbrev pub full_or : ℕ → Option Full → Option FullBatch → Option FullBatch
full_or batch None later = later
full_or batch (Some full) later = Some (record { full = full; batch = batch })

-- the first answer that says that a level is full, with the batch of its call
abbrev pub first_full : List ℕ → List CallAnswer → Option FullBatch
first_full (batch ∷ batches) (answer ∷ answers) = full_or batch (full_in answer) (first_full batches answers)
first_full batches answers = None

-- what the calls come to on a tree with the plan's root
abbrev pub sequential_run : Plan → List (List Cell) → CallResult (List CallAnswer)
sequential_run plan rows =
    run_planned (opened (slice_index_or plan.limits 0 0)) (map (λ one. one.call) (sequential_calls plan rows))

-- the first refusal, which ends a query with one worker; without one, its tree is that of `sequential_run`
abbrev pub sequential_refusal : Plan → List (List Cell) → Option FullBatch
sequential_refusal plan rows = first_full (map (λ one. one.batch) (sequential_calls plan rows)) (sequential_run plan rows).answer
