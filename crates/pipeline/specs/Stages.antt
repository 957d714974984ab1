-- What the run of all batches comes to, and the merge: calls that were planned, and what is held after them.
use Rattle.std.specs.Prelude.{◌≡◌, ◌*◌, ◌<◌, ◌≤◌, ℕ, suc, List, [], ◌∷◌, ◌++◌, All, length, map, take, Some, ⊤}
use Rattle.std.specs.List.{flat_map, range_with_len}
use Rattle.mem_num.specs.declared.bounds.TheConstants.{LARGEST}
use Rattle.mem_num.specs.declared.buffer_ref.Ref.{Ref}
use Rattle.mem_num.specs.declared.full.Full.{Full as AnyFull}
use Rattle.mem_model.specs.MeasuredTree.{MeasuredTree}
use Rattle.mem_buf.specs.MemoryCall.{MemoryCall}
use Rattle.alloc_tree.specs.SoloCalls.{HasMemory}
use Rattle.alloc_tree.specs.SoloPlanned.{ArePlanned, given_at}
use Rattle.alloc_tree.specs.SoloView.{solo_view}
use Rattle.batch_vec.specs.Batches.{BatchView}
use Rattle.query_model.specs.Answer.{answer_of}
use Rattle.query_model.specs.Buffers.{buffer_lengths}
use Rattle.query_model.specs.Cells.{IsRow}
use Rattle.query_model.specs.Requests.{answer_kinds, batches_of, kinds_of}
use Rattle.query_model.specs.declared.bounds.TheConstants.{MOST_ROWS}
use Rattle.query_model.specs.SequentialCalls.{BatchCall, answer_places, calls_from, first_place, merge_calls}
use Rattle.query_model.specs.declared.cell.Cell.{Cell}
use Rattle.query_model.specs.declared.plan.Plan.{Plan}
use Rattle.batch_vec.specs.declared.refused.OpRefused.{OpRefused}
use Rattle.batch_vec.specs.declared.refused.OpRefused.TheVariants as operator
use Rattle.pipeline.specs.BatchRun.{IsDone, StandAt, full_of, turns_a_batch}
use Rattle.pipeline.specs.Holding.{IsBufferCall, Leaves, turns_in}
use Rattle.pipeline.specs.declared.refused.QueryRefused.{QueryRefused}
use Rattle.pipeline.specs.declared.refused.QueryRefused.TheVariants.{Full, NoMemory}

-- the places of the references of all batches' parts of the answer, in order
abbrev pub parts_places : Plan → ℕ → List ℕ
parts_places plan count = flat_map (λ batch. answer_places plan batch plan.output) (range_with_len 1 count)

-- the calls of all batches are those that were planned, and leave their parts of the answer held
pub record AreBatchesDone (plan : Plan) (rows : List (List Cell)) (holds : List Ref) (calls : List MemoryCall) : Type 0 where
  pub planned : (given : List Ref) → length given ≡ first_place plan 1
      → ArePlanned given (map (λ one. one.call) (calls_from plan 1 (batches_of plan rows))) calls
  pub stand : (given : List Ref) → length given ≡ first_place plan 1
      → StandAt given calls (parts_places plan (length (batches_of plan rows))) holds
  pub done : All IsDone calls
  pub buffers : All IsBufferCall calls
  pub leaves : Leaves [] calls holds

-- a level refused a planned call of a batch, and those before it were done; what came behind it may be any calls
pub record IsPlanRefused (plans : List BatchCall) (least : ℕ) (told : AnyFull) (batch : ℕ) (calls : List MemoryCall) : Type 0 where
  pub asked : List MemoryCall
  pub refused : MemoryCall
  pub later : List MemoryCall
  pub before : List BatchCall
  pub one : BatchCall
  pub after : List BatchCall
  pub order : calls ≡ asked ++ (refused ∷ later)
  pub plans_are : plans ≡ before ++ (one ∷ after)
  pub batch_is : one.batch ≡ batch
  pub planned : (given : List Ref) → length given ≡ least
      → ArePlanned given (map (λ b. b.call) (before ++ (one ∷ []))) (asked ++ (refused ∷ []))
  pub done : All IsDone asked
  pub memory : HasMemory refused
  pub full : full_of refused ≡ Some told

-- what the run of all batches comes to, by its refusal, if one came
abbrev pub IsBatchesRefusal : Plan → List (List Cell) → QueryRefused → List MemoryCall → Type 0
IsBatchesRefusal plan rows (Full full batch) calls =
    IsPlanRefused (calls_from plan 1 (batches_of plan rows)) (first_place plan 1) full batch calls
IsBatchesRefusal plan rows NoMemory calls = ⊤

-- the calls of the merge are those that were planned, behind calls that gave the parts of the answer, and leave the answer held
pub record IsMergeDone (plan : Plan) (rows : List (List Cell)) (sources holds : List Ref) (calls : List MemoryCall) : Type 0 where
  pub planned : (given : List Ref) (count : ℕ) → map (given_at given) (parts_places plan count) ≡ sources
      → All (λ place. place < length given) (parts_places plan count)
      → ArePlanned given (merge_calls plan rows (range_with_len 1 count) plan.output) calls
  pub done : All IsDone calls
  pub buffers : All IsBufferCall calls
  pub leaves : Leaves sources calls holds

-- a level refused a planned call of the merge
pub record IsMergeRefused (plan : Plan) (rows : List (List Cell)) (told : AnyFull) (calls : List MemoryCall) : Type 0 where
  pub asked : List MemoryCall
  pub refused : MemoryCall
  pub later : List MemoryCall
  pub order : calls ≡ asked ++ (refused ∷ later)
  pub within : (count : ℕ) → suc (length asked) ≤ length (merge_calls plan rows (range_with_len 1 count) plan.output)
  pub planned : (given : List Ref) (count : ℕ)
      → ArePlanned given (take (suc (length asked)) (merge_calls plan rows (range_with_len 1 count) plan.output)) (asked ++ (refused ∷ []))
  pub done : All IsDone asked
  pub memory : HasMemory refused
  pub full : full_of refused ≡ Some told

-- what the merge comes to, by its refusal, if one came
abbrev pub IsMergeRefusal : Plan → List (List Cell) → QueryRefused → List MemoryCall → Type 0
IsMergeRefusal plan rows (Full full batch) calls = (batch ≡ 0) × IsMergeRefused plan rows full calls
IsMergeRefusal plan rows NoMemory calls = ⊤

-- a tree on which a query can begin: each of its allocators is open, and calls are left for all batches
pub record CanBegin (tree : MeasuredTree) : Type 0 where
  pub pins : (k : ℕ) → k ≤ 5 → 1 ≤ (solo_view tree).pins k
  pub turns : 4294967289 ≤ (solo_view tree).turns

-- batches are the parts of an answer: each has the kinds of its columns, and the rows that a batch of the table answers
pub record AreParts {H : Type 0} (plan : Plan) (rows : List (List Cell)) (batches : List (BatchView H)) : Type 0 where
  pub kinds : All (λ batch. batch.kinds ≡ answer_kinds plan) batches
  pub rows_are : map (λ batch. batch.rows) batches ≡ map (answer_of plan) (batches_of plan rows)

-- rows of a table whose buffers can be asked for
pub record AreStorable (plan : Plan) (rows : List (List Cell)) : Type 0 where
  pub typed : All (IsRow (kinds_of plan.columns)) rows
  pub few : length rows ≤ MOST_ROWS
  pub sized : All (λ length. length ≤ LARGEST) (buffer_lengths (kinds_of plan.columns) rows)

-- a tree on which so many batches can be run: each of its allocators is open, and calls are left for them
pub record CanRunMore (plan : Plan) (count : ℕ) (tree : MeasuredTree) : Type 0 where
  pub pins : (k : ℕ) → k ≤ 5 → 1 ≤ (solo_view tree).pins k
  pub turns : count * turns_a_batch plan ≤ (solo_view tree).turns

-- the refusal of a batch, with its number
abbrev pub refusal_in : OpRefused → ℕ → QueryRefused
refusal_in (operator.Full full) number = Full full number
refusal_in operator.NoMemory number = NoMemory

-- the calls of a batch that gave back all that it had
pub record IsReturned (plan : Plan) (calls : List MemoryCall) : Type 0 where
  pub buffers : All IsBufferCall calls
  pub turns : turns_in calls ≤ turns_a_batch plan
  pub leaves : Leaves [] calls []
