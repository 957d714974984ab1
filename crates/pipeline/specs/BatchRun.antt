-- What the run of a batch comes to: calls that were planned, and what is held after them.
use Rattle.std.specs.Prelude.{◌≡◌, ◌+◌, ◌*◌, ◌≤◌, ℕ, suc, List, [], ◌∷◌, ◌++◌, All, length, map, sum, take, Option, Some, None, Result, Ok, Err}
use Rattle.mem_num.specs.declared.alloc_id.AllocId.{AllocId}
use Rattle.mem_num.specs.declared.buffer_ref.Ref.{Ref}
use Rattle.mem_num.specs.declared.buffer_refused.BufferRefused.TheVariants as buffer
use Rattle.mem_num.specs.declared.child_refused.ChildRefused.TheVariants as child
use Rattle.mem_num.specs.declared.full.Full.{Full as AnyFull}
use Rattle.mem_buf.specs.MemoryCall.{MemoryCall, Child, Grant}
use Rattle.mem_buf.specs.TokenView.{CanName, TokenView}
use Rattle.alloc_tree.specs.SoloCalls.{HasMemory}
use Rattle.alloc_tree.specs.SoloPlanned.{ArePlanned, given_at, reference_by}
use Rattle.batch_vec.specs.Batches.{BatchView}
use Rattle.batch_vec.specs.declared.refused.OpRefused.{OpRefused}
use Rattle.batch_vec.specs.declared.refused.OpRefused.TheVariants.{Full, NoMemory}
use Rattle.query_model.specs.Requests.{filter_id, project_id, rows_requests, scan_id, sums_id}
use Rattle.query_model.specs.SequentialCalls.{answer_places, answer_width, batch_calls, first_place, width}
use Rattle.query_model.specs.declared.cell.Cell.{Cell}
use Rattle.query_model.specs.declared.plan.Plan.{Plan}
use Rattle.pipeline.specs.Holding.{Leaves, IsBufferCall, turns_in}

-- the level that refused a call, with its numbers, if one did
abbrev pub full_of : MemoryCall → Option AnyFull
full_of (Child parent reservation limit (Err (child.Full full))) = Some full
full_of (Grant at request (Err (buffer.Full full))) = Some full
full_of _ = None

-- a call that no level refused, and that found memory
pub record IsDone (call : MemoryCall) : Type 0 where
  pub memory : HasMemory call
  pub granted : full_of call ≡ None

-- these references were given by the calls at some places, behind calls that gave others
abbrev pub StandAt : List Ref → List MemoryCall → List ℕ → List Ref → Type 0
StandAt given calls places references = map (given_at (given ++ map reference_by calls)) places ≡ references

-- the calls of a batch are those that were planned, whatever was given before them, and leave its part of the answer held
pub record IsBatchDone (plan : Plan) (rows : List (List Cell)) (holds : List Ref) (calls : List MemoryCall) : Type 0 where
  pub planned : (number : ℕ) (given : List Ref) → length given ≡ first_place plan number
      → ArePlanned given (batch_calls plan number rows) calls
  pub answer : (number : ℕ) (given : List Ref) → length given ≡ first_place plan number
      → StandAt given calls (answer_places plan number plan.output) holds
  pub done : All IsDone calls
  pub leaves : Leaves [] calls holds

-- a level refused a planned call of a batch, those before it were done, and all that was given was given back
pub record IsBatchRefused (plan : Plan) (rows : List (List Cell)) (told : AnyFull) (calls : List MemoryCall) : Type 0 where
  pub asked : List MemoryCall
  pub refused : MemoryCall
  pub returned : List MemoryCall
  pub order : calls ≡ asked ++ (refused ∷ returned)
  pub planned : (number : ℕ) (given : List Ref) → length given ≡ first_place plan number
      → ArePlanned given (take (suc (length asked)) (batch_calls plan number rows)) (asked ++ (refused ∷ []))
  pub done : All IsDone asked
  pub memory : HasMemory refused
  pub full : full_of refused ≡ Some told
  pub leaves : Leaves [] calls []

-- how many turns a batch may spend at most: the scan and the filter ask for two buffers a column, two of each column may move, and two of each
-- column of the answer are asked for
abbrev pub turns_a_batch : Plan → ℕ
turns_a_batch plan = 6 * width plan + 2 * answer_width plan

-- the allocators at which the operators of a batch keep what they have
abbrev pub operator_ids : List AllocId
operator_ids = scan_id ∷ filter_id ∷ project_id ∷ sums_id ∷ []

-- a token can run a batch of these rows: it pins the operators' allocators and can name them, and can pay for what is asked for
pub record CanRun (view : TokenView) (plan : Plan) (rows : List (List Cell)) : Type 0 where
  pub pinned : All (λ at. 1 ≤ view.pins at.0) operator_ids
  pub named : All (CanName view) operator_ids
  pub bytes : sum (map (λ request. request.amount) (rows_requests plan rows)) ≤ view.bytes
  pub turns : turns_a_batch plan ≤ view.turns

-- what the run of a batch comes to, by its answer; where memory runs out, all that was given is given back
abbrev pub IsBatchAnswer : {H : Type 0} → (H → Ref) → Plan → List (List Cell) → Result (BatchView H) OpRefused → List MemoryCall → Type 0
IsBatchAnswer reference plan rows (Ok batch) calls = IsBatchDone plan rows (map reference batch.holds) calls
IsBatchAnswer reference plan rows (Err (Full full)) calls = IsBatchRefused plan rows full calls
IsBatchAnswer reference plan rows (Err NoMemory) calls = Leaves [] calls []

pub record IsBatchRun {H : Type 0} (reference : H → Ref) (plan : Plan) (rows : List (List Cell))
    (answer : Result (BatchView H) OpRefused) (calls : List MemoryCall) : Type 0 where
  pub buffers : All IsBufferCall calls
  pub turns : turns_in calls ≤ turns_a_batch plan
  pub told : IsBatchAnswer reference plan rows answer calls
