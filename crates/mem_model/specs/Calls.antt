-- Lists of calls on a tree: what they answer and leave, the peaks that they raise, and the references that they give and give back.
use Rattle.std.specs.Prelude.{◌≡◌, ◌≢◌, ℕ, ◌+◌, ◌≤◌, ◌==◌, Bool, true, false, List, [], ◌∷◌, ◌++◌, All, if◌then◌else◌, is_ok, Result, Ok, Err, ⊤}
use Rattle.mem_num.specs.declared.bounds.TheConstants.{MAX_LIMIT, MAX_RESERVATION}
use Rattle.mem_num.specs.declared.alloc_id.AllocId.{AllocId}
use Rattle.mem_num.specs.declared.buffer_ref.Ref.{Ref}
use Rattle.mem_num.specs.declared.buffer_refused.BufferRefused.{BufferRefused}
use Rattle.mem_num.specs.declared.child_refused.ChildRefused.{ChildRefused}
use Rattle.mem_num.specs.declared.not_closed.NotClosed.{NotClosed}
use Rattle.mem_num.specs.declared.released.Released.{Released}
use Rattle.mem_num.specs.declared.solo_refused.SoloRefused.{SoloRefused}
use Rattle.mem_model.specs.Chunk.{Chunk, references_of}
use Rattle.mem_model.specs.Ledgers.{count_of}
use Rattle.mem_model.specs.MeasuredTree.{MeasuredTree, IsAfterCall}
use Rattle.mem_model.specs.PeakSample.{PeakSample}
use Rattle.mem_model.specs.TreeState.{TreeState, CallResult, is_open, held_at, uses_of}
use Rattle.mem_model.specs.Grant.{grant_result}
use Rattle.mem_model.specs.Child.{child_result}
use Rattle.mem_model.specs.Close.{close_result}
use Rattle.mem_model.specs.Retain.{retain_result}
use Rattle.mem_model.specs.Transfer.{transfer_result}
use Rattle.mem_model.specs.Release.{release_result}

-- a call on a tree, with its arguments, which names a reference by an R
pub data CallBy (R : Type 0) : Type 0 where
  Child : (parent : AllocId) → (reservation limit : ℕ) → CallBy R
  Close : (at : AllocId) → CallBy R
  Grant : (at : AllocId) → (request : ℕ) → CallBy R
  Retain : (of : R) → (target : AllocId) → CallBy R
  Transfer : (of : R) → (target : AllocId) → CallBy R
  Release : (of : R) → CallBy R

-- a call as a tree takes it
abbrev pub TreeCall : Type 0
TreeCall = CallBy Ref

-- what a call answers, by its kind
pub data CallAnswer : Type 0 where
  ToChild : (answer : Result AllocId ChildRefused) → CallAnswer
  ToClose : (answer : Result (Unit {0}) NotClosed) → CallAnswer
  ToGrant : (answer : Result Ref BufferRefused) → CallAnswer
  ToRetain : (answer : Result Ref SoloRefused) → CallAnswer
  ToTransfer : (answer : Result (Ref × Bool) SoloRefused) → CallAnswer
  ToRelease : (answer : Result Bool Released) → CallAnswer

-- what a call of one kind answers, among answers of all kinds
abbrev pub answered : {A : Type 0} → (A → CallAnswer) → CallResult A → CallResult CallAnswer
answered kind result = record { answer = kind result.answer; state = result.state; samples = result.samples }

-- what a call answers, leaves and samples
abbrev pub call_result : TreeState → TreeCall → CallResult CallAnswer
call_result state (Child parent reservation limit) = answered ToChild (child_result state parent reservation limit)
call_result state (Close at) = answered ToClose (close_result state at)
call_result state (Grant at request) = answered ToGrant (grant_result state at request)
call_result state (Retain of target) = answered ToRetain (retain_result state of target)
call_result state (Transfer of target) = answered ToTransfer (transfer_result state of target)
call_result state (Release of) = answered ToRelease (release_result state of)

-- the state that a call leaves, whatever it answers
abbrev pub after_call : TreeState → TreeCall → TreeState
after_call state call = (call_result state call).state

-- the state that the calls leave, one after the other
abbrev pub state_after : TreeState → List TreeCall → TreeState
state_after state [] = state
state_after state (call ∷ calls) = state_after (after_call state call) calls

-- what the calls answer, in their order
abbrev pub answers_of : TreeState → List TreeCall → List CallAnswer
answers_of state [] = []
answers_of state (call ∷ calls) = (call_result state call).answer ∷ answers_of (after_call state call) calls

-- the moments at which the calls measure peaks, the oldest first
abbrev pub samples_of : TreeState → List TreeCall → List PeakSample
samples_of state [] = []
samples_of state (call ∷ calls) = (call_result state call).samples ++ samples_of (after_call state call) calls

-- the calls lead from one tree with its peaks to another
abbrev pub LeadTo : MeasuredTree → List TreeCall → MeasuredTree → Type 0
LeadTo old [] new = new ≡ old
LeadTo old (call ∷ calls) new = (next : MeasuredTree) × IsAfterCall old (call_result old.state call) next × LeadTo next calls new

-- a call whose own numbers are within bounds: a child reserves at most 2^40 bytes, and its limit is below 2^63
abbrev pub IsBoundedCall : TreeCall → Type 0
IsBoundedCall (Child parent reservation limit) = (reservation ≤ MAX_RESERVATION) × (limit ≤ MAX_LIMIT)
IsBoundedCall _ = ⊤

abbrev pub AreBoundedCalls : List TreeCall → Type 0
AreBoundedCalls calls = All IsBoundedCall calls

-- one reference where a call answers Ok
abbrev pub one_if_ok : {A E : Type 0} → Result A E → ℕ
one_if_ok answer = if is_ok answer then 1 else 0

-- one reference where a buffer is granted; that of 0 bytes is to no chunk
abbrev pub granted_by : Result Ref BufferRefused → ℕ
granted_by (Ok reference) = if reference.size == 0 then 0 else 1
granted_by (Err refused) = 0

-- how many references a call gives
abbrev pub given_by : TreeState → TreeCall → ℕ
given_by state (Grant at request) = granted_by (grant_result state at request).answer
given_by state (Retain of target) = one_if_ok (retain_result state of target).answer
given_by state (Transfer of target) = one_if_ok (transfer_result state of target).answer
given_by state _ = 0

-- how many references a call gives back
abbrev pub returned_by : TreeState → TreeCall → ℕ
returned_by state (Release of) = one_if_ok (release_result state of).answer
returned_by state _ = 0

-- a number that each call has at the state that the earlier ones left, summed over the calls
abbrev pub sum_over : (TreeState → TreeCall → ℕ) → TreeState → List TreeCall → ℕ
sum_over number state [] = 0
sum_over number state (call ∷ calls) = number state call + sum_over number (after_call state call) calls

-- how many references the calls give
abbrev pub references_given : TreeState → List TreeCall → ℕ
references_given state calls = sum_over given_by state calls

-- how many references the calls give back
abbrev pub references_returned : TreeState → List TreeCall → ℕ
references_returned state calls = sum_over returned_by state calls

-- how many references there are, to all live chunks
abbrev pub references_in : TreeState → ℕ
references_in state = references_of state.chunks

-- the owner of a chunk is open, and refers to it
pub record HasOpenOwner (state : TreeState) (chunk : Chunk) : Type 0 where
  pub open_ : is_open state chunk.owner.0 ≡ true
  pub refers : 1 ≤ count_of chunk.ledgers chunk.owner.0

-- no allocator is open but the root
abbrev pub HasRootAlone : TreeState → Type 0
HasRootAlone state = (n : ℕ) → n ≢ 0 → is_open state n ≡ false

-- no chunk is live, and the root holds nothing and has no use
pub record IsEmptyTree (state : TreeState) : Type 0 where
  pub chunks : state.chunks ≡ []
  pub held : held_at state 0 ≡ 0
  pub uses : uses_of state 0 ≡ 0
