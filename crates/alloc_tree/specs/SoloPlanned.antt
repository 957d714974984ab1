-- Calls of a memory that were planned before they ran.
use Rattle.std.specs.Prelude.{◌≡◌, ◌≤◌, ℕ, Bool, List, [], ◌∷◌, ◌++◌, All, slice_index_or, Result, Ok, ⊤}
use Rattle.mem_num.specs.declared.bounds.TheConstants.{MAX_LIMIT, MAX_RESERVATION}
use Rattle.mem_num.specs.declared.alloc_id.AllocId.{AllocId}
use Rattle.mem_num.specs.declared.buffer_ref.Ref.{Ref}
use Rattle.mem_num.specs.declared.buffer_refused.BufferRefused.{BufferRefused}
use Rattle.mem_num.specs.declared.child_refused.ChildRefused.{ChildRefused}
use Rattle.mem_num.specs.declared.not_closed.NotClosed.{NotClosed}
use Rattle.mem_num.specs.declared.ref_refused.RefRefused.{RefRefused}
use Rattle.mem_model.specs.Calls as plan
use Rattle.mem_model.specs.Calls.{CallAnswer, ToChild, ToClose, ToGrant}
use Rattle.mem_model.specs.PlannedCalls.{PlannedCall, no_reference}
use Rattle.mem_buf.specs.MemoryCall.{MemoryCall, Child, Close, Grant, Retain, Transfer, Release}

-- the reference that a call gave, if it gave one
abbrev pub reference_by : MemoryCall → Ref
reference_by (Grant at request (Ok given)) = given
reference_by (Retain of target (Ok given)) = given
reference_by (Transfer of target (Ok moved)) = moved.0
reference_by _ = no_reference

-- the reference that the call at a place gave
abbrev pub given_at : List Ref → ℕ → Ref
given_at given place = slice_index_or given place no_reference

-- a call is the planned one, behind calls that gave these references, whatever its answer was
abbrev pub IsPlanned : List Ref → PlannedCall → MemoryCall → Type 0
IsPlanned given (plan.Child parent reservation limit) call =
    (answer : Result AllocId ChildRefused) × (call ≡ Child parent reservation limit answer)
IsPlanned given (plan.Close at) call = (answer : Result (Unit {0}) NotClosed) × (call ≡ Close at answer)
IsPlanned given (plan.Grant at request) call = (answer : Result Ref BufferRefused) × (call ≡ Grant at request answer)
IsPlanned given (plan.Retain place target) call =
    (answer : Result Ref RefRefused) × (call ≡ Retain (given_at given place) target answer)
IsPlanned given (plan.Transfer place target) call =
    (answer : Result (Ref × Bool) RefRefused) × (call ≡ Transfer (given_at given place) target answer)
IsPlanned given (plan.Release place) call = (answer : Bool) × (call ≡ Release (given_at given place) answer)

-- calls are the planned ones, one after the other
abbrev pub ArePlanned : List Ref → List PlannedCall → List MemoryCall → Type 0
ArePlanned given [] [] = ⊤
ArePlanned given [] (call ∷ calls) = ⊥
ArePlanned given (planned ∷ plan) [] = ⊥
ArePlanned given (planned ∷ plan) (call ∷ calls) = IsPlanned given planned call × ArePlanned (given ++ reference_by call ∷ []) plan calls

-- a planned child is within the bounds of a tree
abbrev pub IsBoundedPlan : PlannedCall → Type 0
IsBoundedPlan (plan.Child parent reservation limit) = (reservation ≤ MAX_RESERVATION) × (limit ≤ MAX_LIMIT)
IsBoundedPlan _ = ⊤

abbrev pub AreBoundedPlans : List PlannedCall → Type 0
AreBoundedPlans plan = All IsBoundedPlan plan

-- a child, a closing and a buffer were answered so
abbrev pub IsTold : MemoryCall → CallAnswer → Type 0
IsTold (Child parent reservation limit answer) told = told ≡ ToChild answer
IsTold (Close at answer) told = told ≡ ToClose answer
IsTold (Grant at request answer) told = told ≡ ToGrant answer
IsTold _ told = ⊤

-- each was
abbrev pub AreTold : List MemoryCall → List CallAnswer → Type 0
AreTold [] [] = ⊤
AreTold [] (told ∷ answers) = ⊥
AreTold (call ∷ calls) [] = ⊥
AreTold (call ∷ calls) (told ∷ answers) = IsTold call told × AreTold calls answers
