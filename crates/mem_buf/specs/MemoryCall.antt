-- The calls of a memory, each with its arguments and its answer.
use Rattle.std.specs.Prelude.{ℕ, Bool, Result, Ok, Err}
use Rattle.mem_num.specs.declared.alloc_id.AllocId.{AllocId}
use Rattle.mem_num.specs.declared.buffer_ref.Ref.{Ref}
use Rattle.mem_num.specs.declared.buffer_refused.BufferRefused.{BufferRefused}
use Rattle.mem_num.specs.declared.child_refused.ChildRefused.{ChildRefused}
use Rattle.mem_num.specs.declared.not_closed.NotClosed.{NotClosed}
use Rattle.mem_num.specs.declared.ref_refused.RefRefused.{RefRefused}

-- a call that was made; a hold is named by the reference that it is
pub data MemoryCall : Type 0 where
  Child : (parent : AllocId) → (reservation limit : ℕ) → (answer : Result AllocId ChildRefused) → MemoryCall
  Unpin : (at : AllocId) → MemoryCall
  Close : (at : AllocId) → (answer : Result (Unit {0}) NotClosed) → MemoryCall
  Grant : (at : AllocId) → (request : ℕ) → (answer : Result Ref BufferRefused) → MemoryCall
  Retain : (of : Ref) → (target : AllocId) → (answer : Result Ref RefRefused) → MemoryCall
  Transfer : (of : Ref) → (target : AllocId) → (answer : Result (Ref × Bool) RefRefused) → MemoryCall
  Release : (of : Ref) → (answer : Bool) → MemoryCall

-- an answer whose hold is named by its reference
abbrev pub named : {Hold E : Type 0} → (Hold → Ref) → Result Hold E → Result Ref E
named reference (Ok hold) = Ok (reference hold)
named reference (Err refused) = Err refused

-- the same of an answer that tells besides whether the charge fitted
abbrev pub named_fit : {Hold E : Type 0} → (Hold → Ref) → Result (Hold × Bool) E → Result (Ref × Bool) E
named_fit reference (Ok moved) = Ok (reference moved.0, moved.1)
named_fit reference (Err refused) = Err refused
