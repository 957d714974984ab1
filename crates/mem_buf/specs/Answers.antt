-- Which answer a call of a memory may have, by what the token showed before. Want of memory is the one that is free.
use Rattle.std.specs.Prelude.{◌≡◌, ℕ, ◌+◌, ◌<◌, ◌≤◌, ◌==◌, Bool, true, false, IfSome, Result, Ok, Err, ⊤}
use Rattle.mem_num.specs.declared.bounds.TheConstants.{LARGEST, MOST_ALLOCATORS}
use Rattle.mem_num.specs.declared.alloc_id.AllocId.{AllocId}
use Rattle.mem_num.specs.declared.buffer_ref.Ref.{Ref}
use Rattle.mem_num.specs.declared.full.Full.{Full}
use Rattle.mem_num.specs.declared.buffer_refused.BufferRefused.{BufferRefused}
use Rattle.mem_num.specs.declared.buffer_refused.BufferRefused.TheVariants as buffer
use Rattle.mem_num.specs.declared.child_refused.ChildRefused.{ChildRefused}
use Rattle.mem_num.specs.declared.child_refused.ChildRefused.TheVariants as child
use Rattle.mem_num.specs.declared.not_closed.NotClosed.{NotClosed}
use Rattle.mem_num.specs.declared.not_closed.NotClosed.TheVariants as closing
use Rattle.mem_num.specs.declared.ref_refused.RefRefused.{RefRefused}
use Rattle.mem_num.specs.declared.ref_refused.RefRefused.TheVariants as sharing
use Rattle.mem_buf.specs.TokenView.{TokenView, size_for, is_empty}
use Rattle.mem_buf.specs.MemoryCall.{MemoryCall, Child, Unpin, Close, Grant, Retain, Transfer, Release}

-- a refusal tells a level that the request took past its limit, and the limit that the token knows, if it knows it
pub record IsPastLimit (view : TokenView) (full : Full) : Type 0 where
  pub past : full.limit < full.held + full.amount
  pub known : IfSome (view.limit full.node.0) (λ limit. full.limit ≡ limit)

-- the reference of a buffer that was granted; one of no bytes has no chunk
pub record IsGranted (at : AllocId) (size : ℕ) (given : Ref) : Type 0 where
  pub place : given.alloc ≡ at
  pub charged : given.size ≡ size
  pub empty : is_empty given ≡ (size == 0)

-- a further reference: to the chunk of the first, or to the empty buffer, which a further reference to the empty buffer is
pub record IsFurther (of : Ref) (target : AllocId) (given : Ref) : Type 0 where
  pub place : given.alloc ≡ target
  pub same : is_empty given ≡ false → given.chunk ≡ of.chunk
  pub empty : is_empty of ≡ true → is_empty given ≡ true

abbrev pub IsChildAnswer : TokenView → AllocId → ℕ → ℕ → Result AllocId ChildRefused → Type 0
IsChildAnswer view parent reservation limit (Ok made) = reservation ≤ limit
IsChildAnswer view parent reservation limit (Err (child.ReserveAboveLimit asked most)) =
    (limit < reservation) × (asked ≡ reservation) × (most ≡ limit)
IsChildAnswer view parent reservation limit (Err (child.Closed refused)) = (reservation ≤ limit) × (refused.node ≡ parent)
IsChildAnswer view parent reservation limit (Err (child.Nodes next)) = (reservation ≤ limit) × (MOST_ALLOCATORS ≤ next)
IsChildAnswer view parent reservation limit (Err (child.Full full)) = (reservation ≤ limit) × IsPastLimit view full

abbrev pub IsCloseAnswer : Result (Unit {0}) NotClosed → Type 0
IsCloseAnswer (Ok done) = ⊤
IsCloseAnswer (Err (closing.InUse uses)) = 1 ≤ uses
IsCloseAnswer (Err (closing.Closed uses)) = ⊤

-- why a request isn't granted: too large exactly by the size, and never closed under a pin
abbrev pub IsGrantRefusal : TokenView → AllocId → ℕ → ℕ → BufferRefused → Type 0
IsGrantRefusal view at request size (buffer.TooLarge refused) = (LARGEST < size) × (refused.request ≡ request)
IsGrantRefusal view at request size (buffer.Closed refused) = (size ≤ LARGEST) × (refused.node ≡ at) × (view.pins at.0 ≡ 0)
IsGrantRefusal view at request size (buffer.Full full) = (size ≤ LARGEST) × (1 ≤ size) × IsPastLimit view full
IsGrantRefusal view at request size buffer.NoMemory = ⊤

abbrev pub IsGrantAnswer : TokenView → AllocId → ℕ → ℕ → Result Ref BufferRefused → Type 0
IsGrantAnswer view at request size (Ok given) = (size ≤ LARGEST) × IsGranted at size given
IsGrantAnswer view at request size (Err refused) = IsGrantRefusal view at request size refused

-- a further reference to the empty buffer is never refused, and none is refused as closed under a pin
abbrev pub IsShareRefusal : TokenView → Ref → AllocId → RefRefused → Type 0
IsShareRefusal view of target (sharing.Closed refused) = (is_empty of ≡ false) × (refused.node ≡ target) × (view.pins target.0 ≡ 0)
IsShareRefusal view of target sharing.NoMemory = is_empty of ≡ false

abbrev pub IsRetainAnswer : TokenView → Ref → AllocId → Result Ref RefRefused → Type 0
IsRetainAnswer view of target (Ok given) = IsFurther of target given
IsRetainAnswer view of target (Err refused) = IsShareRefusal view of target refused

abbrev pub IsTransferAnswer : TokenView → Ref → AllocId → Result (Ref × Bool) RefRefused → Type 0
IsTransferAnswer view of target (Ok moved) = IsFurther of target moved.0 × (is_empty of ≡ true → moved.1 ≡ true)
IsTransferAnswer view of target (Err refused) = IsShareRefusal view of target refused

-- which answer a call may have
abbrev pub IsAnswer : TokenView → MemoryCall → Type 0
IsAnswer view (Child parent reservation limit answer) = IsChildAnswer view parent reservation limit answer
IsAnswer view (Unpin at) = ⊤
IsAnswer view (Close at answer) = IsCloseAnswer answer
IsAnswer view (Grant at request answer) = IsGrantAnswer view at request (size_for view at request) answer
IsAnswer view (Retain of target answer) = IsRetainAnswer view of target answer
IsAnswer view (Transfer of target answer) = IsTransferAnswer view of target answer
IsAnswer view (Release of answer) = is_empty of ≡ true → answer ≡ false
