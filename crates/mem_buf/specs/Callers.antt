-- Which calls those come to who ask a memory for buffers and give them back, and what they need for it.
use Rattle.std.specs.Prelude.{◌≡◌, ℕ, ◌<◌, ◌≤◌, Bool, List, [], ◌∷◌, map, sum_by, if◌then◌else◌, Result}
use Rattle.std.specs.Prelude.{Ok, Err}
use Rattle.mem_num.specs.declared.bounds.TheConstants.{LARGEST}
use Rattle.mem_num.specs.declared.alloc_id.AllocId.{AllocId}
use Rattle.mem_num.specs.declared.buffer_ref.Ref.{Ref}
use Rattle.mem_num.specs.declared.buffer_refused.BufferRefused.{BufferRefused}
use Rattle.mem_num.specs.declared.buffer_refused.BufferRefused.TheVariants.{TooLarge, NoMemory}
use Rattle.mem_buf.specs.TokenView.{TokenView, CanName, bytes_for, turns_for, turns_to_share}
use Rattle.mem_buf.specs.MemoryCall.{MemoryCall, Grant, Release}

-- the token can pay for these requests at an allocator, one after the other
pub record CanPay (view : TokenView) (at : AllocId) (requests : List ℕ) : Type 0 where
  pub named : CanName view at
  pub bytes : sum_by (bytes_for view at) requests ≤ view.bytes
  pub turns : sum_by (turns_for view at) requests ≤ view.turns

-- the token can pay for a further reference to each of these, one after the other
pub record CanShare (view : TokenView) (target : AllocId) (references : List Ref) : Type 0 where
  pub named : CanName view target
  pub turns : sum_by turns_to_share references ≤ view.turns

-- requests that were granted, each with its reference
abbrev pub grants : AllocId → List (ℕ × Ref) → List MemoryCall
grants at granted = map (λ one. Grant at one.0 (Ok one.1)) granted

-- references that were released, each with the answer
abbrev pub releases : List (Ref × Bool) → List MemoryCall
releases returned = map (λ one. Release one.0 one.1) returned

-- these references were released, in order, whatever the memory answered
abbrev pub GivesBack : List Ref → List MemoryCall → Type 0
GivesBack references calls =
    (returned : List (Ref × Bool)) × (calls ≡ releases returned) × (map (λ one. one.0) returned ≡ references)

-- one buffer was asked for, and the answer is the memory's; none was where the bytes are too many or couldn't be copied
abbrev pub IsStore : AllocId → ℕ → ℕ → Result Ref BufferRefused → List MemoryCall → Type 0
IsStore at request size (Err (TooLarge refused)) calls = (calls ≡ []) × (LARGEST < size) × (refused.request ≡ request)
IsStore at request size (Err NoMemory) calls =
    (is_asked : Bool) × (calls ≡ (if is_asked then Grant at request (Err NoMemory) ∷ [] else []))
IsStore at request size answer calls = calls ≡ Grant at request answer ∷ []
