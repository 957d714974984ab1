-- Which references calls of a memory leave held.
use Rattle.std.specs.Prelude.{◌≡◌, ℕ, ◌≤◌, List, [], ◌∷◌, sum_by, ⊤}
use Rattle.mem_num.specs.declared.buffer_ref.Ref.{Ref}
use Rattle.mem_model.specs.CountedReferences.{one_to}
use Rattle.mem_model.specs.PlannedCalls.{no_reference}
use Rattle.mem_buf.specs.MemoryCall.{MemoryCall, Child, Unpin, Close, Release}
use Rattle.alloc_tree.specs.SoloPlanned.{reference_by}

-- how many of these references are of the allocator n to the chunk k
abbrev pub held_count : List Ref → ℕ → ℕ → ℕ
held_count held k n = sum_by (one_to k n) held

-- the same references, in any order; those to no chunk don't count
abbrev pub AreSame : List Ref → List Ref → Type 0
AreSame held others = (k n : ℕ) → 1 ≤ k → held_count held k n ≡ held_count others k n

-- the reference that a call gives back, if it gives one back
abbrev pub released_by : MemoryCall → Ref
released_by (Release of answer) = of
released_by _ = no_reference

-- from holding some references, calls lead to holding others: with what it gives, each call gives back what was held
abbrev pub Leaves : List Ref → List MemoryCall → List Ref → Type 0
Leaves held [] left = AreSame held left
Leaves held (call ∷ calls) left =
    (rest : List Ref) × AreSame (reference_by call ∷ held) (released_by call ∷ rest) × Leaves rest calls left

-- a call for a buffer: none that makes an allocator, closes one or drops a pin
abbrev pub IsBufferCall : MemoryCall → Type 0
IsBufferCall (Child parent reservation limit answer) = ⊥
IsBufferCall (Unpin at) = ⊥
IsBufferCall (Close at answer) = ⊥
IsBufferCall _ = ⊤

-- a call that may spend a turn
abbrev pub asks : MemoryCall → ℕ
asks (Release of answer) = 0
asks _ = 1

-- how many turns calls may spend
abbrev pub turns_in : List MemoryCall → ℕ
turns_in calls = sum_by asks calls

-- from holding nothing, calls lead to holding nothing
abbrev pub GaveAllBack : List MemoryCall → Type 0
GaveAllBack calls = Leaves [] calls []

-- from holding these references, calls lead to holding nothing
abbrev pub GivesUp : List Ref → List MemoryCall → Type 0
GivesUp held calls = Leaves held calls []
