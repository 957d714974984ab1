-- What a call may change of what its token shows.
use Rattle.std.specs.Prelude.{◌≡◌, ℕ, ◌+◌, ◌≤◌, ◌==◌, if◌then◌else◌, IfSome, Some, Ok, ⊤}
use Rattle.mem_num.specs.declared.alloc_id.AllocId.{AllocId}
use Rattle.mem_num.specs.declared.rounding.Rounding.{Rounding}
use Rattle.mem_buf.specs.TokenView.{TokenView, bytes_for, turns_for, turns_to_share}
use Rattle.mem_buf.specs.MemoryCall.{MemoryCall, Child, Unpin, Close, Grant, Retain, Transfer}

-- how many turns a call may spend
abbrev pub turns_of : TokenView → MemoryCall → ℕ
turns_of view (Child parent reservation limit answer) = 1
turns_of view (Grant at request answer) = turns_for view at request
turns_of view (Retain of target answer) = turns_to_share of
turns_of view (Transfer of target answer) = turns_to_share of
turns_of view _ = 0

-- how many bytes a call may spend
abbrev pub bytes_of : TokenView → MemoryCall → ℕ
bytes_of view (Grant at request answer) = bytes_for view at request
bytes_of view _ = 0

-- a number at one allocator, and 0 elsewhere
abbrev pub only_at : AllocId → ℕ → ℕ → ℕ
only_at at count n = if n == at.0 then count else 0

-- at most so many pins are lost at each allocator, and none is gained
abbrev pub LosesPins : (ℕ → ℕ) → (ℕ → ℕ) → (ℕ → ℕ) → Type 0
LosesPins lost old new = (n : ℕ) → (new n ≤ old n) × (old n ≤ new n + lost n)

-- a child that was made has one pin more; an unpin loses at most a pin of its allocator, and a closing at most all of its own
abbrev pub ChangesPins : MemoryCall → (ℕ → ℕ) → (ℕ → ℕ) → Type 0
ChangesPins (Child parent reservation limit (Ok made)) old new = (n : ℕ) → new n ≡ old n + only_at made 1 n
ChangesPins (Unpin at) old new = LosesPins (only_at at 1) old new
ChangesPins (Close at (Ok done)) old new = LosesPins (only_at at (old at.0)) old new
ChangesPins _ old new = new ≡ old

-- what could be named can be named, by the same rounding and limit
pub record KeepsNames (old new : TokenView) : Type 0 where
  pub rounding : (n : ℕ) (policy : Rounding) → old.rounding n ≡ Some policy → new.rounding n ≡ Some policy
  pub limit : (n limit : ℕ) → old.limit n ≡ Some limit → new.limit n ≡ Some limit

-- a child that was made can be named, with the rounding of its parent and with its limit
abbrev pub NamesChild : MemoryCall → TokenView → TokenView → Type 0
NamesChild (Child parent reservation limit (Ok made)) old new =
    (new.rounding made.0 ≡ old.rounding parent.0) × IfSome (new.limit made.0) (λ known. known ≡ limit)
NamesChild _ old new = ⊤

-- what a call may change
pub record ChangesView (call : MemoryCall) (old new : TokenView) : Type 0 where
  pub turns : old.turns ≤ new.turns + turns_of old call
  pub bytes : old.bytes ≤ new.bytes + bytes_of old call
  pub pins : ChangesPins call old.pins new.pins
  pub names : KeepsNames old new
  pub child : NamesChild call old new
