-- The meaning of a call of the running tree to its caller: how many references came and went.
use Rattle.std.specs.Prelude.{◌≡◌, ℕ, ◌+◌, ◌≤◌, if◌then◌else◌, Ok}
use Rattle.mem_num.specs.declared.buffer_ref.Ref.{Ref}
use Rattle.mem_buf.specs.Chain.{MemoryModel}
use Rattle.mem_buf.specs.MemoryCall.{MemoryCall, Grant, Retain, Transfer, Release}
use Rattle.mem_buf.specs.TokenView.{is_empty}
use Rattle.mem_alloc.specs.RunningToken.{RunningToken, running_view}

-- a reference counts as one, but for that of the empty buffer
abbrev pub references : Ref → ℕ
references of = if is_empty of then 0 else 1

-- how many references a call gave
abbrev pub taken_by : MemoryCall → ℕ
taken_by (Grant at request (Ok given)) = references given
taken_by (Retain of target (Ok given)) = references given
taken_by (Transfer of target (Ok moved)) = references moved.0
taken_by _ = 0

-- how many references a call gave back
abbrev pub given_by : MemoryCall → ℕ
given_by (Release of answer) = references of
given_by _ = 0

-- the references are counted, and no budget grows
pub record CountsCall (call : MemoryCall) (old new : RunningToken) : Type 0 where
  pub taken : new.taken ≡ old.taken + taken_by call
  pub given : new.given ≡ old.given + given_by call
  pub no_more_bytes : new.bytes ≤ old.bytes
  pub no_more_turns : new.turns ≤ old.turns

-- what the running tree says of itself
abbrev pub running_model : MemoryModel RunningToken Ref
running_model = record { view = running_view; reference = λ hold. hold; means = CountsCall }
