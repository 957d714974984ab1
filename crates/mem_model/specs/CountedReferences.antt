-- References to each chunk, of each allocator.
use Rattle.std.specs.Prelude.{ℕ, ◌==◌, Bool, ◌&&◌, sum_by, if◌then◌else◌, Result, Ok, Err}
use Rattle.mem_num.specs.declared.buffer_ref.Ref.{Ref}
use Rattle.mem_model.specs.Calls.{TreeCall, Grant, Retain, Transfer, Release}
use Rattle.mem_model.specs.Chunk.{Chunk}
use Rattle.mem_model.specs.Ledgers.{count_of}
use Rattle.mem_model.specs.Grant.{grant_result}
use Rattle.mem_model.specs.Release.{release_result}
use Rattle.mem_model.specs.Retain.{retain_result}
use Rattle.mem_model.specs.Transfer.{transfer_result}
use Rattle.mem_model.specs.TreeState.{TreeState}

-- how many references to a chunk count for the allocator n at the chunk k
abbrev pub count_on : ℕ → ℕ → Chunk → ℕ
count_on k n chunk = if chunk.number == k then count_of chunk.ledgers n else 0

-- how many references the allocator n has to the live chunk k
abbrev pub references_to : TreeState → ℕ → ℕ → ℕ
references_to state k n = sum_by (count_on k n) state.chunks

-- whether a reference is one of the allocator n to the chunk k
abbrev pub is_reference_to : ℕ → ℕ → Ref → Bool
is_reference_to k n of = (of.chunk == k) && (of.alloc.0 == n)

-- such a reference, counted
abbrev pub one_to : ℕ → ℕ → Ref → ℕ
one_to k n of = if is_reference_to k n of then 1 else 0

-- a reference that an answer gives, counted
abbrev pub one_given : {E : Type 0} → ℕ → ℕ → Result Ref E → ℕ
one_given k n (Ok reference) = one_to k n reference
one_given k n (Err refused) = 0

abbrev pub one_moved : {E : Type 0} → ℕ → ℕ → Result (Ref × Bool) E → ℕ
one_moved k n (Ok moved) = one_to k n moved.0
one_moved k n (Err refused) = 0

-- a reference that a release takes back, counted
abbrev pub one_taken : {A E : Type 0} → ℕ → ℕ → Ref → Result A E → ℕ
one_taken k n of (Ok done) = one_to k n of
one_taken k n of (Err refused) = 0

-- how many references of the allocator n to the chunk k a call gives
abbrev pub given_to : TreeState → TreeCall → ℕ → ℕ → ℕ
given_to state (Grant at request) k n = one_given k n (grant_result state at request).answer
given_to state (Retain of target) k n = one_given k n (retain_result state of target).answer
given_to state (Transfer of target) k n = one_moved k n (transfer_result state of target).answer
given_to state _ k n = 0

-- how many it takes back
abbrev pub taken_from : TreeState → TreeCall → ℕ → ℕ → ℕ
taken_from state (Release of) k n = one_taken k n of (release_result state of).answer
taken_from state _ k n = 0
