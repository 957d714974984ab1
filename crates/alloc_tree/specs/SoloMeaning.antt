-- The meaning of a call of the memory of one thread: its answer and the tree after it are those of the tree's own call.
use Rattle.std.specs.Prelude.{◌≡◌, Bool, true, false, Result, Ok, Err}
use Rattle.mem_num.specs.declared.alloc_id.AllocId.{AllocId}
use Rattle.mem_num.specs.declared.buffer_ref.Ref.{Ref}
use Rattle.mem_num.specs.declared.buffer_refused.BufferRefused.TheVariants as buffer
use Rattle.mem_num.specs.declared.ref_refused.RefRefused.{RefRefused}
use Rattle.mem_num.specs.declared.ref_refused.RefRefused.TheVariants as sharing
use Rattle.mem_num.specs.declared.released.Released.{Released}
use Rattle.mem_num.specs.declared.solo_refused.SoloRefused.{SoloRefused}
use Rattle.mem_num.specs.declared.solo_refused.SoloRefused.TheVariants as solo
use Rattle.mem_model.specs.Child.{child_result}
use Rattle.mem_model.specs.Close.{close_result}
use Rattle.mem_model.specs.Grant.{grant_result}
use Rattle.mem_model.specs.MeasuredTree.{MeasuredTree, IsAfterCall}
use Rattle.mem_model.specs.Release.{release_result}
use Rattle.mem_model.specs.Retain.{retain_result}
use Rattle.mem_model.specs.Transfer.{transfer_result}
use Rattle.mem_model.specs.TreeState.{CallResult}
use Rattle.mem_buf.specs.Chain.{MemoryModel}
use Rattle.mem_buf.specs.MemoryCall.{MemoryCall, Child, Unpin, Close, Grant, Retain, Transfer, Release}
use Rattle.mem_buf.specs.TokenView.{is_empty}
use Rattle.alloc_tree.specs.SoloView.{solo_view}

-- the reference of the empty buffer at an allocator
abbrev pub empty_at : AllocId → Ref
empty_at at = record { chunk = 0; alloc = at; size = 0 }

-- what a caller is told of a further reference: the empty buffer, where the first was given back before
abbrev pub told_further : AllocId → Result Ref SoloRefused → Result Ref RefRefused
told_further target (Ok given) = Ok given
told_further target (Err (solo.Released refused)) = Ok (empty_at target)
told_further target (Err (solo.Closed refused)) = Err (sharing.Closed refused)
told_further target (Err solo.NoMemory) = Err sharing.NoMemory

-- the same of a transfer, which fits where no charge moves
abbrev pub told_moved : AllocId → Result (Ref × Bool) SoloRefused → Result (Ref × Bool) RefRefused
told_moved target (Ok given) = Ok given
told_moved target (Err (solo.Released refused)) = Ok (empty_at target, true)
told_moved target (Err (solo.Closed refused)) = Err (sharing.Closed refused)
told_moved target (Err solo.NoMemory) = Err sharing.NoMemory

-- whether a ledger went: none did where the reference was given back before
abbrev pub told_gone : Result Bool Released → Bool
told_gone (Ok gone) = gone
told_gone (Err refused) = false

-- a call of the tree was made: its answer is what is told, and it left this tree, with the peaks that it raises
pub record IsTreeCall {A B : Type 0} (told : A → B) (answer : B) (call : CallResult A) (old new : MeasuredTree) : Type 0 where
  pub answer_is : answer ≡ told call.answer
  pub after : IsAfterCall old call new

-- a call on a reference is one of the tree, and one on the empty buffer leaves the tree as it was besides
pub record IsReferenceCall {A B : Type 0} (of : Ref) (told : A → B) (answer : B) (call : CallResult A)
    (old new : MeasuredTree) : Type 0 where
  pub tree_call : IsTreeCall told answer call old new
  pub empty : is_empty of ≡ true → new ≡ old

-- the meaning of a call; one that finds no memory changes nothing
abbrev pub SoloMeans : MemoryCall → MeasuredTree → MeasuredTree → Type 0
SoloMeans (Child parent reservation limit answer) old new =
    IsTreeCall (λ a. a) answer (child_result old.state parent reservation limit) old new
SoloMeans (Unpin at) old new = new ≡ old
SoloMeans (Close at answer) old new = IsTreeCall (λ a. a) answer (close_result old.state at) old new
SoloMeans (Grant at request (Err buffer.NoMemory)) old new = new ≡ old
SoloMeans (Grant at request answer) old new = IsTreeCall (λ a. a) answer (grant_result old.state at request) old new
SoloMeans (Retain of target (Err sharing.NoMemory)) old new = new ≡ old
SoloMeans (Retain of target answer) old new = IsReferenceCall of (told_further target) answer (retain_result old.state of target) old new
SoloMeans (Transfer of target (Err sharing.NoMemory)) old new = new ≡ old
SoloMeans (Transfer of target answer) old new = IsReferenceCall of (told_moved target) answer (transfer_result old.state of target) old new
SoloMeans (Release of answer) old new = IsReferenceCall of told_gone answer (release_result old.state of) old new

-- what the memory of one thread says of itself
abbrev pub solo_model : MemoryModel MeasuredTree Ref
solo_model = record { view = solo_view; reference = λ hold. hold; means = SoloMeans }
