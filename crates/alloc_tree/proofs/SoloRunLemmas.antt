-- Chains of calls of the memory of one thread are lists of calls of its tree.
use Rattle.std.proofs.Common.{◌≡◌, ℕ, Bool, List, [], ◌∷◌, ap, subst}
use Rattle.std.proofs.lemmas.List.Elements.{All-head, All-tail}
use Rattle.std.specs.Prelude.{Result, Ok, Err, All}
use Rattle.mem_num.specs.declared.alloc_id.AllocId.{AllocId}
use Rattle.mem_num.specs.declared.buffer_ref.Ref.{Ref}
use Rattle.mem_num.specs.declared.buffer_refused.BufferRefused.{BufferRefused}
use Rattle.mem_num.specs.declared.buffer_refused.BufferRefused.TheVariants as buffer
use Rattle.mem_num.specs.declared.ref_refused.RefRefused.{RefRefused}
use Rattle.mem_num.specs.declared.ref_refused.RefRefused.TheVariants as sharing
use Rattle.mem_model.specs.Calls.{state_after}
use Rattle.mem_model.specs.Grant.{grant_result}
use Rattle.mem_model.specs.MeasuredTree.{MeasuredTree}
use Rattle.mem_model.specs.Retain.{retain_result}
use Rattle.mem_model.specs.Transfer.{transfer_result}
use Rattle.mem_model.specs.TreeState.{TreeState}
use Rattle.mem_buf.specs.Chain.{MakesCalls}
use Rattle.mem_buf.specs.MemoryCall.{MemoryCall, Child, Unpin, Close, Grant, Retain, Transfer, Release}
use Rattle.alloc_tree.specs.SoloCalls.{tree_calls, HasMemory, AreAnswered}
use Rattle.alloc_tree.specs.SoloMeaning.{told_further, told_moved, IsTreeCall, SoloMeans, solo_model}

-- a call that found memory is one of the tree
granted : (at : AllocId) (request : ℕ) (answer : Result Ref BufferRefused) (old new : MeasuredTree) → HasMemory (Grant at request answer)
    → SoloMeans (Grant at request answer) old new → IsTreeCall (λ a. a) answer (grant_result old.state at request) old new
granted at request (Ok given) old new has means = means
granted at request (Err (buffer.TooLarge refused)) old new has means = means
granted at request (Err (buffer.Closed refused)) old new has means = means
granted at request (Err (buffer.Full full)) old new has means = means
granted at request (Err buffer.NoMemory) old new has means = absurd has

retained : (of : Ref) (target : AllocId) (answer : Result Ref RefRefused) (old new : MeasuredTree) → HasMemory (Retain of target answer)
    → SoloMeans (Retain of target answer) old new → IsTreeCall (told_further target) answer (retain_result old.state of target) old new
retained of target (Ok given) old new has means = means.tree_call
retained of target (Err (sharing.Closed refused)) old new has means = means.tree_call
retained of target (Err sharing.NoMemory) old new has means = absurd has

transferred : (of : Ref) (target : AllocId) (answer : Result (Ref × Bool) RefRefused) (old new : MeasuredTree)
    → HasMemory (Transfer of target answer) → SoloMeans (Transfer of target answer) old new
    → IsTreeCall (told_moved target) answer (transfer_result old.state of target) old new
transferred of target (Ok given) old new has means = means.tree_call
transferred of target (Err (sharing.Closed refused)) old new has means = means.tree_call
transferred of target (Err sharing.NoMemory) old new has means = absurd has

-- what calls come to, from the state that stands before the first
pub record ComeTo (calls : List MemoryCall) (old new : TreeState) : Type 0 where
  pub state : new ≡ state_after old (tree_calls calls)
  pub answers : AreAnswered old calls

-- the same from a state that is that one
from_first : (calls : List MemoryCall) (first middle new : TreeState) → middle ≡ first → ComeTo calls middle new → ComeTo calls first new
from_first calls first middle new same comes = subst (λ state. ComeTo calls state new) same comes

pub come-to : (calls : List MemoryCall) (old new : MeasuredTree) → All HasMemory calls → MakesCalls solo_model calls old new
    → ComeTo calls old.state new.state
come-to [] old new has made = record { state = ap (λ (tree : MeasuredTree). tree.state) made; answers = tt }
come-to (Child parent reservation limit answer ∷ calls) old new has made =
    let rest = from_first calls _ made.0.state new.state made.1.meaning.after.state
    (come-to calls made.0 new (All-tail HasMemory _ calls has) made.2) in
    record { state = rest.state; answers = (made.1.meaning.answer_is, rest.answers) }
come-to (Unpin at ∷ calls) old new has made =
    let rest = from_first calls _ made.0.state new.state (ap (λ (tree : MeasuredTree). tree.state) made.1.meaning)
    (come-to calls made.0 new (All-tail HasMemory _ calls has) made.2) in
    record { state = rest.state; answers = rest.answers }
come-to (Close at answer ∷ calls) old new has made =
    let rest = from_first calls _ made.0.state new.state made.1.meaning.after.state
    (come-to calls made.0 new (All-tail HasMemory _ calls has) made.2) in
    record { state = rest.state; answers = (made.1.meaning.answer_is, rest.answers) }
come-to (Grant at request answer ∷ calls) old new has made =
    let first = granted at request answer old made.0 (All-head HasMemory (Grant at request answer) calls has) made.1.meaning in
    let rest = from_first calls _ made.0.state new.state first.after.state
    (come-to calls made.0 new (All-tail HasMemory _ calls has) made.2) in
    record { state = rest.state; answers = (first.answer_is, rest.answers) }
come-to (Retain of target answer ∷ calls) old new has made =
    let first = retained of target answer old made.0 (All-head HasMemory (Retain of target answer) calls has) made.1.meaning in
    let rest = from_first calls _ made.0.state new.state first.after.state
    (come-to calls made.0 new (All-tail HasMemory _ calls has) made.2) in
    record { state = rest.state; answers = (first.answer_is, rest.answers) }
come-to (Transfer of target answer ∷ calls) old new has made =
    let first = transferred of target answer old made.0 (All-head HasMemory (Transfer of target answer) calls has) made.1.meaning in
    let rest = from_first calls _ made.0.state new.state first.after.state
    (come-to calls made.0 new (All-tail HasMemory _ calls has) made.2) in
    record { state = rest.state; answers = (first.answer_is, rest.answers) }
come-to (Release of answer ∷ calls) old new has made =
    let first = made.1.meaning.tree_call in
    let rest = from_first calls _ made.0.state new.state first.after.state
    (come-to calls made.0 new (All-tail HasMemory _ calls has) made.2) in
    record { state = rest.state; answers = (first.answer_is, rest.answers) }
