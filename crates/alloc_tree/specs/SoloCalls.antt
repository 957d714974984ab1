-- Calls of the memory of one thread, as calls of its tree.
use Rattle.std.specs.Prelude.{◌≡◌, List, [], ◌∷◌, Err, ⊤}
use Rattle.mem_num.specs.declared.buffer_refused.BufferRefused.TheVariants as buffer
use Rattle.mem_num.specs.declared.ref_refused.RefRefused.TheVariants as sharing
use Rattle.mem_model.specs.Calls.{TreeCall, after_call}
use Rattle.mem_model.specs.Calls as tree
use Rattle.mem_model.specs.Child.{child_result}
use Rattle.mem_model.specs.Close.{close_result}
use Rattle.mem_model.specs.Grant.{grant_result}
use Rattle.mem_model.specs.Release.{release_result}
use Rattle.mem_model.specs.Retain.{retain_result}
use Rattle.mem_model.specs.Transfer.{transfer_result}
use Rattle.mem_model.specs.TreeState.{TreeState}
use Rattle.mem_buf.specs.MemoryCall.{MemoryCall, Child, Unpin, Close, Grant, Retain, Transfer, Release}
use Rattle.alloc_tree.specs.SoloMeaning.{told_further, told_moved, told_gone}

-- the calls of the tree that calls of the memory are; a pin is none of the tree's
abbrev pub tree_calls : List MemoryCall → List TreeCall
tree_calls [] = []
tree_calls (Child parent reservation limit answer ∷ calls) = tree.Child parent reservation limit ∷ tree_calls calls
tree_calls (Unpin at ∷ calls) = tree_calls calls
tree_calls (Close at answer ∷ calls) = tree.Close at ∷ tree_calls calls
tree_calls (Grant at request answer ∷ calls) = tree.Grant at request ∷ tree_calls calls
tree_calls (Retain of target answer ∷ calls) = tree.Retain of target ∷ tree_calls calls
tree_calls (Transfer of target answer ∷ calls) = tree.Transfer of target ∷ tree_calls calls
tree_calls (Release of answer ∷ calls) = tree.Release of ∷ tree_calls calls

-- a call that didn't want memory
abbrev pub HasMemory : MemoryCall → Type 0
HasMemory (Grant at request (Err buffer.NoMemory)) = ⊥
HasMemory (Retain of target (Err sharing.NoMemory)) = ⊥
HasMemory (Transfer of target (Err sharing.NoMemory)) = ⊥
HasMemory _ = ⊤

-- each call was answered as the tree's own is, at the state that the calls before it left
abbrev pub AreAnswered : TreeState → List MemoryCall → Type 0
AreAnswered state [] = ⊤
AreAnswered state (Child parent reservation limit answer ∷ calls) =
    (answer ≡ (child_result state parent reservation limit).answer)
    × AreAnswered (after_call state (tree.Child parent reservation limit)) calls
AreAnswered state (Unpin at ∷ calls) = AreAnswered state calls
AreAnswered state (Close at answer ∷ calls) =
    (answer ≡ (close_result state at).answer) × AreAnswered (after_call state (tree.Close at)) calls
AreAnswered state (Grant at request answer ∷ calls) =
    (answer ≡ (grant_result state at request).answer) × AreAnswered (after_call state (tree.Grant at request)) calls
AreAnswered state (Retain of target answer ∷ calls) =
    (answer ≡ told_further target (retain_result state of target).answer) × AreAnswered (after_call state (tree.Retain of target)) calls
AreAnswered state (Transfer of target answer ∷ calls) =
    (answer ≡ told_moved target (transfer_result state of target).answer) × AreAnswered (after_call state (tree.Transfer of target)) calls
AreAnswered state (Release of answer ∷ calls) =
    (answer ≡ told_gone (release_result state of).answer) × AreAnswered (after_call state (tree.Release of)) calls
