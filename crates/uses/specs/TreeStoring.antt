-- What the storing of lists of bytes leaves of the tree of one thread.
use Rattle.std.specs.Prelude.{◌≡◌, ℕ, List, Result, Vec}
use Rattle.std.specs.declared.alloc.Global.{Global}
use Rattle.mem_num.specs.declared.alloc_id.AllocId.{AllocId}
use Rattle.mem_num.specs.declared.buffer_ref.Ref.{Ref}
use Rattle.mem_num.specs.declared.buffer_refused.BufferRefused.{BufferRefused}
use Rattle.mem_model.specs.Calls.{state_after}
use Rattle.mem_model.specs.MeasuredTree.{MeasuredTree}
use Rattle.mem_buf.specs.declared.arrow_buf.ArrowBuf.{ArrowBuf}
use Rattle.mem_buf.specs.MemoryCall.{MemoryCall}
use Rattle.alloc_tree.specs.SoloCalls.{tree_calls, AreAnswered}
use Rattle.alloc_tree.specs.SoloView.{solo_view}
use Rattle.mem_buf.specs.Storing.{IsStoreAll}

-- the state is that after the calls which the storing comes to, and each was answered as the tree answers it
pub record LeavesStored (old new : MeasuredTree) (at : AllocId) (requests : List ℕ)
    (result : Result (Vec (ArrowBuf Ref) Global) BufferRefused) : Type 0 where
  pub calls : List MemoryCall
  pub are : IsStoreAll (λ hold. hold) (solo_view old) at requests result calls
  pub state : new.state ≡ state_after old.state (tree_calls calls)
  pub answers : AreAnswered old.state calls
