-- Which calls of a memory it comes to that columns are picked and move, and that batches move.
use Rattle.std.specs.Prelude.{◌≡◌, ℕ, Bool, List, [], ◌++◌, map, flat_map, if◌then◌else◌, Result, Ok, Err, Vec}
use Rattle.std.specs.declared.alloc.Global.{Global}
use Rattle.mem_num.specs.declared.alloc_id.AllocId.{AllocId}
use Rattle.mem_num.specs.declared.buffer_ref.Ref.{Ref}
use Rattle.mem_num.specs.declared.no_memory.NoMemory.{NoMemory}
use Rattle.mem_num.specs.declared.ref_refused.RefRefused.TheVariants as sharing
use Rattle.mem_buf.specs.Callers.{GivesBack}
use Rattle.mem_buf.specs.MemoryCall.{MemoryCall}
use Rattle.mem_buf.specs.Moving.{AreMoved, IsRefusedMove, Move, move_calls}
use Rattle.query_model.specs.SequentialCalls.{unpicked}
use Rattle.batch_vec.specs.Batches.{BatchView}
use Rattle.batch_vec.specs.Moving.{of_columns}
use Rattle.operators.specs.Instead.{references_of}

-- the picked columns moved, and became these references; and then the others were given back
pub record IsProjected (at : AllocId) (picked rest targets : List Ref) (calls : List MemoryCall) : Type 0 where
  pub moved : List MemoryCall
  pub returned : List MemoryCall
  pub moving : AreMoved at picked targets moved
  pub given_back : GivesBack rest returned
  pub order : calls ≡ moved ++ returned

-- memory ran out: as picked columns moved, of which all were given back, and then the others; or before, and all were given back
pub record IsUnprojected (at : AllocId) (picked rest all : List Ref) (calls : List MemoryCall) : Type 0 where
  pub is_picked : Bool
  pub moved : List MemoryCall
  pub returned : List MemoryCall
  pub moving : IsRefusedMove at (if is_picked then picked else all) sharing.NoMemory moved
  pub given_back : GivesBack (if is_picked then rest else []) returned
  pub order : calls ≡ moved ++ returned

-- what a projection of a batch with so many columns and these references comes to
abbrev pub IsProject : {H : Type 0} → (H → Ref) → AllocId → ℕ → List ℕ → List Ref → Result (BatchView H) NoMemory
    → List MemoryCall → Type 0
IsProject reference at columns picks all (Ok batch) calls =
    IsProjected at (of_columns all picks) (of_columns all (unpicked columns picks)) (map reference batch.holds) calls
IsProject reference at columns picks all (Err refused) calls =
    IsUnprojected at (of_columns all picks) (of_columns all (unpicked columns picks)) all calls

-- some references moved, the next batch was refused, and those that are left and those that moved were given back
pub record IsRefusedMerge (target : AllocId) (sources : List Ref) (calls : List MemoryCall) : Type 0 where
  pub moves : List Move
  pub refused : List Ref
  pub left : List Ref
  pub asked : List MemoryCall
  pub returned : List MemoryCall
  pub all : sources ≡ map (λ move. move.from) moves ++ (refused ++ left)
  pub refusal : IsRefusedMove target refused sharing.NoMemory asked
  pub given_back : GivesBack (left ++ map (λ move. move.to) moves) returned
  pub order : calls ≡ flat_map (move_calls target) moves ++ (asked ++ returned)

-- what the moving of batches with these references comes to
abbrev pub IsMergePicked : {H : Type 0} → (H → Ref) → AllocId → List Ref → Result (Vec (BatchView H) Global) NoMemory
    → List MemoryCall → Type 0
IsMergePicked reference target sources (Ok batches) calls = AreMoved target sources (references_of reference batches.items) calls
IsMergePicked reference target sources (Err refused) calls = IsRefusedMerge target sources calls
