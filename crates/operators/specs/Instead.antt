-- Which calls of a memory it comes to that rows are stored in the place of batches.
use Rattle.std.specs.Prelude.{◌≡◌, ℕ, List, ◌++◌, map, Result}
use Rattle.std.specs.List.{flat_map}
use Rattle.mem_num.specs.declared.alloc_id.AllocId.{AllocId}
use Rattle.mem_num.specs.declared.buffer_ref.Ref.{Ref}
use Rattle.mem_buf.specs.Callers.{GivesBack}
use Rattle.mem_buf.specs.MemoryCall.{MemoryCall}
use Rattle.mem_buf.specs.TokenView.{TokenView}
use Rattle.batch_vec.specs.Batches.{BatchView, IsStoreRows}
use Rattle.batch_vec.specs.declared.refused.OpRefused.{OpRefused}

-- the references of the buffers of batches, one batch after the other
abbrev pub references_of : {H : Type 0} → (H → Ref) → List (BatchView H) → List Ref
references_of reference batches = flat_map (λ batch. map reference batch.holds) batches

-- buffers of these lengths were asked for, with this answer; and then, whatever it was, these references were given back, in order
pub record IsStoreInstead {H : Type 0} (reference : H → Ref) (view : TokenView) (at : AllocId) (lengths : List ℕ)
    (references : List Ref) (answer : Result (BatchView H) OpRefused) (calls : List MemoryCall) : Type 0 where
  pub stored : List MemoryCall
  pub returned : List MemoryCall
  pub storing : IsStoreRows reference view at lengths answer stored
  pub given_back : GivesBack references returned
  pub order : calls ≡ stored ++ returned
