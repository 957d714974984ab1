-- Which calls of a memory the storing of lists of bytes comes to.
use Rattle.std.specs.Prelude.{◌≡◌, ℕ, List, [], ◌∷◌, ◌++◌, map, length, Result, Ok, Err, Vec}
use Rattle.std.specs.declared.alloc.Global.{Global}
use Rattle.mem_num.specs.declared.alloc_id.AllocId.{AllocId}
use Rattle.mem_num.specs.declared.buffer_ref.Ref.{Ref}
use Rattle.mem_num.specs.declared.buffer_refused.BufferRefused.{BufferRefused}
use Rattle.mem_num.specs.declared.buffer_refused.BufferRefused.TheVariants.{NoMemory}
use Rattle.mem_buf.specs.declared.arrow_buf.ArrowBuf.{ArrowBuf}
use Rattle.mem_buf.specs.TokenView.{TokenView, size_for}
use Rattle.mem_buf.specs.MemoryCall.{MemoryCall}
use Rattle.mem_buf.specs.Callers.{grants, GivesBack, IsStore}
use Rattle.mem_buf.specs.View.{bytes_in}

-- the request that a buffer was granted for, and its reference
abbrev pub granted_of : {H : Type 0} → (H → Ref) → ArrowBuf H → ℕ × Ref
granted_of reference buf = (length (bytes_in buf.view), reference buf.hold)

-- the first of the requests that are left was refused, or memory ran out before it
abbrev pub IsRefusedAt : TokenView → AllocId → List ℕ → BufferRefused → List MemoryCall → Type 0
IsRefusedAt view at [] refused calls = (refused ≡ NoMemory) × (calls ≡ [])
IsRefusedAt view at (request ∷ left) refused calls = IsStore at request (size_for view at request) (Err refused) calls

-- some requests were granted, the next one was refused, and what was granted was given back
pub record IsRefusedStore (view : TokenView) (at : AllocId) (requests : List ℕ) (refused : BufferRefused)
    (calls : List MemoryCall) : Type 0 where
  pub granted : List (ℕ × Ref)
  pub left : List ℕ
  pub asked : List MemoryCall
  pub returned : List MemoryCall
  pub requested : requests ≡ map (λ one. one.0) granted ++ left
  pub refusal : IsRefusedAt view at left refused asked
  pub given_back : GivesBack (map (λ one. one.1) granted) returned
  pub order : calls ≡ grants at granted ++ (asked ++ returned)

-- all requests were granted, and gave these buffers; or one was refused
abbrev pub IsStoreAll : {H : Type 0} → (H → Ref) → TokenView → AllocId → List ℕ → Result (Vec (ArrowBuf H) Global) BufferRefused
    → List MemoryCall → Type 0
IsStoreAll reference view at requests (Ok bufs) calls = calls ≡ grants at (map (granted_of reference) bufs.items)
IsStoreAll reference view at requests (Err refused) calls = IsRefusedStore view at requests refused calls
