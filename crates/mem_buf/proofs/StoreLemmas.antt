-- What the storing of bytes in a buffer comes to.
use Rattle.std.proofs.Common.{ℕ, ◌≤◌, true, refl, arith, [], ◌∷◌}
use Rattle.std.specs.Prelude.{Result, Ok, Err}
use Rattle.mem_num.specs.declared.bounds.TheConstants.{LARGEST}
use Rattle.mem_num.specs.declared.alloc_id.AllocId.{AllocId}
use Rattle.mem_num.specs.declared.buffer_ref.Ref.{Ref}
use Rattle.mem_num.specs.declared.buffer_refused.BufferRefused.{BufferRefused}
use Rattle.mem_num.specs.declared.buffer_refused.BufferRefused.TheVariants.{TooLarge, Closed, Full, NoMemory}
use Rattle.mem_buf.specs.TokenView.{TokenView}
use Rattle.mem_buf.specs.MemoryCall.{Grant}
use Rattle.mem_buf.specs.Answers.{IsGrantAnswer}
use Rattle.mem_buf.specs.Callers.{IsStore}

-- a buffer that is small enough is asked for, and the answer is the memory's
pub IsStore-asked : (view : TokenView) (at : AllocId) (request size : ℕ) (answer : Result Ref BufferRefused) → size ≤ LARGEST
    → IsGrantAnswer view at request size answer → IsStore at request size answer (Grant at request answer ∷ [])
IsStore-asked view at request size (Ok given) few is = refl
IsStore-asked view at request size (Err (TooLarge refused)) few is = let large = is.0 in absurd (omega arith)
IsStore-asked view at request size (Err (Closed refused)) few is = refl
IsStore-asked view at request size (Err (Full full)) few is = refl
IsStore-asked view at request size (Err NoMemory) few is = (true, refl)
