-- What calls of a memory come to, one after the other.
use Rattle.std.specs.Prelude.{◌≡◌, List, [], ◌∷◌}
use Rattle.mem_num.specs.declared.buffer_ref.Ref.{Ref}
use Rattle.mem_buf.specs.TokenView.{TokenView}
use Rattle.mem_buf.specs.MemoryCall.{MemoryCall}
use Rattle.mem_buf.specs.Answers.{IsAnswer}
use Rattle.mem_buf.specs.Changes.{ChangesView}

-- what a memory says of itself: what a token shows, the reference that a hold is, and what each call with its answer means, from
-- the token before to the token after
pub record MemoryModel (Token Hold : Type 0) : Type 1 where
  pub view : Token → TokenView
  pub reference : Hold → Ref
  pub means : MemoryCall → Token → Token → Type 0

module _ {Token Hold : Type 0} (memory : MemoryModel Token Hold) where
  -- a call was made: it may have its answer, the token shows no other change than it may, and it has its meaning
  pub record MakesCall (call : MemoryCall) (old new : Token) : Type 0 where
    pub answer : IsAnswer (memory.view old) call
    pub view : ChangesView call (memory.view old) (memory.view new)
    pub meaning : memory.means call old new

  -- just these calls were made, one after the other
  abbrev pub MakesCalls : List MemoryCall → Token → Token → Type 0
  MakesCalls [] old new = new ≡ old
  MakesCalls (call ∷ calls) old new = (middle : Token) × MakesCall call old middle × MakesCalls calls middle new

  -- some calls that are as said were made, and no others
  abbrev pub Runs : (List MemoryCall → Type 0) → Token → Token → Type 0
  Runs Are old new = (calls : List MemoryCall) × MakesCalls calls old new × Are calls
