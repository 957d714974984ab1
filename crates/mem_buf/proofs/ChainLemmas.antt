-- Chains of calls, one after another.
use Rattle.std.proofs.Common.{◌≡◌, ◌+◌, ◌≤◌, List, [], ◌∷◌, ◌++◌, length, refl, subst, sym, ap, arith}
use Rattle.std.specs.Prelude.{Bool, true, false, if◌then◌else◌}
use Rattle.mem_buf.specs.TokenView.{TokenView}
use Rattle.mem_buf.specs.MemoryCall.{MemoryCall, Child, Unpin, Close, Grant, Retain, Transfer, Release}
use Rattle.mem_buf.specs.Changes.{KeepsNames, turns_of}
use Rattle.mem_buf.specs.Chain.{MemoryModel, MakesCall, MakesCalls}

-- names that are kept twice are kept
pub KeepsNames-trans : (old middle new : TokenView) → KeepsNames old middle → KeepsNames middle new → KeepsNames old new
KeepsNames-trans old middle new first second = record {
  rounding = λ n policy named. second.rounding n policy (first.rounding n policy named);
  limit = λ n limit known. second.limit n limit (first.limit n limit known);
}

pub KeepsNames-refl : (view : TokenView) → KeepsNames view view
KeepsNames-refl view = record { rounding = λ n policy named. named; limit = λ n limit known. known }

-- a test tells at most one turn
one_at_most : (none : Bool) → (if none then 0 else 1) ≤ 1
one_at_most true = omega arith
one_at_most false = omega arith

-- a call spends at most one turn
pub turns_of-one : (view : TokenView) (call : MemoryCall) → turns_of view call ≤ 1
turns_of-one view (Child parent reservation limit answer) = omega arith
turns_of-one view (Unpin at) = omega arith
turns_of-one view (Close at answer) = omega arith
turns_of-one view (Grant at request answer) = one_at_most _
turns_of-one view (Retain of target answer) = one_at_most _
turns_of-one view (Transfer of target answer) = one_at_most _
turns_of-one view (Release of answer) = omega arith

module _ {Token Hold : Type 0} (memory : MemoryModel Token Hold) where
  -- one call is a chain
  pub MakesCalls-one : (call : MemoryCall) (old new : Token) → MakesCall memory call old new → MakesCalls memory (call ∷ []) old new
  MakesCalls-one call old new made = (new, made, refl)

  -- a chain behind a chain is a chain
  pub MakesCalls-append : (first second : List MemoryCall) (old middle new : Token) → MakesCalls memory first old middle
      → MakesCalls memory second middle new → MakesCalls memory (first ++ second) old new
  MakesCalls-append [] second old middle new same calls = subst (λ token. MakesCalls memory second token new) same calls
  MakesCalls-append (call ∷ first) second old middle new made calls =
      (made.0, made.1, MakesCalls-append first second made.0 middle new made.2 calls)

  -- a call behind a chain
  pub MakesCalls-snoc : (first : List MemoryCall) (call : MemoryCall) (old middle new : Token) → MakesCalls memory first old middle
      → MakesCall memory call middle new → MakesCalls memory (first ++ call ∷ []) old new
  MakesCalls-snoc first call old middle new made last =
      MakesCalls-append first (call ∷ []) old middle new made (MakesCalls-one call middle new last)

  -- a chain of one call is that call
  pub MakesCalls-only : (calls : List MemoryCall) (call : MemoryCall) (old new : Token) → calls ≡ call ∷ []
      → MakesCalls memory calls old new → MakesCall memory call old new
  MakesCalls-only calls call old new same made =
      let one : MakesCalls memory (call ∷ []) old new = subst (λ list. MakesCalls memory list old new) same made in
      subst (λ token. MakesCall memory call old token) (sym one.2) one.1

  -- a chain of two parts is cut between them
  pub MakesCalls-cut : (first second : List MemoryCall) (old new : Token) → MakesCalls memory (first ++ second) old new
      → (middle : Token) × MakesCalls memory first old middle × MakesCalls memory second middle new
  MakesCalls-cut [] second old new made = (old, refl, made)
  MakesCalls-cut (call ∷ first) second old new made =
      let rest = MakesCalls-cut first second made.0 new made.2 in
      (rest.0, (made.0, made.1, rest.1), rest.2)

  -- what could be named before some calls can be named after them
  pub MakesCalls-names : (calls : List MemoryCall) (old new : Token) → MakesCalls memory calls old new
      → KeepsNames (memory.view old) (memory.view new)
  MakesCalls-names [] old new same = subst (λ token. KeepsNames (memory.view old) (memory.view token)) (sym same) (KeepsNames-refl _)
  MakesCalls-names (call ∷ calls) old new made =
      KeepsNames-trans _ _ _ made.1.view.names (MakesCalls-names calls made.0 new made.2)

  -- some calls spend at most as many turns as they are
  pub MakesCalls-turns : (calls : List MemoryCall) (old new : Token) → MakesCalls memory calls old new
      → (memory.view old).turns ≤ (memory.view new).turns + length calls
  MakesCalls-turns [] old new same = let turns = ap (λ token. (memory.view token).turns) same in omega (arith, turns)
  MakesCalls-turns (call ∷ calls) old new made =
      let first = made.1.view.turns in
      let rest = MakesCalls-turns calls made.0 new made.2 in
      omega (arith, first, rest, turns_of-one (memory.view old) call)
