-- What a chain of calls gave and gave back.
use Rattle.std.proofs.Common.{◌≡◌, ◌+◌, List, [], ◌∷◌, ap, arith}
use Rattle.std.proofs.lemmas.List.Sums.{sum_by-cons}
use Rattle.std.specs.Prelude.{sum_by}
use Rattle.mem_buf.specs.Chain.{MakesCalls}
use Rattle.mem_buf.specs.MemoryCall.{MemoryCall}
use Rattle.mem_alloc.specs.Counts.{taken_by, given_by, running_model}
use Rattle.mem_alloc.specs.RunningToken.{RunningToken}

-- a token counts the references that calls gave, and those that they gave back
pub calls-counted : (calls : List MemoryCall) (old new : RunningToken) → MakesCalls running_model calls old new
    → (new.taken ≡ old.taken + sum_by taken_by calls) × (new.given ≡ old.given + sum_by given_by calls)
calls-counted [] old new same =
    let taken : new.taken ≡ old.taken = ap (λ (token : RunningToken). token.taken) same in
    let given : new.given ≡ old.given = ap (λ (token : RunningToken). token.given) same in
    (omega (arith, taken), omega (arith, given))
calls-counted (call ∷ calls) old new made =
    let rest = calls-counted calls made.0 new made.2 in
    let counts = made.1.meaning in
    (omega (arith, rest.0, counts.taken, sum_by-cons taken_by call calls), omega (arith, rest.1, counts.given, sum_by-cons given_by call calls))
