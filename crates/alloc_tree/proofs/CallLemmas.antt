-- What a request for a buffer answers, by the size that it is rounded to.
use Rattle.std.proofs.Common.{◌≡◌, ℕ, ◌≤◌, OkIff, IsErrAnd, Result, Ok, Err, ap, subst}
use Rattle.mem_num.specs.declared.bounds.TheConstants.{LARGEST}
use Rattle.mem_num.specs.declared.alloc_id.AllocId.{AllocId}
use Rattle.mem_num.specs.declared.buffer_ref.Ref.{Ref}
use Rattle.mem_num.specs.declared.too_large.TooLarge.{TooLarge as Large}
use Rattle.mem_num.specs.declared.buffer_refused.BufferRefused.{BufferRefused}
use Rattle.mem_num.specs.declared.buffer_refused.BufferRefused.TheVariants.{TooLarge}

-- what `rounded` answers
pub too_large : {E : Type 0} {r : Result ℕ E} {e : E} (n : ℕ) → r ≡ Err e → OkIff r (n ≤ LARGEST) n → n ≤ LARGEST → ⊥
too_large n is told = subst (λ r. OkIff r (n ≤ LARGEST) n) is told

pub fits_rounded : {E : Type 0} {r : Result ℕ E} {size : ℕ} (n : ℕ) → r ≡ Ok size → OkIff r (n ≤ LARGEST) n
    → (n ≤ LARGEST) × (size ≡ n)
fits_rounded n is told = subst (λ r. OkIff r (n ≤ LARGEST) n) is told

-- the refusal that a cause gives
pub refused_as : (r : Result Ref BufferRefused) (cause : Large) → IsErrAnd r (λ refused. refused ≡ TooLarge cause)
    → r ≡ Err (TooLarge cause)
refused_as (Ok x) cause h = absurd h
refused_as (Err e) cause h = ap Err h

-- the reference of a request for no bytes
pub empty_as : {E : Type 0} (at : AllocId) (size : ℕ) → size ≡ 0
    → ◌≡◌ {A = Result Ref E} (Ok (record { chunk = 0; alloc = at; size = size })) (Ok (record { chunk = 0; alloc = at; size = 0 }))
empty_as at size none = λ i. Ok (record { chunk = 0; alloc = at; size = none i })
