-- What a token of the running tree can pay for.
use Rattle.std.proofs.Common.{◌≤◌, ◌==◌, ℕ, [], ◌∷◌, arith, subst}
use Rattle.std.proofs.lemmas.Bool.{cond_both, eqb-true}
use Rattle.std.proofs.lemmas.List.Sums.{sum_by-cons}
use Rattle.std.specs.Prelude.{if◌then◌else◌}
use Rattle.mem_num.specs.Rounded.{rounded_size}
use Rattle.mem_num.specs.declared.alloc_id.AllocId.{AllocId}
use Rattle.mem_num.specs.declared.bounds.TheConstants.{LARGEST}
use Rattle.mem_num.specs.declared.buffer_ref.Ref.{Ref}
use Rattle.mem_num.specs.declared.rounding.Rounding.TheVariants.{Power}
use Rattle.mem_buf.proofs.PayLemmas.{charged_few}
use Rattle.mem_buf.specs.TokenView.{is_empty, bytes_for, turns_for, turns_to_share}
use Rattle.mem_alloc.specs.RunningToken.{RunningToken, pins_of, running_view}
use Rattle.mem_alloc.specs.Tokens.{times_in}

-- any request, with the bytes of the largest
pub pays_bytes : (token : RunningToken) (at : AllocId) (request : ℕ) → LARGEST ≤ token.bytes
    → bytes_for (running_view token) at request ≤ token.bytes
pays_bytes token at request left = omega (arith, left, charged_few (rounded_size Power request))

-- and with a turn
pub pays_turn : (token : RunningToken) (at : AllocId) (request : ℕ) → 1 ≤ token.turns
    → turns_for (running_view token) at request ≤ token.turns
pays_turn token at request left =
    cond_both (bytes_for (running_view token) at request == 0) 0 1 (λ turns. turns ≤ token.turns) (λ _. omega arith) (λ _. omega (arith, left))

-- any further reference, with a turn
pub pays_to_share : (token : RunningToken) (of : Ref) → 1 ≤ token.turns → turns_to_share of ≤ token.turns
pays_to_share token of left =
    cond_both (is_empty of) 0 1 (λ turns. turns ≤ token.turns) (λ _. omega arith) (λ _. omega (arith, left))

-- a pin on the one allocator that is listed
pub pinned_once : (token : RunningToken) (at : AllocId) → 1 ≤ pins_of token at.0 → (n : ℕ) → times_in (at ∷ []) n ≤ pins_of token n
pinned_once token at pinned n =
    let count = sum_by-cons (λ (listed : AllocId). if listed.0 == n then 1 else 0) at [] in
    let few : (if at.0 == n then 1 else 0) ≤ pins_of token n =
    cond_both (at.0 == n) 1 0 (λ times. times ≤ pins_of token n)
    (λ same. subst (λ m. 1 ≤ pins_of token m) (eqb-true at.0 n same) pinned) (λ _. omega arith) in
    omega (arith, count, few)
