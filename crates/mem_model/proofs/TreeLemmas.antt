-- What holds of each element and each later one, as a list grows.
use Rattle.std.proofs.Common.{ℕ, ◌+◌, ◌<◌, List, length, get_or, take, arith, All, AllPairs}
use Rattle.std.proofs.lemmas.List.{take_more, get_or-take, get_or_default, length-take}
use Rattle.std.proofs.lemmas.List.Quantifiers.{all_pairs_push}

-- one element more, which each earlier one goes before
pub AllPairs-more : {X : Type 0} (R : X → X → Type 0) (xs : List X) (i : ℕ) (d : X) → i < length xs → AllPairs R (take i xs) → All (λ x. R x (get_or xs i d)) (take i xs) → AllPairs R (take (i + 1) xs)
AllPairs-more R xs i d within pairs before = rw (take_more xs i d within) (all_pairs_push R (take i xs) (get_or xs i d) pairs before)

-- each earlier element goes before the one at i
pub AllPairs-at : {X : Type 0} (R : X → X → Type 0) (xs : List X) (i : ℕ) (d : X) → i < length xs → AllPairs R xs → All (λ x. R x (get_or xs i d)) (take i xs)
AllPairs-at R xs i d within pairs k e inside =
    let below : k < i = omega (arith, length-take i xs) in
    let there : k < length xs = omega arith in
    rw (get_or-take i xs k e below, get_or_default xs k e d there) (pairs k i d below within)
