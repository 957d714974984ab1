-- Longer buffers are charged no less.
use Rattle.std.proofs.Common.{◌≡◌, ℕ, zero, suc, ◌+◌, ◌^◌, ◌≤◌, ◌<◌, ◌∙◌, refl, arith, inl, inr, leb, ltb, true, false, lit≤}
use Rattle.std.proofs.Common.{ap, sym}
use Rattle.std.specs.Prelude.{List, [], ◌∷◌, map, filter, sum, sum_by, nat_lt, cond}
use Rattle.std.proofs.lemmas.Bool.{cases_lt}
use Rattle.std.proofs.lemmas.Bool.Decides.{nat_tests}
use Rattle.std.proofs.Math.Nat.{pow-le-pow_right}
use Rattle.std.proofs.lemmas.List.Sums.{sum_by-cons}
use Rattle.mem_num.specs.Rounded.{power_from, rounded_size}
use Rattle.mem_num.specs.declared.bounds.TheConstants.{LARGEST}
use Rattle.mem_num.specs.declared.rounding.Rounding.TheVariants.{Power}
use Rattle.query_model.specs.Buffers.{sizes_of}

-- the first power that is looked at is the least that is given
power_from-lower : (more k n : ℕ) → 2 ^ k ≤ power_from more k n
unfolding power_from
power_from-lower zero k n = omega arith
power_from-lower (suc more) k n = elim (cases_lt (2 ^ k) n) [
  | inl lt ↦ (let t : leb n (2 ^ k) ≡ false = grind (arith, nat_tests) in
      let up : 2 ^ k ≤ 2 ^ suc k = pow-le-pow_right (lit≤ tt) (omega arith) in
      let later = power_from-lower more (suc k) n in
      rw t (omega (arith, up, later)))
  | inr le ↦ (let t : leb n (2 ^ k) ≡ true = grind (arith, nat_tests) in rw t (omega arith))
]

-- the last one is the greatest
pub power_from-upper : (more k n : ℕ) → power_from more k n ≤ 2 ^ (k + more)
unfolding power_from
power_from-upper zero k n = let same : 2 ^ k ≡ 2 ^ (k + 0) = ap (λ i. 2 ^ i) (omega arith) in omega (arith, same)
power_from-upper (suc more) k n = elim (cases_lt (2 ^ k) n) [
  | inl lt ↦ (let t : leb n (2 ^ k) ≡ false = grind (arith, nat_tests) in
      let later = power_from-upper more (suc k) n in
      let same : 2 ^ (suc k + more) ≡ 2 ^ (k + suc more) = ap (λ i. 2 ^ i) (omega arith) in
      rw t (omega (arith, later, same)))
  | inr le ↦ (let t : leb n (2 ^ k) ≡ true = grind (arith, nat_tests) in
      let up : 2 ^ k ≤ 2 ^ (k + suc more) = pow-le-pow_right (lit≤ tt) (omega arith) in
      rw t up)
]

-- a greater number has no lesser power
power_from-rises : (more k n m : ℕ) → n ≤ m → power_from more k n ≤ power_from more k m
unfolding power_from
power_from-rises zero k n m h = omega arith
power_from-rises (suc more) k n m h = elim (cases_lt (2 ^ k) n) [
  | inl lt ↦ (let t : leb n (2 ^ k) ≡ false = grind (arith, nat_tests) in
      let u : leb m (2 ^ k) ≡ false = grind (arith, nat_tests) in
      rw t (rw u (power_from-rises more (suc k) n m h)))
  | inr le ↦ (let t : leb n (2 ^ k) ≡ true = grind (arith, nat_tests) in
      let lower : 2 ^ k ≤ power_from (suc more) k m = power_from-lower (suc more) k m in
      rw t lower)
]

-- a longer buffer is charged no less
pub rounded_size-rises : (n m : ℕ) → n ≤ m → rounded_size Power n ≤ rounded_size Power m
unfolding rounded_size
rounded_size-rises zero m h = omega arith
rounded_size-rises (suc n) zero h = absurd (omega (arith, h))
rounded_size-rises (suc n) (suc m) h = elim (cases_lt (suc m) (2 ^ 24)) [
  | inl lt ↦ (let t : ltb (suc n) (2 ^ 24) ≡ true = grind (arith, nat_tests) in
      let u : ltb (suc m) (2 ^ 24) ≡ true = grind (arith, nat_tests) in
      rw t (rw u (power_from-rises 23 1 (suc n) (suc m) h)))
  | inr le ↦ (let u : ltb (suc m) (2 ^ 24) ≡ false = grind (arith, nat_tests) in
      rw u (elim (cases_lt (suc n) (2 ^ 24)) [
        | inl lt ↦ (let t : ltb (suc n) (2 ^ 24) ≡ true = grind (arith, nat_tests) in
            let upper : power_from 23 1 (suc n) ≤ 2 ^ 24 = power_from-upper 23 1 (suc n) in
            rw t (omega (arith, upper, le)))
        | inr large ↦ (let t : ltb (suc n) (2 ^ 24) ≡ false = grind (arith, nat_tests) in rw t h)
      ]))
]

-- what is charged more than the largest size is charged what it is long
pub charged_whole : (n : ℕ) → LARGEST < rounded_size Power n → n ≡ rounded_size Power n
unfolding rounded_size
charged_whole zero large = absurd (omega (arith, large))
charged_whole (suc n) large = elim (cases_lt (suc n) (2 ^ 24)) [
  | inl lt ↦ (let t : ltb (suc n) (2 ^ 24) ≡ true = grind (arith, nat_tests) in
      let upper : power_from 23 1 (suc n) ≤ 2 ^ 24 = power_from-upper 23 1 (suc n) in
      let same : rounded_size Power (suc n) ≡ power_from 23 1 (suc n) = ap (λ b. cond b (power_from 23 1 (suc n)) (suc n)) t in
      absurd (omega (arith, upper, same, large)))
  | inr le ↦ (let t : ltb (suc n) (2 ^ 24) ≡ false = grind (arith, nat_tests) in
      sym (ap (λ b. cond b (power_from 23 1 (suc n)) (suc n)) t))
]

-- a buffer of no bytes is charged nothing
rounded_size-none : rounded_size Power 0 ≡ 0
unfolding rounded_size
rounded_size-none = refl

-- so an empty buffer may be counted too
pub sum-sizes_of : (length : ℕ) (lengths : List ℕ) →
    sum (sizes_of (length ∷ lengths)) ≡ rounded_size Power length + sum (sizes_of lengths)
sum-sizes_of zero lengths = let none = rounded_size-none in omega (arith, none)
sum-sizes_of (suc n) lengths =
    let some : ltb 0 (suc n) ≡ true = grind (arith, nat_tests) in
    let rest : List ℕ = filter (nat_lt 0) lengths in
    ap (λ passes. sum (map (rounded_size Power) (cond passes (suc n ∷ rest) rest))) some
    ∙ sum_by-cons (λ size. size) (rounded_size Power (suc n)) (sizes_of lengths)

-- the sizes of buffers together, the empty ones too
pub sizes-summed : (lengths : List ℕ) → sum (sizes_of lengths) ≡ sum_by (rounded_size Power) lengths
sizes-summed [] = refl
sizes-summed (length ∷ lengths) =
    let a = sum_by-cons (rounded_size Power) length lengths in
    let b = sum-sizes_of length lengths in
    let c = sizes-summed lengths in
    omega (arith, a, b, c)
