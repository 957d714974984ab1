-- Both rules of rounding give the least number that fits.
use Rattle.std.proofs.Common.{◌≡◌, ℕ, zero, suc, ◌≢◌, ◌+◌, ◌*◌, ◌/◌, ◌%◌, ◌^◌, ◌≤◌, ◌<◌, max, refl, sym, subst, ◌∙◌, arith, inl, inr, leb, ltb, true, false, lit≤}
use Rattle.std.proofs.lemmas.Bool.{cases_lt}
use Rattle.std.proofs.lemmas.Bool.Decides.{nat_tests}
use Rattle.std.proofs.Math.Nat.{pow-le-pow_right, mul-le-mul_left, pow-suc, div-add-mod, mod-lt, mod-eq_of_lt, mul-mod_right}
use Rattle.std.specs.Int.{IsPowerOfTwo}
use Rattle.mem_num.specs.Least.{IsLeast}
use Rattle.mem_num.specs.Rounded.{power_from, rounded_size, IsRounded, IsPolicy}
use Rattle.mem_num.specs.declared.rounding.Rounding.{Rounding}
use Rattle.mem_num.specs.declared.rounding.Rounding.TheVariants.{Power, Segment}

-- two least numbers are one
pub IsLeast-one : {P : ℕ → Type 0} {a b : ℕ} → IsLeast P a → IsLeast P b → a ≡ b
IsLeast-one p q = omega (arith, p.least _ q.meets, q.least _ p.meets)

-- what a power of two has to be, to be given for a request of n bytes
abbrev pub Fitting : ℕ → ℕ → Type 0
Fitting n p = IsPowerOfTwo p × (2 ≤ p) × (n ≤ p)

below-one : (j : ℕ) → 2 ≤ 2 ^ j → 1 ≤ j
below-one zero h = absurd (omega (arith, h))
below-one (suc j) h = omega arith

two_le : (k : ℕ) → 1 ≤ k → 2 ≤ 2 ^ k
two_le k h = let e : 2 ^ 1 ≤ 2 ^ k = pow-le-pow_right (lit≤ tt) h in e

at_power : (k n : ℕ) → 1 ≤ k → n ≤ 2 ^ k → ((j : ℕ) → 1 ≤ j → j < k → 2 ^ j < n) → IsLeast (Fitting n) (2 ^ k)
at_power k n positive fits below = record {
  meets = ((k, refl), two_le k positive, fits);
  least = λ m h. let j = h.0.0 in
      let e : m ≡ 2 ^ j = h.0.1 in
      let one : 1 ≤ j = below-one j (omega (arith, e, h.1)) in
      elim (cases_lt j k) [
        | inl lt ↦ absurd (omega (arith, e, below j one lt, h.2))
        | inr le ↦ (let up : 2 ^ k ≤ 2 ^ j = pow-le-pow_right (lit≤ tt) le in omega (arith, e, up))
      ];
}

power_from-least : (more k n : ℕ) → 1 ≤ k → n ≤ 2 ^ (k + more) → ((j : ℕ) → 1 ≤ j → j < k → 2 ^ j < n) → IsLeast (Fitting n) (power_from more k n)
unfolding power_from
power_from-least zero k n one fits below = at_power k n one (let e : k + 0 ≡ k = omega arith in subst (λ i. n ≤ 2 ^ i) e fits) below
power_from-least (suc more) k n one fits below =
    elim (cases_lt (2 ^ k) n) [
      | inl lt ↦ (let t : leb n (2 ^ k) ≡ false = grind (arith, nat_tests) in rw t
          (power_from-least more (suc k) n (omega arith) (let e : k + suc more ≡ suc k + more = omega arith in subst (λ i. n ≤ 2 ^ i) e fits)
          (λ j pos lt'. elim (cases_lt j k) [ inl less ↦ below j pos less | inr ge ↦ (let same : k ≡ j = omega arith in subst (λ i. 2 ^ i < n) same lt) ])))
      | inr le ↦ (let t : leb n (2 ^ k) ≡ true = grind (arith, nat_tests) in rw t (at_power k n one le below))
    ]

pub rounded_size-power : (n : ℕ) → suc n < 2 ^ 24 → IsLeast (Fitting (suc n)) (rounded_size Power (suc n))
unfolding rounded_size
rounded_size-power n small =
    let t : ltb (suc n) (2 ^ 24) ≡ true = grind (arith, nat_tests) in
    rw t (power_from-least 23 1 (suc n) (lit≤ tt) (omega arith) (λ j pos lt. absurd (omega arith)))

pub rounded_size-large : (n : ℕ) → 2 ^ 24 ≤ suc n → rounded_size Power (suc n) ≡ suc n
unfolding rounded_size
rounded_size-large n large =
    let t : ltb (suc n) (2 ^ 24) ≡ false = grind (arith, nat_tests) in rw t

-- what `next_power_of_two` gives is the least
pub next_power-least : (n r : ℕ) → 1 ≤ n → IsPowerOfTwo r → max n 2 ≤ r → r / 2 < max 1 (max n 2) → IsLeast (Fitting n) r
next_power-least n r pos power lower upper = record {
  meets = (power, omega arith, omega arith);
  least = λ m h. let j = h.0.0 in
      let e : m ≡ 2 ^ j = h.0.1 in
      let is : r ≡ 2 ^ power.0 = power.1 in
      elim (cases_lt j power.0) [
        | inl lt ↦ (let up : 2 ^ (suc j) ≤ 2 ^ power.0 = pow-le-pow_right (lit≤ tt) lt in
            let twice : 2 ^ suc j ≡ 2 * 2 ^ j = grind (arith, pow-suc) in
            let two : 2 ≤ m = h.1 in
            let big : n ≤ m = h.2 in
            absurd (omega (arith, e, is, up, twice)))
        | inr le ↦ (let up : 2 ^ power.0 ≤ 2 ^ j = pow-le-pow_right (lit≤ tt) le in omega (arith, e, is, up))
      ];
}

-- so a power that std finds is the rounded size
pub power-is : (n r : ℕ) → n ≢ 0 → n < 2 ^ 24 → IsPowerOfTwo r → max n 2 ≤ r → r / 2 < max 1 (max n 2) → r ≡ rounded_size Power n
power-is zero r some small power lower upper = absurd (some refl)
power-is (suc n) r some small power lower upper = IsLeast-one (next_power-least (suc n) r (omega arith) power lower upper) (rounded_size-power n small)

pub large-is : (n : ℕ) → 2 ^ 24 ≤ n → n ≡ rounded_size Power n
large-is zero h = absurd (omega arith)
large-is (suc n) h = sym (rounded_size-large n h)

-- a multiple of s that is less than s above n is the least that is at least n
pub multiple-least : (n s r : ℕ) → 0 < s → r % s ≡ 0 → n ≤ r → r < n + s → IsLeast (λ m. (m % s ≡ 0) × (n ≤ m)) r
multiple-least n s r pos multiple lower upper = record {
  meets = (multiple, lower);
  least = λ m h.
      let whole : s * (r / s) + r % s ≡ r = div-add-mod r s in
      let other : s * (m / s) + m % s ≡ m = div-add-mod m s in
      elim (cases_lt (m / s) (r / s)) [
        | inl lt ↦ (let step : s * suc (m / s) ≤ s * (r / s) = mul-le-mul_left s lt in
            let e : s * suc (m / s) ≡ s * (m / s) + s = grind arith in
            absurd (omega (arith, whole, other, step, e, h.0, h.1, multiple)))
        | inr le ↦ (let step : s * (r / s) ≤ s * (m / s) = mul-le-mul_left s le in omega (arith, whole, other, step, h.0, multiple))
      ];
}

pub segment_pos : (s : ℕ) → 1024 ≤ s → 0 < s
segment_pos s h = omega arith

pub rounded_size-zero : (policy : Rounding) (n : ℕ) → n ≡ 0 → 0 ≡ rounded_size policy n
unfolding rounded_size
rounded_size-zero policy zero e = refl
rounded_size-zero policy (suc n) e = cc

segment-least : (n s : ℕ) → 0 < s → IsLeast (λ m. (m % s ≡ 0) × (suc n ≤ m)) (rounded_size (Segment s) (suc n))
unfolding rounded_size
segment-least n s pos =
    let parts : s * (n / s) + n % s ≡ n = div-add-mod n s in
    let small : n % s < s = mod-lt n pos in
    let next : s * suc (n / s) ≡ s * (n / s) + s = grind arith in
    multiple-least (suc n) s (s * suc (n / s)) pos (mul-mod_right s (suc (n / s))) (omega (arith, parts, small, next)) (omega (arith, parts, small, next))

-- so a multiple that std finds is the rounded size
pub multiple-is : (n s r : ℕ) → 0 < s → r % s ≡ 0 → n ≤ r → r < n + s → r ≡ rounded_size (Segment s) n
multiple-is zero s r pos multiple lower upper = sym (mod-eq_of_lt (omega arith)) ∙ multiple ∙ rounded_size-zero (Segment s) zero refl
multiple-is (suc n) s r pos multiple lower upper = IsLeast-one (multiple-least (suc n) s r pos multiple lower upper) (segment-least n s pos)

-- the rule in its own words
pub rounded_rule : (policy : Rounding) (n : ℕ) → IsPolicy policy → IsRounded policy n (rounded_size policy n)
rounded_rule policy zero ok = sym (rounded_size-zero policy zero refl)
rounded_rule Power (suc n) ok = (rounded_size-power n, rounded_size-large n)
rounded_rule (Segment s) (suc n) ok = segment-least n s (omega (arith, ok.1))

-- the size is at least the request
pub rounded_lower : (policy : Rounding) (n : ℕ) → IsPolicy policy → n ≤ rounded_size policy n
rounded_lower policy zero ok = omega arith
rounded_lower Power (suc n) ok = elim (cases_lt (suc n) (2 ^ 24)) [
  | inl small ↦ (let h : IsLeast (Fitting (suc n)) (rounded_size Power (suc n)) = rounded_size-power n small in h.meets.2)
  | inr large ↦ omega (arith, rounded_size-large n large)
]
rounded_lower (Segment s) (suc n) ok = let h : IsLeast (λ m. (m % s ≡ 0) × (suc n ≤ m)) (rounded_size (Segment s) (suc n)) = segment-least n s (omega (arith, ok.1)) in h.meets.1

-- a number is a power of two where the next one is the number itself
pub next_power-same : (n r : ℕ) → 2 ≤ n → IsPowerOfTwo r → n ≤ r → r / 2 < max 1 n → IsPowerOfTwo n → r ≡ n
next_power-same n r two power lower upper of_two =
    let least : IsLeast (Fitting n) r = next_power-least n r (omega arith) power (omega arith) (omega arith) in
    omega (arith, lower, least.least n (of_two, two, omega arith))
