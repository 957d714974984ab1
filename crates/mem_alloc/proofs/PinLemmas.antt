-- Lists of counts.
use Rattle.std.proofs.Common.{◌≡◌, ◌≢◌, ℕ, ◌+◌, ◌<◌, ◌≤◌, List, length, get_or, set, replicate, arith, inl, inr, ap, ◌∙◌}
use Rattle.std.proofs.Common.{get_or-set_other, get_or-set_same, length-set, lit<, ◌^◌, ◌==◌}
use Rattle.std.proofs.lemmas.Bool.{cases_lt, cases_eq, cond-true, cond-false, eq-eqb, ne_eqb}
use Rattle.std.proofs.lemmas.List.{get_or-replicate, get_or_past, length-replicate}
use Rattle.mem_num.specs.declared.alloc_id.AllocId.{AllocId}
use Rattle.mem_buf.specs.Changes.{only_at}
use Rattle.mem_alloc.specs.Pins.{AreSmall, HasMorePins}

-- a list of zeros
abbrev pub zeros : ℕ → List ℕ
zeros n = replicate n 0

-- it has a zero at each place, and past its end
pub no_pins : (n : ℕ) → get_or (zeros 64) n 0 ≡ 0
no_pins n = elim (cases_lt n 64) [
  | inl within ↦ get_or-replicate 64 n 0 0 within
  | inr past ↦ get_or_past (zeros 64) n 0 (omega (arith, length-replicate {A = ℕ}, past))
]

pub zeros_small : AreSmall (zeros 64)
zeros_small n = let e = no_pins n in omega (arith, e)

-- a small count in the place of another
pub set_small : (xs : List ℕ) (i v : ℕ) → AreSmall xs → v < 2 ^ 64 → AreSmall (set xs i v)
set_small xs i v small fits n = elim (cases_lt n (length xs)) [
  | inl inside ↦ elim (cases_eq n i) [
    | inl same ↦ (let within : i < length xs = omega (arith, same, inside) in rw (same, get_or-set_same) fits)
    | inr other ↦ rw get_or-set_other (small n)
  ]
  | inr outside ↦ (let none : get_or (set xs i v) n 0 ≡ 0 = get_or_past (set xs i v) n 0 (omega (arith, length-set {A = ℕ}, outside)) in rw none (lit< tt))
]

-- a number is there at its allocator, and 0 elsewhere
pub only_at-same : (at : AllocId) (more n : ℕ) → n ≡ at.0 → only_at at more n ≡ more
only_at-same at more n same = cond-true (n == at.0) more 0 (eq-eqb n at.0 same)

pub only_at-other : (at : AllocId) (more n : ℕ) → n ≢ at.0 → only_at at more n ≡ 0
only_at-other at more n other = cond-false (n == at.0) more 0 (ne_eqb n at.0 other)

-- a count that grows
pub set_more : (xs : List ℕ) (at : AllocId) (v more : ℕ) → at.0 < length xs → v ≡ get_or xs at.0 0 + more
    → HasMorePins xs (set xs at.0 v) at more
set_more xs at v more within is n = elim (cases_eq n at.0) [
  | inl same ↦ let there = only_at-same at more n same in rw (there, same, get_or-set_same) is
  | inr other ↦ let elsewhere = only_at-other at more n other in rw (get_or-set_other, elsewhere) (omega arith)
]

-- a count that falls
pub set_less : (xs : List ℕ) (at : AllocId) (v less : ℕ) → at.0 < length xs → v + less ≡ get_or xs at.0 0
    → HasMorePins (set xs at.0 v) xs at less
set_less xs at v less within is n = elim (cases_eq n at.0) [
  | inl same ↦ let there = only_at-same at less n same in rw (there, same, get_or-set_same) (omega (arith, is))
  | inr other ↦ let elsewhere = only_at-other at less n other in rw (get_or-set_other, elsewhere) (omega arith)
]

-- one place more has the sum
pub summed_more : (was others xs : List ℕ) (i v : ℕ) → i < length xs → v ≡ get_or xs i 0 + get_or others i 0
    → ((n : ℕ) → n < i → get_or xs n 0 ≡ get_or was n 0 + get_or others n 0) → ((n : ℕ) → i ≤ n → get_or xs n 0 ≡ get_or was n 0)
    → ((n : ℕ) → n < i + 1 → get_or (set xs i v) n 0 ≡ get_or was n 0 + get_or others n 0)
    × ((n : ℕ) → i + 1 ≤ n → get_or (set xs i v) n 0 ≡ get_or was n 0)
summed_more was others xs i v within is done left = (
  (λ n low. elim (cases_lt n i) [
    | inl before ↦ (let other : n ≢ i = omega (arith, before) in rw get_or-set_other (done n before))
    | inr here ↦ (let same : n ≡ i = omega (arith, here, low) in rw (same, get_or-set_same) (is ∙ ap (λ m. m + get_or others i 0) (left i (omega arith))))
  ]),
  (λ n high. let other : n ≢ i = omega (arith, high) in rw get_or-set_other (left n (omega (arith, high)))),
)

-- all places have the sum, and there is nothing past them
pub summed_all : (was others xs : List ℕ) (i : ℕ) → length was ≡ 64 → length others ≡ 64 → length xs ≡ 64 → 64 ≤ i
    → ((n : ℕ) → n < i → get_or xs n 0 ≡ get_or was n 0 + get_or others n 0) → (n : ℕ) → get_or xs n 0 ≡ get_or was n 0 + get_or others n 0
summed_all was others xs i a b c far done n = elim (cases_lt n 64) [
  | inl low ↦ done n (omega (arith, low, far))
  | inr high ↦ (
      let none : (ys : List ℕ) → length ys ≡ 64 → get_or ys n 0 ≡ 0 = λ ys len. get_or_past ys n 0 (omega (arith, len, high)) in
      omega (arith, none was a, none others b, none xs c))
]
