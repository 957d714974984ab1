-- What a request is charged.
use Rattle.std.specs.Prelude.{◌≡◌, ℕ, zero, suc, ◌^◌, ◌≤◌, ◌<◌, ◌%◌, ◌*◌, ◌/◌, nat_le, nat_lt, if◌then◌else◌}
use Rattle.std.specs.Int.{IsPowerOfTwo}
use Rattle.mem_num.specs.Least.{IsLeast}
use Rattle.mem_num.specs.declared.bounds.TheConstants.{LARGEST}
use Rattle.mem_num.specs.declared.rounding.Rounding.{Rounding}
use Rattle.mem_num.specs.declared.rounding.Rounding.TheVariants.{Power, Segment}

-- the first of 2 ^ k, 2 ^ (suc k), .. that is at least n; the last that is looked at is 2 ^ (k + more)
unfoldable pub power_from : ℕ → ℕ → ℕ → ℕ
power_from zero k n = 2 ^ k
power_from (suc more) k n = if nat_le n (2 ^ k) then 2 ^ k else power_from more (suc k) n

-- the size that a request of n bytes is charged: a power of two from 2 on below 2 ^ 24, and from there on n itself; or a multiple of the segment
unfoldable pub rounded_size : Rounding → ℕ → ℕ
rounded_size policy zero = 0
rounded_size Power (suc n) = if nat_lt (suc n) (2 ^ 24) then power_from 23 1 (suc n) else suc n
rounded_size (Segment s) (suc n) = s * suc (n / s)

-- a policy's condition: a segment is a power of two from 1,024 to the largest size of a buffer
abbrev pub IsPolicy : Rounding → Type 0
IsPolicy Power = Unit {0}
IsPolicy (Segment s) = IsPowerOfTwo s × (1024 ≤ s) × (s ≤ LARGEST)

-- size is what the policy gives a request of n bytes, in the rule's own words
abbrev pub IsRounded : Rounding → ℕ → ℕ → Type 0
IsRounded policy zero size = size ≡ 0
IsRounded Power (suc n) size = (suc n < 2 ^ 24 → IsLeast (λ p. IsPowerOfTwo p × (2 ≤ p) × (suc n ≤ p)) size) × (2 ^ 24 ≤ suc n → size ≡ suc n)
IsRounded (Segment s) (suc n) size = IsLeast (λ m. (m % s ≡ 0) × (suc n ≤ m)) size
