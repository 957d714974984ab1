-- The ledgers of a chunk, as a list in order of number.
use Rattle.std.specs.Prelude.{◌≡◌, ◌≢◌, ℕ, zero, suc, ◌<◌, ◌≤◌, ◌==◌, Bool, nat_lt, if◌then◌else◌, List, [], ◌∷◌, ◌++◌, All, AllPairs, filter, sum_by}
use Rattle.mem_model.specs.declared.ledger.Ledger.{Ledger}

-- what a ledger counts for the allocator n
abbrev pub count_at : ℕ → Ledger → ℕ
count_at n ledger = if ledger.at.0 == n then ledger.count else 0

-- how many references the allocator n has
abbrev pub count_of : List Ledger → ℕ → ℕ
count_of ledgers n = sum_by (count_at n) ledgers

-- how many references there are
abbrev pub total_of : List Ledger → ℕ
total_of ledgers = sum_by (λ ledger. ledger.count) ledgers

-- whether a ledger is of an allocator with a smaller number than n
abbrev pub is_below : ℕ → Ledger → Bool
is_below n ledger = nat_lt ledger.at.0 n

-- whether a ledger is of an allocator with a greater number than n
abbrev pub is_above : ℕ → Ledger → Bool
is_above n ledger = nat_lt n ledger.at.0

-- the ledger of the allocator n, if it has any reference
abbrev pub ledger_of : ℕ → ℕ → List Ledger
ledger_of n zero = []
ledger_of n (suc c) = record { at = record { 0 = n }; count = suc c } ∷ []

-- the same ledgers, but for the allocator n, which has c references
unfoldable pub with_count : List Ledger → ℕ → ℕ → List Ledger
with_count ledgers n c = filter (is_below n) ledgers ++ (ledger_of n c ++ filter (is_above n) ledgers)

-- at most one ledger an allocator, in order of number, and none without a reference
pub record AreInOrder (ledgers : List Ledger) : Type 0 where
  pub ordered : AllPairs (λ before after. before.at.0 < after.at.0) ledgers
  pub counted : All (λ ledger. 1 ≤ ledger.count) ledgers

-- the allocator n has c references now, and every other as many as before
pub record ChangesCount (old new : List Ledger) (n c : ℕ) : Type 0 where
  pub changed : count_of new n ≡ c
  pub others : (m : ℕ) → m ≢ n → count_of new m ≡ count_of old m
