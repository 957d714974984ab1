-- How many references there are in all once one allocator's count changes, in whatever order the ledgers stand.
use Rattle.std.proofs.Common.{◌≡◌, ℕ, zero, suc, ◌+◌, ◌==◌, List, [], ◌∷◌, ◌++◌, Bool, if◌then◌else◌, refl, arith, zero-add, inl, inr}
use Rattle.std.specs.List.{filter}
use Rattle.std.proofs.lemmas.List.Sums.{sum_by-cons, sum_by-append}
use Rattle.std.proofs.lemmas.Bool.{cond-true, cond-false, eq-eqb, ne_eqb, lt-ltb, le-ltb, cases_order, cases_Bool}
use Rattle.mem_model.specs.declared.ledger.Ledger.{Ledger}
use Rattle.mem_model.specs.Ledgers.{count_at, count_of, total_of, is_below, is_above, ledger_of, with_count}

-- the references of the ledgers that pass a test, with one ledger more
kept_total : (test : Ledger → Bool) (x : Ledger) (xs : List Ledger) → total_of (filter test (x ∷ xs)) ≡ (if test x then x.count else 0) + total_of (filter test xs)
kept_total test x xs = elim (cases_Bool (test x)) [
  | inl pass ↦ rw pass (sum_by-cons (λ (y : Ledger). y.count) x (filter test xs))
  | inr fail ↦ rw fail (omega arith)
]

-- each ledger is below n, or of n, or above n
parts_total : (n : ℕ) (xs : List Ledger) → total_of (filter (is_below n) xs) + count_of xs n + total_of (filter (is_above n) xs) ≡ total_of xs
parts_total n [] = refl
parts_total n (x ∷ xs) =
    let low = kept_total (is_below n) x xs in
    let high = kept_total (is_above n) x xs in
    let mine = sum_by-cons (count_at n) x xs in
    let all = sum_by-cons (λ (y : Ledger). y.count) x xs in
    let rest = parts_total n xs in
    elim (cases_order x.at.0 n) [
      | inl same ↦
          let b = cond-false (is_below n x) x.count 0 (le-ltb x.at.0 n (omega (arith, same))) in
          let o = cond-true (x.at.0 == n) x.count 0 (eq-eqb x.at.0 n same) in
          let a = cond-false (is_above n x) x.count 0 (le-ltb n x.at.0 (omega (arith, same))) in
          omega (arith, low, high, mine, all, rest, b, o, a)
      | inr apart ↦ elim apart [
        | inl before ↦
            let b = cond-true (is_below n x) x.count 0 (lt-ltb x.at.0 n before) in
            let o = cond-false (x.at.0 == n) x.count 0 (ne_eqb x.at.0 n (λ e. omega (arith, e, before))) in
            let a = cond-false (is_above n x) x.count 0 (le-ltb n x.at.0 (omega (arith, before))) in
            omega (arith, low, high, mine, all, rest, b, o, a)
        | inr behind ↦
            let b = cond-false (is_below n x) x.count 0 (le-ltb x.at.0 n (omega (arith, behind))) in
            let o = cond-false (x.at.0 == n) x.count 0 (ne_eqb x.at.0 n (λ e. omega (arith, e, behind))) in
            let a = cond-true (is_above n x) x.count 0 (lt-ltb n x.at.0 behind) in
            omega (arith, low, high, mine, all, rest, b, o, a)
      ]
    ]

-- the references of one ledger, if it has any
ledger_total : (n c : ℕ) → total_of (ledger_of n c) ≡ c
ledger_total n zero = refl
ledger_total n (suc c) = zero-add (suc c)

-- the total changes by what the count does
pub changed_total : (xs : List Ledger) (n c : ℕ) → total_of (with_count xs n c) + count_of xs n ≡ total_of xs + c
unfolding with_count
changed_total xs n c =
    let count : Ledger → ℕ = λ ledger. ledger.count in
    omega (
      arith,
      sum_by-append count (filter (is_below n) xs) (ledger_of n c ++ filter (is_above n) xs),
      sum_by-append count (ledger_of n c) (filter (is_above n) xs),
      ledger_total n c,
      parts_total n xs,
    )
