-- One ledger of a list in order, and those behind it.
use Rattle.std.proofs.Common.{◌≡◌, ◌≢◌, ℕ, suc, ◌+◌, ◌<◌, ◌≤◌, ◌==◌, inl, inr, cond, List, [], ◌∷◌, ◌++◌, refl, ◌∙◌, ap, arith, zero-add}
use Rattle.std.specs.List.{All, filter}
use Rattle.std.proofs.lemmas.Bool.{cond-true, cond-false, lt-ltb, le-ltb, eq-eqb, ne_eqb, cases_order}
use Rattle.std.proofs.lemmas.List.Sums.{sum_by-cons}
use Rattle.std.proofs.lemmas.List.Elements.{All-head, All-tail, All-cons, All-weaker}
use Rattle.mem_model.specs.declared.ledger.Ledger.{Ledger}
use Rattle.mem_model.specs.Ledgers.{count_at, count_of, is_below, is_above, ledger_of, with_count, AreInOrder}
use Rattle.mem_model.specs.LedgerPlace.{place_in}

-- the number of a ledger stands before those of all later ones
pub later-above : (x : Ledger) (xs : List Ledger) → AreInOrder (x ∷ xs) → All (λ y. x.at.0 < y.at.0) xs
later-above x xs order k d within = order.ordered 0 (suc k) d (omega arith) (omega arith)

-- the later ones are in order
pub AreInOrder-tail : (x : Ledger) (xs : List Ledger) → AreInOrder (x ∷ xs) → AreInOrder xs
AreInOrder-tail x xs order = record {
  ordered = λ i j d before within. order.ordered (suc i) (suc j) d (omega arith) (omega arith);
  counted = All-tail (λ ledger. 1 ≤ ledger.count) x xs order.counted;
}

-- none of them is below n where each is from n on
filter-below_none : (n : ℕ) (xs : List Ledger) → All (λ y. n ≤ y.at.0) xs → filter (is_below n) xs ≡ []
filter-below_none n [] from = refl
filter-below_none n (x ∷ xs) from =
    cond-false (is_below n x) (x ∷ filter (is_below n) xs) (filter (is_below n) xs) (le-ltb x.at.0 n (All-head (λ y. n ≤ y.at.0) x xs from))
    ∙ filter-below_none n xs (All-tail (λ y. n ≤ y.at.0) x xs from)

-- all of them are above n where each is
filter-above_all : (n : ℕ) (xs : List Ledger) → All (λ y. n < y.at.0) xs → filter (is_above n) xs ≡ xs
filter-above_all n [] above = refl
filter-above_all n (x ∷ xs) above =
    cond-true (is_above n x) (x ∷ filter (is_above n) xs) (filter (is_above n) xs) (lt-ltb n x.at.0 (All-head (λ y. n < y.at.0) x xs above))
    ∙ ap (λ ys. x ∷ ys) (filter-above_all n xs (All-tail (λ y. n < y.at.0) x xs above))

-- n has no reference where each ledger is of another allocator
pub count_of-none : (n : ℕ) (xs : List Ledger) → All (λ y. y.at.0 ≢ n) xs → count_of xs n ≡ 0
count_of-none n [] others = refl
count_of-none n (x ∷ xs) others =
    let here : count_at n x ≡ 0 = cond-false (x.at.0 == n) x.count 0 (ne_eqb x.at.0 n (All-head (λ y. y.at.0 ≢ n) x xs others)) in
    let rest : count_of xs n ≡ 0 = count_of-none n xs (All-tail (λ y. y.at.0 ≢ n) x xs others) in
    let whole : count_of (x ∷ xs) n ≡ count_at n x + count_of xs n = sum_by-cons (count_at n) x xs in
    omega arith

-- no ledger stands before the place of n where each is from n on
place_in-none : (n : ℕ) (xs : List Ledger) → All (λ y. n ≤ y.at.0) xs → place_in xs n ≡ 0
place_in-none n [] from = refl
place_in-none n (x ∷ xs) from =
    sum_by-cons (λ y. cond (is_below n y) 1 0) x xs
    ∙ (ap (λ c. c + place_in xs n) (cond-false (is_below n x) 1 0 (le-ltb x.at.0 n (All-head (λ y. n ≤ y.at.0) x xs from)))
    ∙ omega (arith, place_in-none n xs (All-tail (λ y. n ≤ y.at.0) x xs from)))

-- the first ledger is of a smaller number: what n has, it has in the rest
pub record IsBelow (x : Ledger) (xs : List Ledger) (n : ℕ) : Type 0 where
  pub before : x.at.0 < n
  pub count : count_of (x ∷ xs) n ≡ count_of xs n
  pub place : place_in (x ∷ xs) n ≡ suc (place_in xs n)
  pub changed : (c : ℕ) → with_count (x ∷ xs) n c ≡ x ∷ with_count xs n c

-- the first ledger is that of n
pub record IsHere (x : Ledger) (xs : List Ledger) (n : ℕ) : Type 0 where
  pub same : x.at.0 ≡ n
  pub count : count_of (x ∷ xs) n ≡ x.count
  pub place : place_in (x ∷ xs) n ≡ 0
  pub changed : (c : ℕ) → with_count (x ∷ xs) n c ≡ ledger_of n c ++ xs
  pub later : All (λ y. n < y.at.0) xs
  pub some : 1 ≤ x.count

-- the first ledger is of a greater number: n has none
pub record IsAbove (x : Ledger) (xs : List Ledger) (n : ℕ) : Type 0 where
  pub behind : n < x.at.0
  pub count : count_of (x ∷ xs) n ≡ 0
  pub place : place_in (x ∷ xs) n ≡ 0
  pub changed : (c : ℕ) → with_count (x ∷ xs) n c ≡ ledger_of n c ++ x ∷ xs
  pub later : All (λ y. n < y.at.0) (x ∷ xs)

-- each of these from where the number stands
pub below : (x : Ledger) (xs : List Ledger) (n : ℕ) → x.at.0 < n → IsBelow x xs n
unfolding with_count
below x xs n before = record {
  before = before;
  count = sum_by-cons (count_at n) x xs ∙ (ap (λ c. c + count_of xs n) (cond-false (x.at.0 == n) x.count 0 (ne_eqb x.at.0 n (λ e. omega arith))) ∙ zero-add (count_of xs n));
  place = sum_by-cons (λ y. cond (is_below n y) 1 0) x xs
      ∙ (ap (λ c. c + place_in xs n) (cond-true (is_below n x) 1 0 (lt-ltb x.at.0 n before)) ∙ omega arith);
  changed = λ c. ap (λ low. low ++ (ledger_of n c ++ filter (is_above n) (x ∷ xs))) (cond-true (is_below n x) (x ∷ filter (is_below n) xs) (filter (is_below n) xs) (lt-ltb x.at.0 n before))
      ∙ ap (λ high. x ∷ (filter (is_below n) xs ++ (ledger_of n c ++ high))) (cond-false (is_above n x) (x ∷ filter (is_above n) xs) (filter (is_above n) xs) (le-ltb n x.at.0 (omega arith)));
}

pub here : (x : Ledger) (xs : List Ledger) (n : ℕ) → AreInOrder (x ∷ xs) → x.at.0 ≡ n → IsHere x xs n
unfolding with_count
here x xs n order same =
    let later : All (λ y. n < y.at.0) xs = λ k d within. rw (← same) (later-above x xs order k d within) in
    let others : All (λ y. y.at.0 ≢ n) xs = λ k d within e. omega (arith, later k d within) in
    let from : All (λ y. n ≤ y.at.0) xs = λ k d within. omega (arith, later k d within) in
    record {
      same = same;
      count = sum_by-cons (count_at n) x xs
          ∙ (ap (λ c. c + count_of xs n) (cond-true (x.at.0 == n) x.count 0 (eq-eqb x.at.0 n same)) ∙ omega (arith, count_of-none n xs others));
      place = sum_by-cons (λ y. cond (is_below n y) 1 0) x xs
          ∙ (ap (λ c. c + place_in xs n) (cond-false (is_below n x) 1 0 (le-ltb x.at.0 n (omega arith))) ∙ omega (arith, place_in-none n xs from));
      changed = λ c. ap (λ low. low ++ (ledger_of n c ++ filter (is_above n) (x ∷ xs)))
          (cond-false (is_below n x) (x ∷ filter (is_below n) xs) (filter (is_below n) xs) (le-ltb x.at.0 n (omega arith)) ∙ filter-below_none n xs from)
          ∙ ap (λ high. ledger_of n c ++ high)
          (cond-false (is_above n x) (x ∷ filter (is_above n) xs) (filter (is_above n) xs) (le-ltb n x.at.0 (omega arith)) ∙ filter-above_all n xs later);
      later = later;
      some = All-head (λ ledger. 1 ≤ ledger.count) x xs order.counted;
    }

-- all are above n where the first is
from_head : (x : Ledger) (xs : List Ledger) (n : ℕ) → All (λ y. x.at.0 < y.at.0) xs → n < x.at.0 → All (λ y. n < y.at.0) (x ∷ xs)
from_head x xs n later behind =
    All-cons (λ y. n < y.at.0) x xs behind (All-weaker (λ y. x.at.0 < y.at.0) (λ y. n < y.at.0) (λ y after. omega arith) xs later)

pub above : (x : Ledger) (xs : List Ledger) (n : ℕ) → AreInOrder (x ∷ xs) → n < x.at.0 → IsAbove x xs n
unfolding with_count
above x xs n order behind =
    let later : All (λ y. n < y.at.0) (x ∷ xs) = λ k d within. from_head x xs n (later-above x xs order) behind k d within in
    let others : All (λ y. y.at.0 ≢ n) (x ∷ xs) = λ k d within e. omega (arith, later k d within) in
    let from : All (λ y. n ≤ y.at.0) (x ∷ xs) = λ k d within. omega (arith, later k d within) in
    record {
      behind = behind;
      count = count_of-none n (x ∷ xs) others;
      place = place_in-none n (x ∷ xs) from;
      changed = λ c. ap (λ low. low ++ (ledger_of n c ++ filter (is_above n) (x ∷ xs))) (filter-below_none n (x ∷ xs) from)
          ∙ ap (λ high. ledger_of n c ++ high) (filter-above_all n (x ∷ xs) later);
      later = later;
    }

-- the first ledger is below n, or its own, or above n
pub data Position (x : Ledger) (xs : List Ledger) (n : ℕ) : Type 0 where
  first_is_below : IsBelow x xs n → Position x xs n
  first_is_own : IsHere x xs n → Position x xs n
  first_is_above : IsAbove x xs n → Position x xs n

-- one of these is so
pub position_of : (x : Ledger) (xs : List Ledger) (n : ℕ) → AreInOrder (x ∷ xs) → Position x xs n
position_of x xs n order = elim (cases_order x.at.0 n) [
  | inl same ↦ first_is_own (here x xs n order same)
  | inr apart ↦ elim apart [
    | inl before ↦ first_is_below (below x xs n before)
    | inr behind ↦ first_is_above (above x xs n order behind)
  ]
]
