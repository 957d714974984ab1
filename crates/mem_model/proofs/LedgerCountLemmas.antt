-- What changes where one allocator's count does.
use Rattle.std.proofs.Common.{◌≡◌, ◌≢◌, ◌==◌, ℕ, zero, suc, ◌+◌, ◌-◌, ◌<◌, ◌≤◌, List, [], ◌∷◌, ◌++◌, length, get_or, drop, set, refl, sym, ◌∙◌, ap, subst, inl, inr, arith, zero-add}
use Rattle.std.specs.List.{All, filter, insert, remove, refill}
use Rattle.std.proofs.lemmas.List.{append-nil, take_at, length-set}
use Rattle.std.proofs.lemmas.List.Sums.{sum_by-cons, sum_by-append, get_or-le-sum_by}
use Rattle.std.proofs.lemmas.List.Elements.{All-cons, All-nil, All-head, All-append, All-filter}
use Rattle.std.proofs.lemmas.List.Kept.{AllPairs-cons}
use Rattle.std.proofs.lemmas.Bool.{cond-true, cond-false, eq-eqb, ne_eqb, cases_eq}
use Rattle.mem_num.specs.declared.alloc_id.AllocId.{AllocId}
use Rattle.mem_model.specs.declared.ledger.Ledger.{Ledger}
use Rattle.mem_model.specs.Ledgers.{count_at, count_of, total_of, is_below, is_above, ledger_of, with_count, AreInOrder, ChangesCount}
use Rattle.mem_model.specs.LedgerPlace.{place_in, IsLedgerAt}
use Rattle.mem_model.proofs.LedgerOrderLemmas.{later-above, AreInOrder-tail, count_of-none, first_is_below, first_is_own, first_is_above, position_of}

-- what a ledger counts is at most what all count
count_at-le : (n : ℕ) (x : Ledger) → count_at n x ≤ x.count
count_at-le n x = elim (cases_eq x.at.0 n) [
  | inl same ↦ omega (arith, cond-true (x.at.0 == n) x.count 0 (eq-eqb x.at.0 n same))
  | inr other ↦ omega (arith, cond-false (x.at.0 == n) x.count 0 (ne_eqb x.at.0 n other))
]

-- an allocator has at most all references
pub count_of-le-total_of : (xs : List Ledger) (n : ℕ) → count_of xs n ≤ total_of xs
count_of-le-total_of [] n = omega arith
count_of-le-total_of (x ∷ xs) n =
    omega (arith, sum_by-cons (count_at n) x xs, sum_by-cons (λ (y : Ledger). y.count) x xs, count_at-le n x, count_of-le-total_of xs n)

-- the ledger of n stands at its place
pub place_in-found : (xs : List Ledger) (n : ℕ) → AreInOrder xs → 1 ≤ count_of xs n → IsLedgerAt xs n (place_in xs n)
place_in-found [] n order some = absurd (omega (arith, some))
place_in-found (x ∷ xs) n order some = elim (position_of x xs n order) [
  | first_is_below p ↦ let found : IsLedgerAt xs n (place_in xs n) = place_in-found xs n (AreInOrder-tail x xs order) (rw p.count at some) in
      record { within = rw p.place (omega (arith, found.within)); ledger = λ d. rw (p.place, p.count) (found.ledger d) }
  | first_is_own p ↦ record { within = rw p.place (omega arith); ledger = λ d. rw (p.place, p.count) (ap (λ m. record { at = record { 0 = m }; count = x.count }) p.same) }
  | first_is_above p ↦ absurd (omega (arith, p.count))
]

-- it is the ledger that was read there
pub IsLedgerAt-read : (xs : List Ledger) (n place : ℕ) (l : Ledger) → AreInOrder xs → place ≡ place_in xs n → place < length xs → l ≡ get_or xs place l → l.at.0 ≡ n → IsLedgerAt xs n place
IsLedgerAt-read xs n place l order at within is same =
    let here : count_at n l ≡ l.count = cond-true (l.at.0 == n) l.count 0 (eq-eqb l.at.0 n same) in
    let counted : 1 ≤ l.count = let P : Ledger → Type 0 = λ y. 1 ≤ y.count in subst P (sym is) (order.counted place l within) in
    let read : count_at n l ≡ count_at n (get_or xs place l) = ap (count_at n) is in
    let among : count_at n (get_or xs place l) ≤ count_of xs n = get_or-le-sum_by (count_at n) xs place l within in
    let some : 1 ≤ count_of xs n = omega arith in
    let Q : ℕ → Type 0 = IsLedgerAt xs n in subst Q (sym at) (place_in-found xs n order some)

-- n has no reference where the ledger at its place is another's
pub count_of-other : (xs : List Ledger) (n place : ℕ) (l : Ledger) → AreInOrder xs → place ≡ place_in xs n → l ≡ get_or xs place l → l.at.0 ≢ n → 1 ≤ count_of xs n → ⊥
count_of-other xs n place l order at is other some =
    other (ap (λ (ledger : Ledger). ledger.at.0) (is ∙ (ap (λ k. get_or xs k l) at ∙ (place_in-found xs n order some).ledger l)))

-- n has no reference where no ledger is at its place
pub count_of-past : (xs : List Ledger) (n place : ℕ) → AreInOrder xs → place ≡ place_in xs n → length xs ≤ place → 1 ≤ count_of xs n → ⊥
count_of-past xs n place order at past some =
    omega (arith, at, past, (place_in-found xs n order some).within)

-- a ledger where there is a count
ledger_of-some : (n c : ℕ) → 1 ≤ c → ledger_of n c ≡ record { at = record { 0 = n }; count = c } ∷ []
ledger_of-some n zero some = absurd (omega (arith, some))
ledger_of-some n (suc c) some = refl

-- a new ledger at its place gives the allocator its count
pub insert-place_in : (xs : List Ledger) (new : Ledger) → AreInOrder xs → count_of xs new.at.0 ≡ 0 → 1 ≤ new.count
    → insert xs (place_in xs new.at.0) new ≡ with_count xs new.at.0 new.count
unfolding with_count
insert-place_in [] new order none some = sym (ap (λ ys. ys ++ []) (ledger_of-some new.at.0 new.count some))
insert-place_in (x ∷ xs) new order none some = elim (position_of x xs new.at.0 order) [
  | first_is_below p ↦ rw (p.place, p.changed new.count) (ap (λ ys. x ∷ ys) (insert-place_in xs new (AreInOrder-tail x xs order) (sym p.count ∙ none) some))
  | first_is_own p ↦ absurd (omega (arith, p.some, p.count, none))
  | first_is_above p ↦ rw (p.place, p.changed new.count, ledger_of-some new.at.0 new.count some) refl
]

-- the ledger at its place with another count gives the allocator that count
pub set-place_in : (xs : List Ledger) (new : Ledger) → AreInOrder xs → 1 ≤ count_of xs new.at.0 → 1 ≤ new.count
    → set xs (place_in xs new.at.0) new ≡ with_count xs new.at.0 new.count
set-place_in [] new order there some = absurd (omega (arith, there))
set-place_in (x ∷ xs) new order there some = elim (position_of x xs new.at.0 order) [
  | first_is_below p ↦ rw (p.place, p.changed new.count) (ap (λ ys. x ∷ ys) (set-place_in xs new (AreInOrder-tail x xs order) (rw p.count at there) some))
  | first_is_own p ↦ rw (p.place, p.changed new.count, ledger_of-some new.at.0 new.count some) refl
  | first_is_above p ↦ absurd (omega (arith, p.count))
]

-- without the ledger at its place the allocator has no reference
pub remove-place_in : (xs : List Ledger) (n : ℕ) → AreInOrder xs → 1 ≤ count_of xs n → remove xs (place_in xs n) ≡ with_count xs n 0
remove-place_in [] n order there = absurd (omega (arith, there))
remove-place_in (x ∷ xs) n order there = elim (position_of x xs n order) [
  | first_is_below p ↦ rw (p.place, p.changed 0) (ap (λ ys. x ∷ ys) (remove-place_in xs n (AreInOrder-tail x xs order) (rw p.count at there)))
  | first_is_own p ↦ rw (p.place, p.changed 0) refl
  | first_is_above p ↦ absurd (omega (arith, p.count))
]

-- what is read at the place of n is its count
pub count-read : (xs ws : List Ledger) (n place : ℕ) (d : Ledger) → ws ≡ xs → IsLedgerAt xs n place → (get_or ws place d).count ≡ count_of xs n
count-read xs ws n place d same found =
    ap (λ zs. (get_or zs place d).count) same ∙ ap (λ (l : Ledger). l.count) (found.ledger d)

-- a count that is written through a slice at the place of n
pub with_count-written : (xs ws : List Ledger) (n place c wanted : ℕ) (d : Ledger) → ws ≡ xs → AreInOrder xs → place ≡ place_in xs n → IsLedgerAt xs n place → 1 ≤ count_of xs n → c ≡ wanted → 1 ≤ wanted
    → refill (length xs) xs (set ws place (record { at = (get_or ws place d).at; count = c })) ≡ with_count xs n wanted
with_count-written xs ws n place c wanted d same order at found there is some =
    let new : Ledger = record { at = record { 0 = n }; count = wanted } in
    let owner : (get_or ws place d).at ≡ record { 0 = n } = ap (λ zs. (get_or zs place d).at) same ∙ ap (λ (l : Ledger). l.at) (found.ledger d) in
    ap (λ (a : AllocId). refill (length xs) xs (set ws place (record { at = a; count = c }))) owner
    ∙ (ap (λ k. refill (length xs) xs (set ws place (record { at = record { 0 = n }; count = k }))) is
    ∙ (ap (λ zs. refill (length xs) xs (set zs place new)) same
    ∙ (take_at (set xs place new) (drop (length (set xs place new)) xs) (length xs) (length-set xs place new)
    ∙ (ap (λ k. set xs k new) at ∙ set-place_in xs new order there some))))

-- a new ledger at the place of n
pub with_count-inserted : (xs ys : List Ledger) (n place : ℕ) → AreInOrder xs → place ≡ place_in xs n → (1 ≤ count_of xs n → ⊥) → ys ≡ insert xs place (record { at = record { 0 = n }; count = 1 })
    → ys ≡ with_count xs n (count_of xs n + 1)
with_count-inserted xs ys n place order at absent is =
    let none : count_of xs n ≡ 0 = omega (arith, absent) in
    is ∙ (ap (λ k. insert xs k (record { at = record { 0 = n }; count = 1 })) at
    ∙ (insert-place_in xs (record { at = record { 0 = n }; count = 1 }) order none (omega arith)
    ∙ ap (with_count xs n) (omega (arith, none))))

-- the last reference of n is gone
pub with_count-removed : (xs ys : List Ledger) (n place : ℕ) → AreInOrder xs → place ≡ place_in xs n → 1 ≤ count_of xs n → count_of xs n - 1 ≡ 0 → ys ≡ remove xs place
    → ys ≡ with_count xs n (count_of xs n - 1)
with_count-removed xs ys n place order at there last is =
    is ∙ (ap (remove xs) at ∙ (remove-place_in xs n order there ∙ ap (with_count xs n) (sym last)))

-- what the ledger of n counts for n
count_of-ledger_of : (n c : ℕ) → count_of (ledger_of n c) n ≡ c
count_of-ledger_of n zero = refl
count_of-ledger_of n (suc c) = ap (λ k. 0 + k) (cond-true (n == n) (suc c) 0 (eq-eqb n n refl)) ∙ zero-add (suc c)

-- it counts nothing for others
count_of-ledger_of_other : (n c m : ℕ) → m ≢ n → count_of (ledger_of n c) m ≡ 0
count_of-ledger_of_other n zero m other = refl
count_of-ledger_of_other n (suc c) m other = ap (λ k. 0 + k) (cond-false (n == m) (suc c) 0 (ne_eqb n m (λ e. other (sym e))))

-- and its count is all that it adds
total_of-ledger_of : (n c : ℕ) → total_of (ledger_of n c) ≡ c
total_of-ledger_of n zero = refl
total_of-ledger_of n (suc c) = zero-add (suc c)

-- behind the ledger of n each ledger is another's
count_of-later : (xs : List Ledger) (n : ℕ) → All (λ y. n < y.at.0) xs → count_of xs n ≡ 0
count_of-later xs n later = count_of-none n xs (λ k d within e. omega (arith, later k d within))

-- n has the count that it was given
pub count_of-with_count : (xs : List Ledger) (n c : ℕ) → AreInOrder xs → count_of (with_count xs n c) n ≡ c
unfolding with_count
count_of-with_count [] n c order = rw append-nil (count_of-ledger_of n c)
count_of-with_count (x ∷ xs) n c order = elim (position_of x xs n order) [
  | first_is_below p ↦ rw (p.changed c) (omega (arith, sum_by-cons (count_at n) x xs, sum_by-cons (count_at n) x (with_count xs n c), p.count, count_of-with_count xs n c (AreInOrder-tail x xs order)))
  | first_is_own p ↦ rw (p.changed c) (omega (arith, sum_by-append (count_at n) (ledger_of n c) xs, count_of-ledger_of n c, count_of-later xs n p.later))
  | first_is_above p ↦ rw (p.changed c) (omega (arith, sum_by-append (count_at n) (ledger_of n c) (x ∷ xs), count_of-ledger_of n c, count_of-later (x ∷ xs) n p.later))
]

-- every other allocator has the count that it had
pub count_of-with_count_other : (xs : List Ledger) (n c m : ℕ) → AreInOrder xs → m ≢ n → count_of (with_count xs n c) m ≡ count_of xs m
unfolding with_count
count_of-with_count_other [] n c m order other = rw append-nil (count_of-ledger_of_other n c m other)
count_of-with_count_other (x ∷ xs) n c m order other = elim (position_of x xs n order) [
  | first_is_below p ↦ rw (p.changed c) (omega (arith, sum_by-cons (count_at m) x xs, sum_by-cons (count_at m) x (with_count xs n c), count_of-with_count_other xs n c m (AreInOrder-tail x xs order) other))
  | first_is_own p ↦ rw (p.changed c) (omega (
    arith,
    sum_by-append (count_at m) (ledger_of n c) xs,
    count_of-ledger_of_other n c m other,
    sum_by-cons (count_at m) x xs,
    cond-false (x.at.0 == m) x.count 0 (ne_eqb x.at.0 m (λ e. other (sym e ∙ p.same))),
  ))
  | first_is_above p ↦ rw (p.changed c) (omega (arith, sum_by-append (count_at m) (ledger_of n c) (x ∷ xs), count_of-ledger_of_other n c m other))
]

-- so the count of n alone changes
pub ChangesCount-with_count : (xs : List Ledger) (n c : ℕ) → AreInOrder xs → ChangesCount xs (with_count xs n c) n c
ChangesCount-with_count xs n c order = record {
  changed = count_of-with_count xs n c order;
  others = λ m other. count_of-with_count_other xs n c m order other;
}

-- the total changes by what the count does
pub total_of-with_count : (xs : List Ledger) (n c : ℕ) → AreInOrder xs → total_of (with_count xs n c) + count_of xs n ≡ total_of xs + c
unfolding with_count
total_of-with_count [] n c order = rw append-nil (omega (arith, total_of-ledger_of n c))
total_of-with_count (x ∷ xs) n c order = elim (position_of x xs n order) [
  | first_is_below p ↦ rw (p.changed c) (omega (arith, sum_by-cons (λ (y : Ledger). y.count) x xs, sum_by-cons (λ (y : Ledger). y.count) x (with_count xs n c), p.count, total_of-with_count xs n c (AreInOrder-tail x xs order)))
  | first_is_own p ↦ rw (p.changed c) (omega (arith, sum_by-append (λ (y : Ledger). y.count) (ledger_of n c) xs, total_of-ledger_of n c, sum_by-cons (λ (y : Ledger). y.count) x xs, p.count))
  | first_is_above p ↦ rw (p.changed c) (omega (arith, sum_by-append (λ (y : Ledger). y.count) (ledger_of n c) (x ∷ xs), total_of-ledger_of n c, p.count))
]

-- what holds of a ledger of n with c references holds of the ledger of n
All-ledger_of : (P : Ledger → Type 0) (n c : ℕ) → P (record { at = record { 0 = n }; count = c }) → All P (ledger_of n c)
All-ledger_of P n zero new = All-nil P
All-ledger_of P n (suc c) new = All-cons P (record { at = record { 0 = n }; count = suc c }) [] new (All-nil P)

-- so what holds of each ledger, and of one of n with c references, holds of each once n has c
pub All-with_count : (P : Ledger → Type 0) (xs : List Ledger) (n c : ℕ) → All P xs → P (record { at = record { 0 = n }; count = c }) → All P (with_count xs n c)
unfolding with_count
All-with_count P xs n c all new =
    All-append P (filter (is_below n) xs) (ledger_of n c ++ filter (is_above n) xs) (All-filter (is_below n) P xs all)
    (All-append P (ledger_of n c) (filter (is_above n) xs) (All-ledger_of P n c new) (All-filter (is_above n) P xs all))

-- one ledger more, in front of those of greater numbers
AreInOrder-cons : (x : Ledger) (xs : List Ledger) → All (λ y. x.at.0 < y.at.0) xs → 1 ≤ x.count → AreInOrder xs → AreInOrder (x ∷ xs)
AreInOrder-cons x xs later some order = record {
  ordered = AllPairs-cons (λ before after. before.at.0 < after.at.0) x xs later order.ordered;
  counted = All-cons (λ ledger. 1 ≤ ledger.count) x xs some order.counted;
}

-- the ledger of n, if it has any reference, in front of those of greater numbers
AreInOrder-ledger_of : (n c : ℕ) (xs : List Ledger) → All (λ y. n < y.at.0) xs → AreInOrder xs → AreInOrder (ledger_of n c ++ xs)
AreInOrder-ledger_of n zero xs later order = order
AreInOrder-ledger_of n (suc c) xs later order = AreInOrder-cons (record { at = record { 0 = n }; count = suc c }) xs later (omega arith) order

-- the order stays
pub AreInOrder-with_count : (xs : List Ledger) (n c : ℕ) → AreInOrder xs → AreInOrder (with_count xs n c)
unfolding with_count
AreInOrder-with_count [] n c order = AreInOrder-ledger_of n c [] (All-nil (λ y. n < y.at.0)) order
AreInOrder-with_count (x ∷ xs) n c order = elim (position_of x xs n order) [
  | first_is_below p ↦ rw (p.changed c) (AreInOrder-cons x (with_count xs n c) (All-with_count (λ y. x.at.0 < y.at.0) xs n c (later-above x xs order) p.before)
      (All-head (λ ledger. 1 ≤ ledger.count) x xs order.counted) (AreInOrder-with_count xs n c (AreInOrder-tail x xs order)))
  | first_is_own p ↦ rw (p.changed c) (AreInOrder-ledger_of n c xs p.later (AreInOrder-tail x xs order))
  | first_is_above p ↦ rw (p.changed c) (AreInOrder-ledger_of n c (x ∷ xs) p.later order)
]
