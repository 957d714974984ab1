-- Who owns a chunk once a reference is released.
use Rattle.std.proofs.Common.{◌≡◌, ◌≢◌, ℕ, ◌-◌, ◌≤◌, ◌==◌, inl, inr, cond, ltb, List, [], ◌∷◌, refl, sym, ◌∙◌, subst, arith}
use Rattle.std.proofs.lemmas.Bool.{cond-true, cond-false, lt-ltb, le-ltb, eq-eqb, ne_eqb, cases_eq, cases_lt}
use Rattle.mem_num.specs.Least.{IsLeast}
use Rattle.mem_num.specs.declared.alloc_id.AllocId.{AllocId}
use Rattle.mem_model.specs.declared.ledger.Ledger.{Ledger}
use Rattle.ledger_map.specs.declared.after.After.{After}
use Rattle.ledger_map.specs.declared.after.After.TheVariants.{Same, Gone, Moved, Freed}
use Rattle.mem_model.specs.Ledgers.{count_of, with_count, AreInOrder}
use Rattle.ledger_map.specs.LedgerState.{LedgerState, AreLawfulLedgers, TakesOne, KeepsPlaces}
use Rattle.ledger_map.specs.Release.{new_owner, after_of, IsAfter}
use Rattle.mem_model.proofs.LedgerOrderLemmas.{here, above, IsHere, IsAbove}
use Rattle.mem_model.proofs.LedgerCountLemmas.{count_of-with_count, count_of-with_count_other, total_of-with_count, AreInOrder-with_count, ChangesCount-with_count}

-- the first of the ledgers has the least number of all that have a count
first-least : (x : Ledger) (xs : List Ledger) → AreInOrder (x ∷ xs) → IsLeast (λ m. 1 ≤ count_of (x ∷ xs) m) x.at.0
first-least x xs order =
    let own : IsHere x xs x.at.0 = here x xs x.at.0 order refl in
    record {
      meets = rw own.count own.some;
      least = λ m some. elim (cases_lt m x.at.0) [
        | inl before ↦ let none : IsAbove x xs m = above x xs m order before in absurd (omega (arith, none.count, some))
        | inr from ↦ from
      ];
    }

-- an owner keeps a count where another allocator's changes, or where its own does and isn't 0
owner-counted : (xs : List Ledger) (owner n c : ℕ) → AreInOrder xs → 1 ≤ count_of xs owner → (owner ≡ n → 1 ≤ c) → 1 ≤ count_of (with_count xs n c) owner
owner-counted xs owner n c order counted some = elim (cases_eq owner n) [
  | inl same ↦ rw same (omega (arith, count_of-with_count xs n c order, some same))
  | inr other ↦ omega (arith, count_of-with_count_other xs n c owner order other, counted)
]

-- what a release at n answers, by cases
data AnswerCase (n : ℕ) (owner : AllocId) (ys : List Ledger) (after : After) : Type 0 where
  freed : ys ≡ [] → after ≡ Freed → AnswerCase n owner ys after
  same : 1 ≤ count_of ys n → after ≡ Same → AnswerCase n owner ys after
  moved : count_of ys n ≡ 0 → owner.0 ≡ n → (x : Ledger) (xs : List Ledger) → ys ≡ x ∷ xs → after ≡ Moved x.at → AnswerCase n owner ys after
  gone : count_of ys n ≡ 0 → owner.0 ≢ n → after ≡ Gone → AnswerCase n owner ys after

-- one of these is so
answer-case : (n : ℕ) (owner : AllocId) (ys : List Ledger) → AnswerCase n owner ys (after_of n owner ys)
answer-case n owner [] = freed refl refl
answer-case n owner (x ∷ xs) =
    let by_owner : After = cond (owner.0 == n) (Moved x.at) Gone in
    elim (cases_lt 0 (count_of (x ∷ xs) n)) [
      | inl some ↦ same (omega arith) (cond-true (ltb 0 (count_of (x ∷ xs) n)) Same by_owner (lt-ltb 0 (count_of (x ∷ xs) n) some))
      | inr none ↦
          let goes : after_of n owner (x ∷ xs) ≡ by_owner = cond-false (ltb 0 (count_of (x ∷ xs) n)) Same by_owner (le-ltb 0 (count_of (x ∷ xs) n) none) in
          elim (cases_eq owner.0 n) [
            | inl own ↦ moved (omega arith) own x xs refl (goes ∙ cond-true (owner.0 == n) (Moved x.at) Gone (eq-eqb owner.0 n own))
            | inr other ↦ gone (omega arith) other (goes ∙ cond-false (owner.0 == n) (Moved x.at) Gone (ne_eqb owner.0 n other))
          ]
    ]

-- the state that a release leaves
abbrev released_state : LedgerState → List Ledger → ℕ → After → LedgerState
released_state old ys spare after = record { size = old.size; owner = new_owner old.owner after; ledgers = ys; spare = spare }

-- what a release shows: it leaves a lawful state, and its answer follows the rule
pub record IsReleased (old new : LedgerState) (n : ℕ) (after : After) : Type 0 where
  pub lawful : AreLawfulLedgers new
  pub rule : IsAfter n old new after

-- a release shows this where the owner then has a count and the answer follows the rule
released-from : (old : LedgerState) (ys : List Ledger) (n spare : ℕ) (after : After) → AreLawfulLedgers old → ys ≡ with_count old.ledgers n (count_of old.ledgers n - 1)
    → (ys ≢ [] → 1 ≤ count_of ys (new_owner old.owner after).0) → IsAfter n old (released_state old ys spare after) after
    → IsReleased old (released_state old ys spare after) n after
released-from old ys n spare after lawful is owned rule = record {
  lawful = record {
    in_order = rw is (AreInOrder-with_count old.ledgers n (count_of old.ledgers n - 1) lawful.in_order);
    owned = owned;
    some_bytes = lawful.some_bytes;
    few_bytes = lawful.few_bytes;
    few_references = rw is (omega (arith, total_of-with_count old.ledgers n (count_of old.ledgers n - 1) lawful.in_order, lawful.few_references));
  };
  rule = rule;
}

-- the owner before keeps a count, unless it was the last of its own
owner-kept : (old : LedgerState) (ys : List Ledger) (n : ℕ) → AreLawfulLedgers old → 1 ≤ count_of old.ledgers n → ys ≡ with_count old.ledgers n (count_of old.ledgers n - 1)
    → (old.owner.0 ≡ n → 1 ≤ count_of ys n) → 1 ≤ count_of ys old.owner.0
owner-kept old ys n lawful there is left =
    let some_ledger : old.ledgers ≢ [] = λ none. omega (arith, rw none at there) in
    let left_here : count_of ys n ≡ count_of old.ledgers n - 1 = rw is (count_of-with_count old.ledgers n (count_of old.ledgers n - 1) lawful.in_order) in
    rw is (owner-counted old.ledgers old.owner.0 n (count_of old.ledgers n - 1) lawful.in_order (lawful.owned some_ledger) (λ own. rw (← left_here) (left own)))

-- the first of the ledgers that remain has the least number
next-least : (old : LedgerState) (n : ℕ) (x : Ledger) (xs : List Ledger) → AreLawfulLedgers old → x ∷ xs ≡ with_count old.ledgers n (count_of old.ledgers n - 1) → IsLeast (λ m. 1 ≤ count_of (x ∷ xs) m) x.at.0
next-least old n x xs lawful is =
    first-least x xs (rw is (AreInOrder-with_count old.ledgers n (count_of old.ledgers n - 1) lawful.in_order))

-- so it does in each case
released-case : (old : LedgerState) (ys : List Ledger) (n spare : ℕ) (after : After) → AreLawfulLedgers old → 1 ≤ count_of old.ledgers n → ys ≡ with_count old.ledgers n (count_of old.ledgers n - 1)
    → AnswerCase n old.owner ys after → IsReleased old (released_state old ys spare after) n after
released-case old ys n spare after lawful there is (freed none e) =
    let P : After → Type 0 = λ a. IsReleased old (released_state old ys spare a) n a in
    subst P (sym e) (released-from old ys n spare Freed lawful is (λ some. absurd (some none)) (none, refl))
released-case old ys n spare after lawful there is (same some e) =
    let P : After → Type 0 = λ a. IsReleased old (released_state old ys spare a) n a in
    subst P (sym e) (released-from old ys n spare Same lawful is (λ _. owner-kept old ys n lawful there is (λ _. some)) (some, refl))
released-case old ys n spare after lawful there is (moved none own x xs whole e) =
    let P : After → Type 0 = λ a. IsReleased old (released_state old ys spare a) n a in
    let least : IsLeast (λ m. 1 ≤ count_of ys m) x.at.0 = rw whole (next-least old n x xs lawful (sym whole ∙ is)) in
    subst P (sym e) (released-from old ys n spare (Moved x.at) lawful is (λ _. least.meets) (none, own, refl, least))
released-case old ys n spare after lawful there is (gone none other e) =
    let P : After → Type 0 = λ a. IsReleased old (released_state old ys spare a) n a in
    subst P (sym e) (released-from old ys n spare Gone lawful is (λ _. owner-kept old ys n lawful there is (λ own. absurd (other own))) (none, other, refl))

-- so it does with the answer and the owner that are defined
pub released : (old : LedgerState) (ys : List Ledger) (n spare : ℕ) (after : After) (owner : AllocId) → AreLawfulLedgers old → 1 ≤ count_of old.ledgers n → ys ≡ with_count old.ledgers n (count_of old.ledgers n - 1)
    → after ≡ after_of n old.owner ys → owner ≡ new_owner old.owner after
    → IsReleased old (record { size = old.size; owner = owner; ledgers = ys; spare = spare }) n after
released old ys n spare after owner lawful there is answer owned =
    let P : AllocId → Type 0 = λ o. IsReleased old (record { size = old.size; owner = o; ledgers = ys; spare = spare }) n after in
    let Q : After → Type 0 = AnswerCase n old.owner ys in
    subst P (sym owned) (released-case old ys n spare after lawful there is (subst Q (sym answer) (answer-case n old.owner ys)))

-- one reference less, told by count and by total
pub TakesOne-from : (old new : LedgerState) (n : ℕ) → AreLawfulLedgers old → 1 ≤ count_of old.ledgers n → new.ledgers ≡ with_count old.ledgers n (count_of old.ledgers n - 1) → new.size ≡ old.size → KeepsPlaces old new
    → TakesOne old new n
TakesOne-from old new n lawful there is size places = record {
  ledgers = is;
  counts = rw is (ChangesCount-with_count old.ledgers n (count_of old.ledgers n - 1) lawful.in_order);
  total = rw is (omega (arith, total_of-with_count old.ledgers n (count_of old.ledgers n - 1) lawful.in_order, there));
  size = size;
  places = places;
}
