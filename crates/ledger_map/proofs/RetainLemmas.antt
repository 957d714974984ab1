-- One reference more.
use Rattle.std.proofs.Common.{◌≡◌, ◌≢◌, ℕ, ◌+◌, ◌^◌, ◌<◌, ◌≤◌, inl, inr, List, [], arith}
use Rattle.std.proofs.lemmas.Bool.{cases_eq}
use Rattle.mem_model.specs.declared.ledger.Ledger.{Ledger}
use Rattle.mem_model.specs.Ledgers.{count_of, total_of, with_count, AreInOrder}
use Rattle.ledger_map.specs.LedgerState.{LedgerState, AreLawfulLedgers, AddsOne, KeepsPlaces}
use Rattle.mem_model.proofs.LedgerCountLemmas.{count_of-with_count, count_of-with_count_other, total_of-with_count, AreInOrder-with_count, ChangesCount-with_count}

-- no owner loses references
count_of-grown : (xs : List Ledger) (n owner : ℕ) → AreInOrder xs → count_of xs owner ≤ count_of (with_count xs n (count_of xs n + 1)) owner
count_of-grown xs n owner order = elim (cases_eq owner n) [
  | inl same ↦ rw same (omega (arith, count_of-with_count xs n (count_of xs n + 1) order))
  | inr other ↦ omega (arith, count_of-with_count_other xs n (count_of xs n + 1) owner order other)
]

-- the state stays lawful
pub AreLawfulLedgers-retained : (old : LedgerState) (ys : List Ledger) (n spare : ℕ) → AreLawfulLedgers old → old.ledgers ≢ [] → total_of old.ledgers < 2 ^ 58 → ys ≡ with_count old.ledgers n (count_of old.ledgers n + 1)
    → AreLawfulLedgers (record { size = old.size; owner = old.owner; ledgers = ys; spare = spare })
AreLawfulLedgers-retained old ys n spare lawful live few is = record {
  in_order = rw is (AreInOrder-with_count old.ledgers n (count_of old.ledgers n + 1) lawful.in_order);
  owned = λ _. rw is (omega (arith, count_of-grown old.ledgers n old.owner.0 lawful.in_order, lawful.owned live));
  some_bytes = lawful.some_bytes;
  few_bytes = lawful.few_bytes;
  few_references = rw is (omega (arith, total_of-with_count old.ledgers n (count_of old.ledgers n + 1) lawful.in_order, few));
}

-- one reference more, told by count and by total
pub AddsOne-from : (old new : LedgerState) (n : ℕ) → AreLawfulLedgers old → new.ledgers ≡ with_count old.ledgers n (count_of old.ledgers n + 1) → new.size ≡ old.size → new.owner ≡ old.owner → KeepsPlaces old new
    → AddsOne old new n
AddsOne-from old new n lawful is size owner places = record {
  ledgers = is;
  counts = rw is (ChangesCount-with_count old.ledgers n (count_of old.ledgers n + 1) lawful.in_order);
  total = rw is (omega (arith, total_of-with_count old.ledgers n (count_of old.ledgers n + 1) lawful.in_order));
  size = size;
  owner = owner;
  places = places;
}
