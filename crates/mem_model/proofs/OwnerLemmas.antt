-- The law of a chunk's next owner.
use Rattle.std.proofs.Common.{◌≡◌, ◌≢◌, ◌≤◌, List, [], ◌∷◌, get_or, nat_lt, refl, sym, ap, subst, arith, inl, inr}
use Rattle.std.proofs.lemmas.Bool.{cond-true, cond-false, lt-ltb, cases_eq}
use Rattle.mem_num.specs.declared.alloc_id.AllocId.{AllocId}
use Rattle.mem_num.specs.Least.{IsLeast}
use Rattle.mem_model.specs.declared.ledger.Ledger.{Ledger}
use Rattle.mem_model.specs.Chunk.{next_owner}
use Rattle.mem_model.specs.LedgerPlace.{place_in, IsLedgerAt}
use Rattle.mem_model.specs.Ledgers.{count_of, AreInOrder}
use Rattle.mem_model.proofs.LedgerCountLemmas.{place_in-found}
use Rattle.mem_model.proofs.ReferenceLemmas.{ledger-counted}

-- the first of some ledgers in order is of the least allocator that has a reference
first_least : (x : Ledger) (xs : List Ledger) → AreInOrder (x ∷ xs) → IsLeast (λ n. 1 ≤ count_of (x ∷ xs) n) x.at.0
first_least x xs order = record {
  meets = ledger-counted (x ∷ xs) 0 x order.counted (omega arith);
  least = λ m some.
      let place = place_in (x ∷ xs) m in
      let found : IsLedgerAt (x ∷ xs) m place = place_in-found (x ∷ xs) m order some in
      let number : (get_or (x ∷ xs) place x).at.0 ≡ m = ap (λ (ledger : Ledger). ledger.at.0) (found.ledger x) in
      elim (cases_eq place 0) [
        | inl first ↦ (let here : (get_or (x ∷ xs) place x).at.0 ≡ x.at.0 = ap (λ k. (get_or (x ∷ xs) k x).at.0) first in omega (arith, number, here))
        | inr later ↦ omega (arith, number, order.ordered 0 place x (omega (arith, later)) found.within)
      ];
}

-- where the owner has none, the next one is of the least number
pub next_owner-least : (owner : AllocId) (ledgers : List Ledger) → AreInOrder ledgers → ledgers ≢ [] → count_of ledgers owner.0 ≡ 0 → IsLeast (λ n. 1 ≤ count_of ledgers n) (next_owner owner ledgers).0
next_owner-least owner [] order some none = absurd (some refl)
next_owner-least owner (x ∷ xs) order some none =
    let first : next_owner owner (x ∷ xs) ≡ x.at = cond-false (nat_lt 0 (count_of (x ∷ xs) owner.0)) owner x.at (ap (nat_lt 0) none) in
    subst (λ (next : AllocId). IsLeast (λ n. 1 ≤ count_of (x ∷ xs) n) next.0) (sym first) (first_least x xs order)

-- where it has one, it stays
pub next_owner-stays : (owner : AllocId) (ledgers : List Ledger) → 1 ≤ count_of ledgers owner.0 → next_owner owner ledgers ≡ owner
next_owner-stays owner [] some = refl
next_owner-stays owner (x ∷ xs) some = cond-true (nat_lt 0 (count_of (x ∷ xs) owner.0)) owner x.at (lt-ltb 0 (count_of (x ∷ xs) owner.0) some)
