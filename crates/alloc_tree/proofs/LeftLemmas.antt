-- What a release leaves of a chunk, by its answer.
use Rattle.std.proofs.Common.{◌≡◌, ◌≢◌, ℕ, ◌+◌, ◌-◌, ◌≤◌, List, [], ◌∷◌, sum_by, cond, eqb, ltb, true}
use Rattle.std.proofs.Common.{false, refl, sym, ap, subst, ◌∙◌, arith, inl, inr, lt-ltb}
use Rattle.std.proofs.lemmas.Bool.{cases_eq, cond_both, cond-false, eqb-true, eqb-false, ltb-true, ltb-false}
use Rattle.mem_num.specs.declared.alloc_id.AllocId.{AllocId}
use Rattle.mem_num.specs.declared.buffer_ref.Ref.{Ref}
use Rattle.mem_model.specs.declared.ledger.Ledger.{Ledger}
use Rattle.mem_model.specs.Chunk.{Chunk, has_ledger, next_owner, released, with_chunk}
use Rattle.mem_model.specs.LawfulState.{IsLawfulState}
use Rattle.mem_model.specs.Ledgers.{count_of, AreInOrder, ChangesCount}
use Rattle.mem_model.specs.Release.{without_chunk, after_release}
use Rattle.mem_model.specs.TreeState.{TreeState}
use Rattle.mem_model.proofs.ChunkSumLemmas.{sum_by-with_chunk, sum_by-without_chunk}
use Rattle.mem_model.proofs.LedgerCountLemmas.{AreInOrder-with_count, ChangesCount-with_count}
use Rattle.mem_model.proofs.OwnerLemmas.{next_owner-stays}
use Rattle.mem_model.proofs.ReferenceLemmas.{ledger-counted}
use Rattle.ledger_map.specs.Release.{after_of}
use Rattle.ledger_map.specs.declared.after.After.{After}
use Rattle.ledger_map.specs.declared.after.After.TheVariants.{Same, Gone, Moved, Freed}
use Rattle.alloc_tree.proofs.ChangeLemmas.{ledger_count, ledger_begins, ledger_goes_on}
use Rattle.alloc_tree.proofs.DoneLemmas.{IsReferred}

-- the chunk as the release of a reference leaves it, and what is answered
abbrev pub left_of : Ref → Chunk → Chunk
left_of of chunk = released of.alloc.0 chunk

abbrev pub answer_of : Ref → Chunk → After
answer_of of chunk = after_of of.alloc.0 chunk.owner (left_of of chunk).ledgers

-- what an answer says of the ledgers that are left, where the next owner is told
record IsMoved (n : ℕ) (owner next : AllocId) (left : List Ledger) : Type 0 where
  gone : count_of left n ≡ 0
  owned : owner.0 ≡ n
  next_owns : next_owner owner left ≡ next
  counted : 1 ≤ count_of left next.0

abbrev Says : ℕ → AllocId → List Ledger → After → Type 0
Says n owner left Same = 1 ≤ count_of left n
Says n owner left Gone = (count_of left n ≡ 0) × (owner.0 ≢ n)
Says n owner left (Moved next) = IsMoved n owner next left
Says n owner left Freed = left ≡ []

says : (n : ℕ) (owner : AllocId) (left : List Ledger) → AreInOrder left → Says n owner left (after_of n owner left)
says n owner [] order = refl
says n owner (first ∷ rest) order =
    let left = first ∷ rest in
    cond_both (ltb 0 (count_of left n)) Same _ (Says n owner left) (λ some. ltb-true 0 (count_of left n) some) (λ none.
    let gone : count_of left n ≡ 0 = omega (arith, ltb-false 0 (count_of left n) none) in
    cond_both (eqb owner.0 n) (Moved first.at) Gone (Says n owner left)
    (λ own.
    let number : owner.0 ≡ n = eqb-true owner.0 n own in
    record {
      gone = gone;
      owned = number;
      next_owns = cond-false (ltb 0 (count_of left owner.0)) owner first.at (ap (λ m. ltb 0 (count_of left m)) number ∙ none);
      counted = ledger-counted left 0 first order.counted (omega arith);
    })
    (λ other. (gone, eqb-false owner.0 n other)))

-- how a chunk is left where its owner stays
pub record OwnerStays (of : Ref) (chunk : Chunk) : Type 0 where
  pub owner : (left_of of chunk).owner ≡ chunk.owner
  pub owns : 1 ≤ count_of (left_of of chunk).ledgers (left_of of chunk).owner.0

-- how it is left where another one owns it then, who had references before
pub record OwnerMoves (of : Ref) (chunk : Chunk) (next : AllocId) : Type 0 where
  pub gone : count_of (left_of of chunk).ledgers of.alloc.0 ≡ 0
  pub owned : chunk.owner.0 ≡ of.alloc.0
  pub owner : (left_of of chunk).owner ≡ next
  pub owns : 1 ≤ count_of (left_of of chunk).ledgers (left_of of chunk).owner.0
  pub apart : next.0 ≢ of.alloc.0
  pub counted : 1 ≤ count_of chunk.ledgers next.0

-- how it is left where it goes: nobody but its owner referred to it
pub record ChunkGoes (of : Ref) (chunk : Chunk) : Type 0 where
  pub none : (left_of of chunk).ledgers ≡ []
  pub owned : chunk.owner.0 ≡ of.alloc.0

module _ {state : TreeState} {of : Ref} {chunk : Chunk} (h : IsReferred state of chunk) where
  -- one reference less, and no other count changed
  changes : ChangesCount chunk.ledgers (left_of of chunk).ledgers of.alloc.0 (count_of chunk.ledgers of.alloc.0 - 1)
  changes = ChangesCount-with_count chunk.ledgers of.alloc.0 (count_of chunk.ledgers of.alloc.0 - 1) h.lawful.in_order

  told : (answer : After) → answer_of of chunk ≡ answer → Says of.alloc.0 chunk.owner (left_of of chunk).ledgers answer
  told answer is =
      let left = (left_of of chunk).ledgers in
      subst (Says of.alloc.0 chunk.owner left) is
      (says of.alloc.0 chunk.owner left
      (AreInOrder-with_count chunk.ledgers of.alloc.0 (count_of chunk.ledgers of.alloc.0 - 1) h.lawful.in_order))

  stays : 1 ≤ count_of (left_of of chunk).ledgers chunk.owner.0 → OwnerStays of chunk
  stays some =
      let left = (left_of of chunk).ledgers in
      let same = next_owner-stays chunk.owner left some in
      record { owner = same; owns = subst (λ (a : AllocId). 1 ≤ count_of left a.0) (sym same) some }

  pub left_same : answer_of of chunk ≡ Same → OwnerStays of chunk × (1 ≤ count_of (left_of of chunk).ledgers of.alloc.0)
  left_same is =
      let left = (left_of of chunk).ledgers in
      let some : 1 ≤ count_of left of.alloc.0 = told Same is in
      let owned : 1 ≤ count_of left chunk.owner.0 = elim (cases_eq chunk.owner.0 of.alloc.0) [
        | inl same ↦ subst (λ m. 1 ≤ count_of left m) (sym same) some
        | inr other ↦ omega (arith, h.lawful.owner, changes.others chunk.owner.0 other)
      ] in
      (stays owned, some)

  pub left_gone : answer_of of chunk ≡ Gone → OwnerStays of chunk × (count_of (left_of of chunk).ledgers of.alloc.0 ≡ 0)
  left_gone is =
      let gone = told Gone is in
      (stays (omega (arith, h.lawful.owner, changes.others chunk.owner.0 gone.1)), gone.0)

  pub left_moved : (next : AllocId) → answer_of of chunk ≡ Moved next → OwnerMoves of chunk next
  left_moved next is =
      let left = (left_of of chunk).ledgers in
      let m : IsMoved of.alloc.0 chunk.owner next left = told (Moved next) is in
      let apart : next.0 ≢ of.alloc.0 = λ same. (let none : count_of left next.0 ≡ 0 = ap (count_of left) same ∙ m.gone in
      omega (arith, m.counted, none)) in
      record {
        gone = m.gone;
        owned = m.owned;
        owner = m.next_owns;
        owns = subst (λ (a : AllocId). 1 ≤ count_of left a.0) (sym m.next_owns) m.counted;
        apart = apart;
        counted = omega (arith, m.counted, changes.others next.0 apart);
      }

  pub left_freed : answer_of of chunk ≡ Freed → ChunkGoes of chunk
  left_freed is =
      let none : (left_of of chunk).ledgers ≡ [] = told Freed is in
      record {
        none = none;
        owned = elim (cases_eq chunk.owner.0 of.alloc.0) [
          | inl same ↦ same
          | inr other ↦ absurd (omega (
            arith,
            h.lawful.owner,
            changes.others chunk.owner.0 other,
            ap (λ ls. count_of ls chunk.owner.0) none,
          ))
        ];
      }

  -- a sum over the chunks that are left
  pub sum_remains : (g : Chunk → ℕ) → IsLawfulState state → 1 ≤ count_of (left_of of chunk).ledgers (left_of of chunk).owner.0
      → sum_by g (after_release (left_of of chunk) state.chunks) + g chunk ≡ sum_by g state.chunks + g (left_of of chunk)
  sum_remains g lawful owns =
      let left = left_of of chunk in
      let has : has_ledger left.owner.0 left ≡ true = lt-ltb 0 (count_of left.ledgers left.owner.0) (omega (arith, owns)) in
      let is : after_release left state.chunks ≡ with_chunk left state.chunks = rw has refl in
      omega (arith, ap (sum_by g) is, sum_by-with_chunk g left.number left chunk state.chunks refl lawful.in_order h.own)

  pub sum_goes : (g : Chunk → ℕ) → IsLawfulState state → (left_of of chunk).ledgers ≡ []
      → sum_by g (after_release (left_of of chunk) state.chunks) + g chunk ≡ sum_by g state.chunks
  sum_goes g lawful none =
      let left = left_of of chunk in
      let hasn't : has_ledger left.owner.0 left ≡ false = ap (λ ls. ltb 0 (count_of ls left.owner.0)) none in
      let is : after_release left state.chunks ≡ without_chunk left.number state.chunks = rw hasn't refl in
      omega (arith, ap (sum_by g) is, sum_by-without_chunk g left.number chunk state.chunks lawful.in_order h.own)

  -- every ledger is left, or all but one
  pub ledgers_left : (m : ℕ) → 1 ≤ count_of (left_of of chunk).ledgers of.alloc.0
      → ledger_count m (left_of of chunk) ≡ ledger_count m chunk
  ledgers_left m some = ledger_goes_on m of.alloc.0 chunk (left_of of chunk) some h.counted (changes.others m)

  pub ledger_less : (m : ℕ) → count_of (left_of of chunk).ledgers of.alloc.0 ≡ 0
      → ledger_count m chunk ≡ ledger_count m (left_of of chunk) + cond (eqb of.alloc.0 m) 1 0
  ledger_less m none = ledger_begins m of.alloc.0 (left_of of chunk) chunk h.counted none (λ other. sym (changes.others m other))
