-- What is charged and used where one chunk of a tree changes.
use Rattle.std.proofs.Common.{◌≡◌, ◌≢◌, ℕ, ◌+◌, ◌≤◌, List, cond, eqb, ltb, Some, refl, sym, ap, ◌∙◌, arith}
use Rattle.std.proofs.Common.{inl, inr, eq-eqb, ne_eqb, lt-ltb, le-ltb}
use Rattle.std.proofs.lemmas.Bool.{cases_eq}
use Rattle.mem_model.specs.Charge.{amount_at, charged_at}
use Rattle.mem_model.specs.Chunk.{Chunk, charge_of, charges_of, has_ledger, with_chunk, chunk_at, AreInNumberOrder}
use Rattle.mem_model.specs.Ledgers.{count_of}
use Rattle.mem_model.proofs.ChunkSumLemmas.{sum_by-with_chunk}
use Rattle.mem_model.proofs.CoverLemmas.{charged_for_it, charged-sum}

-- charges, where a chunk stands in another's place
pub charged-with_chunk : (chunks : List Chunk) (old new : Chunk) (n : ℕ)
    → AreInNumberOrder chunks → chunk_at chunks new.number ≡ Some old
    → charged_at (charges_of (with_chunk new chunks)) n + amount_at n (charge_of old)
    ≡ charged_at (charges_of chunks) n + amount_at n (charge_of new)
charged-with_chunk chunks old new n ordered at =
    omega (
      arith,
      charged-sum chunks n,
      charged-sum (with_chunk new chunks) n,
      sum_by-with_chunk (charged_for_it n) new.number new old chunks refl ordered at,
    )

-- a ledger of the allocator n, counted
abbrev pub ledger_count : ℕ → Chunk → ℕ
ledger_count n chunk = cond (has_ledger n chunk) 1 0

pub ledger_some : (n : ℕ) (chunk : Chunk) → 1 ≤ count_of chunk.ledgers n → ledger_count n chunk ≡ 1
ledger_some n chunk some = rw (lt-ltb 0 (count_of chunk.ledgers n) (omega (arith, some))) refl

pub ledger_none : (n : ℕ) (chunk : Chunk) → count_of chunk.ledgers n ≡ 0 → ledger_count n chunk ≡ 0
ledger_none n chunk none = rw (le-ltb 0 (count_of chunk.ledgers n) (omega (arith, none))) refl

-- it goes by the count alone
pub ledger_same : (n : ℕ) (old new : Chunk) → count_of new.ledgers n ≡ count_of old.ledgers n
    → ledger_count n new ≡ ledger_count n old
ledger_same n old new same = ap (λ (k : ℕ). cond (ltb 0 k) 1 0) same

-- where a count begins or ends, a ledger does
pub ledger_begins : (n c : ℕ) (old new : Chunk) → 1 ≤ count_of new.ledgers c → count_of old.ledgers c ≡ 0
    → (n ≢ c → count_of new.ledgers n ≡ count_of old.ledgers n)
    → ledger_count n new ≡ ledger_count n old + cond (eqb c n) 1 0
ledger_begins n c old new some none others = elim (cases_eq c n) [
  | inl same ↦ rw (eq-eqb c n same) (
      omega (
        arith,
        ap (λ m. ledger_count m new) (sym same) ∙ ledger_some c new some,
        ap (λ m. ledger_count m old) (sym same)
            ∙ ledger_none c old none,
      ))
  | inr other ↦ rw (ne_eqb c n other) (omega (arith, ledger_same n old new (others (λ e. other (sym e)))))
]

-- and where it goes on, the ledger does
pub ledger_goes_on : (n c : ℕ) (old new : Chunk) → 1 ≤ count_of new.ledgers c → 1 ≤ count_of old.ledgers c
    → (n ≢ c → count_of new.ledgers n ≡ count_of old.ledgers n)
    → ledger_count n new ≡ ledger_count n old
ledger_goes_on n c old new some had others = elim (cases_eq n c) [
  | inl same ↦ ap (λ m. ledger_count m new) same ∙ ledger_some c new some ∙ sym (ledger_some c old had)
      ∙ ap (λ m. ledger_count m old) (sym same)
  | inr other ↦ ledger_same n old new (others other)
]
