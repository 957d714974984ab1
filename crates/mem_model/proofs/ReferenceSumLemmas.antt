-- How the sum of references to all chunks changes, where one chunk has one more or one less.
use Rattle.std.proofs.Common.{◌≡◌, ℕ, ◌+◌, ◌-◌, ◌≤◌, List, [], ◌∷◌, false, nat_lt, refl, ap, ◌∙◌, arith, All, Some}
use Rattle.std.specs.List.{sum_by}
use Rattle.std.proofs.lemmas.Bool.{cond_both, ltb-true, ltb-false}
use Rattle.mem_num.specs.declared.alloc_id.AllocId.{AllocId}
use Rattle.mem_num.specs.declared.buffer_ref.Ref.{Ref}
use Rattle.mem_model.specs.declared.ledger.Ledger.{Ledger}
use Rattle.mem_model.specs.Calls.{references_in}
use Rattle.mem_model.specs.Chunk.{Chunk, has_ledger, next_owner, retained, released, with_chunk}
use Rattle.mem_model.specs.Ledgers.{AreInOrder, count_of, total_of}
use Rattle.mem_model.specs.LawfulChunk.{IsLawfulChunk}
use Rattle.mem_model.specs.LawfulState.{IsLawfulState}
use Rattle.mem_model.specs.References.{referred_chunk}
use Rattle.mem_model.specs.Release.{without_chunk, after_release}
use Rattle.mem_model.specs.TreeState.{TreeState, is_open}
use Rattle.mem_model.proofs.LedgerCountLemmas.{total_of-with_count, AreInOrder-with_count}
use Rattle.mem_model.proofs.ChunkSumLemmas.{sum_by-with_chunk, sum_by-without_chunk}
use Rattle.mem_model.proofs.ReferenceLemmas.{ledger-counted, referred_lawful, referred_number, referred_is_numbered}

-- how many references a chunk has
abbrev pub total_on : Chunk → ℕ
total_on chunk = total_of chunk.ledgers

-- a chunk with one reference more, in its own place
pub references-more : (state : TreeState) (of : Ref) (chunk new : Chunk) → IsLawfulState state → referred_chunk state of ≡ Some chunk → new.number ≡ chunk.number → total_on new ≡ total_on chunk + 1
    → references_in state + 1 ≡ references_in (record state { chunks = with_chunk new state.chunks })
references-more state of chunk new h is number more =
    omega (arith, more, sum_by-with_chunk total_on of.chunk new chunk state.chunks (number ∙ referred_number state of chunk h is) h.in_order (referred_is_numbered state of chunk h is))

-- retaining gives it that one
pub total-retained : (state : TreeState) (chunk : Chunk) (n : ℕ) → IsLawfulChunk (is_open state) chunk → total_on (retained n chunk) ≡ total_on chunk + 1
total-retained state chunk n h = omega (arith, total_of-with_count chunk.ledgers n (count_of chunk.ledgers n + 1) h.in_order)

-- releasing takes one
total-released : (state : TreeState) (chunk : Chunk) (n : ℕ) → IsLawfulChunk (is_open state) chunk → 1 ≤ count_of chunk.ledgers n → total_on (released n chunk) + 1 ≡ total_on chunk
total-released state chunk n h some = omega (arith, total_of-with_count chunk.ledgers n (count_of chunk.ledgers n - 1) h.in_order)

-- the next owner refers to a chunk to which anyone does
next_owner-refers : (owner : AllocId) (x : Ledger) (xs : List Ledger) → All (λ ledger. 1 ≤ ledger.count) (x ∷ xs) → 1 ≤ count_of (x ∷ xs) (next_owner owner (x ∷ xs)).0
next_owner-refers owner x xs counted = cond_both (nat_lt 0 (count_of (x ∷ xs) owner.0)) owner x.at (λ next. 1 ≤ count_of (x ∷ xs) next.0)
    (λ refers. ltb-true 0 (count_of (x ∷ xs) owner.0) refers) (λ _. ledger-counted (x ∷ xs) 0 x counted (omega arith))

-- so a chunk to which its next owner doesn't refer has no reference
pub total-unowned : (owner : AllocId) (xs : List Ledger) → All (λ ledger. 1 ≤ ledger.count) xs → nat_lt 0 (count_of xs (next_owner owner xs).0) ≡ false → total_of xs ≡ 0
total-unowned owner [] counted none = refl
total-unowned owner (x ∷ xs) counted none =
    absurd (omega (arith, next_owner-refers owner x xs counted, ltb-false 0 (count_of (x ∷ xs) (next_owner owner (x ∷ xs)).0) none))

-- the chunks as a release leaves them have one reference less
pub references-less : (state : TreeState) (of : Ref) (chunk : Chunk) → IsLawfulState state → referred_chunk state of ≡ Some chunk
    → references_in state ≡ references_in (record state { chunks = after_release (released of.alloc.0 chunk) state.chunks }) + 1
references-less state of chunk h is =
    let left = released of.alloc.0 chunk in
    let both = referred_lawful state of chunk h is in
    let number : chunk.number ≡ of.chunk = referred_number state of chunk h is in
    let less : total_on left + 1 ≡ total_on chunk = total-released state chunk of.alloc.0 both.0 both.1 in
    let order : AreInOrder left.ledgers = AreInOrder-with_count chunk.ledgers of.alloc.0 (count_of chunk.ledgers of.alloc.0 - 1) both.0.in_order in
    cond_both (has_ledger left.owner.0 left) (with_chunk left state.chunks) (without_chunk left.number state.chunks) (λ chunks. references_in state ≡ references_in (record state { chunks = chunks }) + 1)
    (λ _. omega (arith, less, sum_by-with_chunk total_on of.chunk left chunk state.chunks number h.in_order (referred_is_numbered state of chunk h is)))
    (λ none. omega (
      arith,
      less,
      total-unowned chunk.owner left.ledgers order.counted none,
      ap (λ n. sum_by total_on (without_chunk n state.chunks)) number,
      sum_by-without_chunk total_on of.chunk chunk state.chunks h.in_order (referred_is_numbered state of chunk h is),
    ))
