-- Live chunks, and what they charge.
use Rattle.std.specs.Prelude.{ℕ, ◌+◌, ◌-◌, ◌<◌, ◌==◌, Bool, nat_lt, List, [], ◌∷◌, map, sum_by, AllPairs, Option, if◌then◌else◌}
use Rattle.std.specs.List.{find}
use Rattle.mem_num.specs.declared.alloc_id.AllocId.{AllocId}
use Rattle.mem_model.specs.declared.charge.Charge.{Charge}
use Rattle.mem_model.specs.declared.ledger.Ledger.{Ledger}
use Rattle.mem_model.specs.Ledgers.{count_of, total_of, with_count}

-- a chunk of memory: its number, its size, the allocator that is charged for it, and who refers to it how often
pub record Chunk : Type 0 where
  pub number : ℕ
  pub size : ℕ
  pub owner : AllocId
  pub ledgers : List Ledger

-- a chunk is charged to its owner, whole
abbrev pub charge_of : Chunk → Charge
charge_of chunk = record { at = chunk.owner; amount = chunk.size }

-- one charge for each chunk
abbrev pub charges_of : List Chunk → List Charge
charges_of chunks = map charge_of chunks

-- chunks stand in order of number, so that no two have the same
abbrev pub AreInNumberOrder : List Chunk → Type 0
AreInNumberOrder chunks = AllPairs (λ older newer. older.number < newer.number) chunks

-- the chunk of the number n, if it is live
abbrev pub chunk_at : List Chunk → ℕ → Option Chunk
chunk_at chunks n = find (λ chunk. chunk.number == n) chunks

-- how many references there are to some chunks
abbrev pub references_of : List Chunk → ℕ
references_of chunks = sum_by (λ chunk. total_of chunk.ledgers) chunks

-- a chunk to which its owner alone refers, once
abbrev pub new_chunk : ℕ → ℕ → AllocId → Chunk
new_chunk number size owner = record { number = number; size = size; owner = owner; ledgers = record { at = owner; count = 1 } ∷ [] }

-- whether the allocator n has a ledger on a chunk
abbrev pub has_ledger : ℕ → Chunk → Bool
has_ledger n chunk = nat_lt 0 (count_of chunk.ledgers n)

-- a chunk to which the allocator n refers once more
abbrev pub retained : ℕ → Chunk → Chunk
retained n chunk = record chunk { ledgers = with_count chunk.ledgers n (count_of chunk.ledgers n + 1) }

-- who owns a chunk with these ledgers: the owner while it has one, and then the allocator with the least number
abbrev pub next_owner : AllocId → List Ledger → AllocId
next_owner owner [] = owner
next_owner owner (first ∷ rest) = if nat_lt 0 (count_of (first ∷ rest) owner.0) then owner else first.at

-- a chunk to which the allocator n refers once less
abbrev pub released : ℕ → Chunk → Chunk
released n chunk =
    let left = with_count chunk.ledgers n (count_of chunk.ledgers n - 1) in
    record chunk { owner = next_owner chunk.owner left; ledgers = left }

-- a chunk in the place of the one that has its number
abbrev pub in_place_of : Chunk → Chunk → Chunk
in_place_of new old = if old.number == new.number then new else old

abbrev pub with_chunk : Chunk → List Chunk → List Chunk
with_chunk new chunks = map (in_place_of new) chunks
