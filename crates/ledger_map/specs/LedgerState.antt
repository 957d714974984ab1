-- What a contract sees of the ledgers of one chunk.
use Rattle.std.specs.Prelude.{◌≡◌, ◌≢◌, ℕ, ◌+◌, ◌-◌, ◌^◌, ◌≤◌, List, [], length}
use Rattle.mem_num.specs.declared.bounds.TheConstants.{LARGEST}
use Rattle.mem_num.specs.declared.alloc_id.AllocId.{AllocId}
use Rattle.mem_model.specs.declared.ledger.Ledger.{Ledger}
use Rattle.mem_model.specs.Ledgers.{AreInOrder, ChangesCount, count_of, total_of, with_count}

-- what a contract sees of `Ledgers`: the bytes of the chunk, who is charged for them, the ledgers, and how many more fit without memory
pub record LedgerState : Type 0 where
  pub size : ℕ
  pub owner : AllocId
  pub ledgers : List Ledger
  pub spare : ℕ

-- the ledgers of a chunk: while one remains, the owner has one
pub record AreLawfulLedgers (state : LedgerState) : Type 0 where
  pub in_order : AreInOrder state.ledgers
  pub owned : state.ledgers ≢ [] → 1 ≤ count_of state.ledgers state.owner.0
  pub some_bytes : 1 ≤ state.size
  pub few_bytes : state.size ≤ LARGEST
  pub few_references : total_of state.ledgers ≤ 2 ^ 58

-- nothing changed but how many more ledgers fit without memory
pub record IsUnchanged (old new : LedgerState) : Type 0 where
  pub size : new.size ≡ old.size
  pub owner : new.owner ≡ old.owner
  pub ledgers : new.ledgers ≡ old.ledgers

-- no place for a ledger was made or lost: a place is free again where a ledger went
abbrev pub KeepsPlaces : LedgerState → LedgerState → Type 0
KeepsPlaces old new = new.spare + length new.ledgers ≡ old.spare + length old.ledgers

-- the allocator n has one reference more
pub record AddsOne (old new : LedgerState) (n : ℕ) : Type 0 where
  pub ledgers : new.ledgers ≡ with_count old.ledgers n (count_of old.ledgers n + 1)
  pub counts : ChangesCount old.ledgers new.ledgers n (count_of old.ledgers n + 1)
  pub total : total_of new.ledgers ≡ total_of old.ledgers + 1
  pub size : new.size ≡ old.size
  pub owner : new.owner ≡ old.owner
  pub places : KeepsPlaces old new

-- the allocator n has one reference less; who owns the chunk is told apart
pub record TakesOne (old new : LedgerState) (n : ℕ) : Type 0 where
  pub ledgers : new.ledgers ≡ with_count old.ledgers n (count_of old.ledgers n - 1)
  pub counts : ChangesCount old.ledgers new.ledgers n (count_of old.ledgers n - 1)
  pub total : total_of new.ledgers + 1 ≡ total_of old.ledgers
  pub size : new.size ≡ old.size
  pub places : KeepsPlaces old new
