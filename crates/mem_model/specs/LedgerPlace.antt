-- Where an allocator's ledger stands in the list.
use Rattle.std.specs.Prelude.{◌≡◌, ℕ, ◌<◌, List, count_by, length, slice_index_or}
use Rattle.mem_model.specs.declared.ledger.Ledger.{Ledger}
use Rattle.mem_model.specs.Ledgers.{count_of, is_below}

-- where the ledger of the allocator n stands, or else where it belongs: as many ledgers stand before it
abbrev pub place_in : List Ledger → ℕ → ℕ
place_in ledgers n = count_by (is_below n) ledgers

-- the ledger of the allocator n stands at this place
pub record IsLedgerAt (ledgers : List Ledger) (n place : ℕ) : Type 0 where
  pub within : place < length ledgers
  pub ledger : (d : Ledger) → slice_index_or ledgers place d ≡ record { at = record { 0 = n }; count = count_of ledgers n }
