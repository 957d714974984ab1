-- What holds of a live chunk, by which allocators are open.
use Rattle.std.specs.Prelude.{◌≡◌, ℕ, ◌≤◌, Bool, true, All}
use Rattle.mem_num.specs.declared.bounds.TheConstants.{LARGEST}
use Rattle.mem_model.specs.Chunk.{Chunk}
use Rattle.mem_model.specs.Ledgers.{AreInOrder, count_of}

-- a lawful chunk, where `is_open` tells which allocators are open: it has a number and bytes, its owner, which is charged for it, refers to it, and everyone who refers to it is open
pub record IsLawfulChunk (is_open : ℕ → Bool) (chunk : Chunk) : Type 0 where
  pub some : 1 ≤ chunk.number
  pub some_bytes : 1 ≤ chunk.size
  pub few_bytes : chunk.size ≤ LARGEST
  pub in_order : AreInOrder chunk.ledgers
  pub owner : 1 ≤ count_of chunk.ledgers chunk.owner.0
  pub open_ : All (λ ledger. is_open ledger.at.0 ≡ true) chunk.ledgers
