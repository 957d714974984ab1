-- How many numbers calls draw, and how many references they add to a chunk.
use Rattle.std.specs.Prelude.{ℕ, ◌+◌, ◌≤◌, List, All}
use Rattle.mem_model.specs.Chunk.{Chunk}
use Rattle.mem_model.specs.Ledgers.{total_of}
use Rattle.mem_model.specs.TreeState.{TreeState}

-- no chunk has more than n references
abbrev pub HaveReferences : ℕ → List Chunk → Type 0
HaveReferences n chunks = All (λ chunk. total_of chunk.ledgers ≤ n) chunks

-- so many calls drew at most one chunk number and one allocator number each, and added at most one reference each to any chunk
pub record DrawsNumbers (old new : TreeState) (calls : ℕ) : Type 0 where
  pub chunks : new.drawn ≤ old.drawn + calls
  pub allocators : new.next ≤ old.next + calls
  pub references : (n : ℕ) → HaveReferences n old.chunks → HaveReferences (n + calls) new.chunks
