-- Pins, counted by the number of an allocator.
use Rattle.std.specs.Prelude.{◌≡◌, ℕ, ◌+◌, ◌<◌, ◌^◌, List, slice_index}
use Rattle.mem_num.specs.declared.alloc_id.AllocId.{AllocId}
use Rattle.mem_buf.specs.Changes.{only_at}

-- there are so many more on one allocator, and as many on every other
abbrev pub HasMorePins : List ℕ → List ℕ → AllocId → ℕ → Type 0
HasMorePins old new at more = (n : ℕ) → slice_index new n ≡ slice_index old n + only_at at more n

-- each count has 64 bits
abbrev pub AreSmall : List ℕ → Type 0
AreSmall counts = (n : ℕ) → slice_index counts n < 2 ^ 64
