-- Which word is which. An allocator has sixteen words, so that no two allocators share a line of the cache.
use Rattle.std.specs.Prelude.{ℕ, ◌+◌, ◌*◌}

-- the word that never changes, which splits and joins load
abbrev pub still_word : ℕ
still_word = 0

-- the word from which chunk numbers are drawn
abbrev pub number_word : ℕ
number_word = 16

-- what the allocator n holds
abbrev pub held_word : ℕ → ℕ
held_word number = 16 * number + 32

-- its limit
abbrev pub limit_word : ℕ → ℕ
limit_word number = 16 * number + 33

-- the most that it has been seen to hold
abbrev pub peak_word : ℕ → ℕ
peak_word number = 16 * number + 34

-- what its parent sets aside for it
abbrev pub reservation_word : ℕ → ℕ
reservation_word number = 16 * number + 35

-- its parent
abbrev pub parent_word : ℕ → ℕ
parent_word number = 16 * number + 36

-- how many words so many allocators have
abbrev pub word_count : ℕ → ℕ
word_count number = 16 * number + 32
