-- The most that an allocator can come to hold.
use Rattle.std.specs.Prelude.{ℕ, ◌+◌, ◌*◌, List, sum}

-- each size counts twice, because a chunk is charged to two allocators while its charge moves; a reservation counts once
abbrev pub worst_case : List ℕ → List ℕ → ℕ
worst_case sizes reservations = 2 * sum sizes + sum reservations
