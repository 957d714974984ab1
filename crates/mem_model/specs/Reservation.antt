-- What a child counts for at its parent, which sets a reservation aside whether it is used or not.
use Rattle.std.specs.Prelude.{ℕ, ◌-◌, max}

-- a child that reserves so much and holds so much
abbrev pub counted_at_parent : ℕ → ℕ → ℕ
counted_at_parent reservation held = max held reservation

-- how much more the parent counts once the child's bytes have risen from low to high
abbrev pub beyond_reservation : ℕ → ℕ → ℕ → ℕ
beyond_reservation reservation low high = counted_at_parent reservation high - counted_at_parent reservation low
