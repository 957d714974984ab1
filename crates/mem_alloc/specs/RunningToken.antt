-- What contracts see of a caller's token.
use Rattle.std.specs.Prelude.{ℕ, List, slice_index, Some, None}
use Rattle.mem_num.specs.declared.rounding.Rounding.TheVariants.{Power}
use Rattle.mem_buf.specs.TokenView.{TokenView}

-- the bytes and calls that may still be spent, how many references were given to the caller and how many it gave back, and the
-- counts of its pins, by the number of the allocator
pub record RunningToken : Type 0 where
  pub bytes : ℕ
  pub turns : ℕ
  pub taken : ℕ
  pub given : ℕ
  pub pins : List ℕ

-- how often a token pins the allocator n
abbrev pub pins_of : RunningToken → ℕ → ℕ
pins_of token n = slice_index token.pins n

-- what it shows as the token of a memory: every allocator by its name, and no limit
abbrev pub running_view : RunningToken → TokenView
running_view token = record {
  bytes = token.bytes;
  turns = token.turns;
  pins = pins_of token;
  rounding = λ n. Some Power;
  limit = λ n. None;
}
