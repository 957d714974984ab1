-- How callers' tokens begin, are cut and are put together.
use Rattle.std.specs.Prelude.{◌≡◌, ℕ, ◌+◌, ◌≤◌, ◌==◌, if◌then◌else◌, List, count_by}
use Rattle.mem_num.specs.declared.alloc_id.AllocId.{AllocId}
use Rattle.acct_words.specs.declared.budget.Budget.{Budget}
use Rattle.mem_alloc.specs.RunningToken.{RunningToken, pins_of}

-- the token of a tree's first caller: the whole budget, and one pin, on the root
pub record IsFirst (token : RunningToken) (budget : Budget) : Type 0 where
  pub bytes : token.bytes ≡ budget.bytes
  pub turns : token.turns ≡ budget.turns
  pub taken : token.taken ≡ 0
  pub given : token.given ≡ 0
  pub pins : (n : ℕ) → pins_of token n ≡ (if n == 0 then 1 else 0)

-- how often an allocator is listed
abbrev pub times_in : List AllocId → ℕ → ℕ
times_in pins n = count_by (λ at. at.0 == n) pins

-- one token was cut in two: both have together what it had, but for a turn; the right one has this budget and these pins
pub record IsCut (old left right : RunningToken) (budget : Budget) (pins : List AllocId) : Type 0 where
  pub bytes : left.bytes + right.bytes ≡ old.bytes
  pub turns : left.turns + right.turns + 1 ≡ old.turns
  pub right_bytes : right.bytes ≡ budget.bytes
  pub right_turns : right.turns ≡ budget.turns
  pub left_taken : left.taken ≡ old.taken
  pub left_given : left.given ≡ old.given
  pub right_taken : right.taken ≡ 0
  pub right_given : right.given ≡ 0
  pub left_pins : (n : ℕ) → pins_of left n + pins_of right n ≡ pins_of old n
  pub right_pins : (n : ℕ) → pins_of right n ≡ times_in pins n

-- two tokens were put together: the new one has what both had
pub record IsJoined (old other new : RunningToken) : Type 0 where
  pub bytes : new.bytes ≡ old.bytes + other.bytes
  pub turns : new.turns ≡ old.turns + other.turns
  pub taken : new.taken ≡ old.taken + other.taken
  pub given : new.given ≡ old.given + other.given
  pub pins : (n : ℕ) → pins_of new n ≡ pins_of old n + pins_of other n

-- so many bytes and turns were spent, so many references came, and so many went
pub record Spends (old new : RunningToken) (bytes turns taken given : ℕ) : Type 0 where
  pub bytes_left : new.bytes + bytes ≡ old.bytes
  pub turns_left : new.turns + turns ≡ old.turns
  pub taken_more : new.taken ≡ old.taken + taken
  pub given_more : new.given ≡ old.given + given

-- at most a turn was spent, and nothing else but pins changed
pub record SpendsATurn (old new : RunningToken) : Type 0 where
  pub turns : old.turns ≤ new.turns + 1
  pub no_more_turns : new.turns ≤ old.turns
  pub bytes : new.bytes ≡ old.bytes
  pub taken : new.taken ≡ old.taken
  pub given : new.given ≡ old.given
