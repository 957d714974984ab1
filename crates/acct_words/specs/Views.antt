-- What tokens show.
use Rattle.std.specs.Prelude.{ℕ, List}
use Rattle.acct_core.specs.Claims.{Claim}
use Rattle.acct_words.specs.declared.fixed.Fixed.{Fixed}
use Rattle.acct_words.specs.Entries.{Entry}

-- what a table was opened with
pub record Start : Type 0 where
  pub tree : List Fixed
  pub bytes : ℕ
  pub turns : ℕ

-- a chunk with what it is charged, the latest first; before its request begins its size is 0
pub record Chunk : Type 0 where
  pub number : ℕ
  pub size : ℕ
  pub charges : List Claim

-- what can pass from one token to another: the steps that it made, those of other tokens that it was shown, what is left of its budget,
-- and its chunks
pub record Body : Type 0 where
  pub own_steps : List Entry
  pub observed : List Entry
  pub bytes : ℕ
  pub turns : ℕ
  pub chunks : List Chunk

-- what is fixed of an allocator, as a token knows it
pub record Known : Type 0 where
  pub level : ℕ
  pub fixed : Fixed

-- what a token keeps, and what its next split gives away; what the table was opened with is shown by each, and what the token knows of
-- allocators at which it made a step, the latest first
pub record View : Type 0 where
  pub start : Start
  pub known : List Known
  pub own : Body
  pub offer : Body
