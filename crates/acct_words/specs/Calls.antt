-- What the calls ask of a token, and what they make of it.
use Rattle.std.specs.Prelude.{◌≡◌, ℕ, ◌≤◌, Bool, List, [], ◌∷◌, length}
use Rattle.mem_num.specs.declared.bounds.TheConstants.{MOST_ALLOCATORS}
use Rattle.atomic_table.specs.declared.shared.Shared.{Shared}
use Rattle.atomic_table.specs.declared.shared.Seat.{Seat}
use Rattle.acct_core.specs.Claims.{Claim, claim_at}
use Rattle.acct_core.specs.declared.level_step.LevelStep.{LevelStep}
use Rattle.acct_core.specs.Phases.Phase.{Up, Down}
use Rattle.acct_core.specs.Phases.{Phase}
use Rattle.acct_core.specs.FixedTrees.{CanTurnRound}
use Rattle.acct_words.specs.declared.rule.Said.{Said}
use Rattle.acct_words.specs.declared.rule.AccountsRule.{AccountsRule}
use Rattle.acct_words.specs.declared.fixed.Opening.{Opening}
use Rattle.acct_words.specs.Views.{Chunk, View}
use Rattle.acct_words.specs.Places.{still_word, held_word, word_count}
use Rattle.acct_words.specs.Bodies.{left, right}
use Rattle.acct_words.specs.Moves.{to_front}
use Rattle.acct_words.specs.Plays.{parting_view}
use Rattle.acct_words.specs.Rule.{start_of}

-- the token is of this table
pub record IsOf (words : Shared Said View Opening AccountsRule) (token : Seat Said View) : Type 0 where
  pub table : token.table_id ≡ words.table_id
  pub start : token.me.0.start ≡ start_of words.key
  pub wide : words.table_id.words ≡ word_count (length words.key.nodes.items)
  pub few : length words.key.nodes.items ≤ MOST_ALLOCATORS

-- it has a chunk in hand
pub record HasChunk (v : View) : Type 0 where
  pub chunk : Chunk
  pub others : List Chunk
  pub is : v.own.chunks ≡ chunk ∷ others

-- the chunk in hand has no charge
pub record HasEmptyChunk (v : View) : Type 0 where
  pub chunk : Chunk
  pub others : List Chunk
  pub is : v.own.chunks ≡ chunk ∷ others
  pub empty : chunk.charges ≡ []

-- the chunk in hand, of this size, has at most one charge
pub record HasRoom (size : ℕ) (v : View) : Type 0 where
  pub chunk : Chunk
  pub others : List Chunk
  pub is : v.own.chunks ≡ chunk ∷ others
  pub one : length chunk.charges ≤ 1
  pub size_is : chunk.size ≡ size

-- the first charge of the chunk in hand has this amount to add at this level
pub record GoesUp (level amount : ℕ) (v : View) : Type 0 where
  pub chunk : Chunk
  pub others : List Chunk
  pub is : v.own.chunks ≡ chunk ∷ others
  pub at : ℕ
  pub size : ℕ
  pub forced : Bool
  pub steps : List LevelStep
  pub rest : List Claim
  pub up : chunk.charges ≡ claim_at at (Up size level amount forced steps) ∷ rest

-- the chunk in hand went to a new token, which saw all that the old one made or saw
pub record HasParted (v w new : View) : Type 0 where
  pub name : ℕ
  pub found : ℕ
  pub kept : w ≡ left (parting_view v name still_word found)
  pub given : new ≡ right (parting_view v name still_word found)

-- the chunk in hand has a charge of this size at this level, which can turn round
pub record TurnsBack (level size : ℕ) (v : View) : Type 0 where
  pub chunk : Chunk
  pub others : List Chunk
  pub is : v.own.chunks ≡ chunk ∷ others
  pub phase : Phase
  pub rest : List Claim
  pub front : to_front (held_word level) chunk.charges ≡ claim_at level phase ∷ rest
  pub turns : CanTurnRound size phase

-- the first charge of the chunk in hand has this amount to subtract at this level
pub record GoesDown (level amount : ℕ) (v : View) : Type 0 where
  pub chunk : Chunk
  pub others : List Chunk
  pub is : v.own.chunks ≡ chunk ∷ others
  pub at : ℕ
  pub size : ℕ
  pub rest : List Claim
  pub down : chunk.charges ≡ claim_at at (Down size level amount) ∷ rest
