-- Charges that come back.
use Rattle.std.specs.Prelude.{◌≡◌, ℕ, ◌+◌, sum_by}
use Rattle.acct_words.specs.Entries.{begun, forgotten}
use Rattle.acct_words.specs.Entries.StepKind.{ForgetChunk}
use Rattle.acct_words.specs.Views.{Start}
use Rattle.acct_words.specs.Tokens.{CallerToken, ChunkToken, shown_history}
use Rattle.acct_words.specs.CallHistories.{HasCharged, HasDischarged, TakesIn}

-- A caller token has begun all charges that were begun, and has given all of them back: what is left of its budget, with the sizes that it
-- began, is the budget of the opening; and it has forgotten as many bytes as it has begun
pub record HasGivenAllBack (start : Start) (token : CallerToken) : Type 0 where
  pub alone : token.budget.bytes + sum_by begun token.history.own ≡ start.bytes
  pub given_back : sum_by forgotten token.history.own ≡ sum_by begun token.history.own

-- A charge at an allocator came back: it was made, its chunk was released there, and the chunk's token was taken in
pub record HasComeBack (start : Start) (at size : ℕ) (old new : CallerToken) : Type 0 where
  pub number : ℕ
  pub between : CallerToken
  pub chunk : ChunkToken
  pub bare : ChunkToken
  pub charged : HasCharged at size number old.history between.history
  pub spent : between.budget.bytes + size ≡ old.budget.bytes
  pub shown : chunk.history ≡ shown_history between.history
  pub released : HasDischarged at size chunk.history bare.history
  pub taken_in : TakesIn (ForgetChunk size) between.history bare.history new.history
  pub kept : new.budget ≡ between.budget
