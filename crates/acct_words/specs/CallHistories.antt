-- What the history of a caller shows of each call.
use Rattle.std.specs.Prelude.{◌≡◌, ℕ, ◌+◌, ◌≤◌, Bool, true, false, not, List, [], ◌∷◌, ◌++◌, map, All, Some, None, sum_by}
use Rattle.mem_num.specs.declared.full.Full.{Full}
use Rattle.mem_model.specs.WorstCase.{worst_case}
use Rattle.acct_core.specs.declared.level_step.LevelStep.{LevelStep}
use Rattle.acct_core.specs.Phases.{any_past}
use Rattle.acct_words.specs.Entries.{StepKind, Entry, InHistory, begun}
use Rattle.acct_words.specs.Entries.StepKind.{LoadWord, DrawChunkNumber, ForgetChunk}
use Rattle.acct_words.specs.Places.{still_word, number_word}
use Rattle.acct_words.specs.Views.{Start}
use Rattle.acct_words.specs.Rule.{IsHistory, reservations}
use Rattle.acct_words.specs.Climbs.{Climbs, refusal_of}
use Rattle.acct_words.specs.Falls.{Descends}
use Rattle.acct_words.specs.Tokens.{History}

-- a token made these steps
pub record Makes (steps : List Entry) (old new : History) : Type 0 where
  pub own : new.own ≡ old.own ++ steps
  pub observed : new.observed ≡ old.observed

-- an entry draws this number
pub record IsDraw (number : ℕ) (entry : Entry) : Type 0 where
  pub word : entry.word ≡ number_word
  pub kind : entry.kind ≡ DrawChunkNumber
  pub found : entry.found ≡ number

-- an entry of this kind loads the word that never changes
pub record IsPause (kind : StepKind) (entry : Entry) : Type 0 where
  pub word : entry.word ≡ still_word
  pub kind_is : entry.kind ≡ kind

-- what a step led to is within the limit that was read after it
abbrev pub StaysWithinLimit : LevelStep → Type 0
StaysWithinLimit step = step.old + step.amount ≤ step.limit

-- A charge of this size at an allocator succeeded. The token drew the number and went up the levels, and each level that it touched was
-- within its limit
pub record HasCharged (at size number : ℕ) (old new : History) : Type 0 where
  pub draw : Entry
  pub up : List Entry
  pub pause : Entry
  pub steps : List LevelStep
  pub drew : IsDraw number draw
  pub climb : Climbs at size false up steps None
  pub begins : sum_by begun up ≡ size
  pub within : All StaysWithinLimit steps
  pub paused : IsPause LoadWord pause
  pub made : Makes (draw ∷ (up ++ pause ∷ [])) old new

-- A charge was refused. The token drew a number, went up all levels, took that back by one release, and forgot the chunk; the refusal has
-- what its own step found at the lowest level that went past its limit
pub record HasBeenRefused (at size : ℕ) (old new : History) (full : Full) : Type 0 where
  pub number : ℕ
  pub draw : Entry
  pub up : List Entry
  pub down : List Entry
  pub pause : Entry
  pub steps : List LevelStep
  pub drew : IsDraw number draw
  pub climb : Climbs at size false up steps None
  pub begins : sum_by begun up ≡ size
  pub refusal : refusal_of at steps ≡ Some full
  pub descent : Descends at size down None
  pub forgot : IsPause (ForgetChunk size) pause
  pub made : Makes (draw ∷ (up ++ (down ++ pause ∷ []))) old new

-- there is a history of all steps that the table can have, in which these steps stand, and so many bytes are within the worst case of the
-- sizes that were begun in it and of all reservations
pub record IsWithinWorstCase (start : Start) (history : History) (bytes : ℕ) : Type 0 where
  pub steps : List Entry
  pub legal : IsHistory start steps
  pub own : All (InHistory steps) history.own
  pub observed : All (InHistory steps) history.observed
  pub bound : bytes ≤ worst_case (map begun steps) (reservations start.tree)

-- A size was forced onto an allocator: the token went up the levels and took nothing back; and this says whether all stayed within limits
pub record HasForced (at size : ℕ) (old new : History) (within : Bool) : Type 0 where
  pub up : List Entry
  pub steps : List LevelStep
  pub climb : Climbs at size true up steps None
  pub begins : sum_by begun up ≡ 0
  pub answer : within ≡ not (any_past steps)
  pub made : Makes up old new

-- a charge was released: the token subtracted it level by level
pub record HasDischarged (at size : ℕ) (old new : History) : Type 0 where
  pub down : List Entry
  pub descent : Descends at size down None
  pub made : Makes down old new

-- the token loaded a word, and found this
pub record HasLoaded (word found : ℕ) (old new : History) : Type 0 where
  pub load : Entry
  pub word_is : load.word ≡ word
  pub kind : load.kind ≡ LoadWord
  pub returned : load.found ≡ found
  pub made : Makes (load ∷ []) old new

-- a token took in another by a load of this kind; that one's steps are its own from now on, and it was shown what that one was shown
pub record TakesIn (kind : StepKind) (old other new : History) : Type 0 where
  pub pause : Entry
  pub paused : IsPause kind pause
  pub own : new.own ≡ old.own ++ (other.own ++ pause ∷ [])
  pub observed : new.observed ≡ old.observed ++ other.observed

-- a token split another one off
pub record SplitsOff (old new : History) : Type 0 where
  pub load : Entry
  pub loads : load.kind ≡ LoadWord
  pub made : Makes (load ∷ []) old new
