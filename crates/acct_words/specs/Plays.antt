-- What each kind of step tells its caller.
use Rattle.std.specs.Prelude.{◌≡◌, ℕ, ◌+◌, ◌^◌, ◌<◌, ◌≤◌, ◌==◌, if◌then◌else◌, List, [], ◌∷◌, ◌++◌, sum_by, Option, Some, None, All}
use Rattle.acct_words.specs.declared.budget.TheConstants.{MOST_BYTES}
use Rattle.mem_num.specs.declared.bounds.TheConstants.{MOST_NUMBERS}
use Rattle.atomic_table.specs.Table.{Me}
use Rattle.atomic_table.specs.Table as table
use Rattle.acct_words.specs.Entries.{StepKind, Entry, begun, forgotten, reached, peak_shown}
use Rattle.acct_words.specs.Entries.StepKind.{LoadWord, DrawChunkNumber, BeginCharge, AddHeld, SubtractHeld, ForgetChunk, RaisePeak}
use Rattle.acct_words.specs.declared.rule.Said.{Said}
use Rattle.acct_words.specs.declared.fixed.Fixed.{Fixed}
use Rattle.acct_words.specs.Views.{Chunk, Known, Body, View}
use mathlib.Core.Option as option
use mathlib.Core.Option.{some, none}
use Rattle.acct_words.specs.Places.{held_word, limit_word, peak_word, reservation_word, parent_word}
use Rattle.acct_words.specs.Rows.{ComesAfterParent}
use Rattle.acct_words.specs.Rule.{KnowsHistory, KnowsWorstCase}
use Rattle.acct_words.specs.Openings.{held_uncharged}
use Rattle.acct_words.specs.Moves.{drawing, beginning, forcing, rising, reading, parting, parted, falling, turning, paying, paid}

-- a step of this name
abbrev pub entry : ℕ → ℕ → StepKind → ℕ → Entry
entry name word act found = record { name = name; word = word; kind = act; found = found }

-- a view whose own body made this step
abbrev pub stepping : (Body → Entry → Body) → View → Entry → View
stepping make old step = record old { own = make old.own step }

-- a step on a word, which returned this, made this of the token's own body
abbrev pub Steps : StepKind → (Body → Entry → Body) → ℕ → ℕ → View → View → Type 0
Steps act make word found old new = (name : ℕ) × (new ≡ stepping make old (entry name word act found))

-- a view that knows what is fixed of a level
abbrev pub knowing : ℕ → Fixed → View → View
knowing level fixed view = record view { known = record { level = level; fixed = fixed } ∷ view.known }

-- what is known of a level
abbrev pub known_at : ℕ → List Known → Option Fixed
known_at level [] = None
known_at level (known ∷ others) = if known.level == level then Some known.fixed else known_at level others

-- a view that knows a level
pub record KnowsLevel (level : ℕ) (view : View) : Type 0 where
  pub fixed : Fixed
  pub is : known_at level view.known ≡ Some fixed

-- a step on the held word of a level made this of the token's own body, by what is fixed of the level, which the token knows from then on
pub record StepsAt (act : StepKind) (make : ℕ → Fixed → Body → Entry → Body) (level found : ℕ) (old new : View) : Type 0 where
  pub fixed : Fixed
  pub made : Steps act (make level fixed) (held_word level) found (knowing level fixed old) new
  pub after_parent : ComesAfterParent level fixed

-- what a load tells of a level that the token knows
pub record TellsFixed (word found : ℕ) (view : View) : Type 0 where
  pub limit : (level : ℕ) → word ≡ limit_word level → (fixed : Fixed) → known_at level view.known ≡ Some fixed → found ≡ fixed.limit
  pub reservation : (level : ℕ) → word ≡ reservation_word level → (fixed : Fixed) → known_at level view.known ≡ Some fixed →
      found ≡ fixed.reservation
  pub parent : (level : ℕ) → word ≡ parent_word level → (fixed : Fixed) → known_at level view.known ≡ Some fixed → found ≡ fixed.parent.0

-- the size of the first chunk
abbrev pub first_size : List Chunk → ℕ
first_size [] = 0
first_size (chunk ∷ chunks) = chunk.size

-- a body has begun all that was begun, and has forgotten all of it
pub record IsAllGivenBack (bytes : ℕ) (body : Body) : Type 0 where
  pub alone : body.bytes + sum_by begun body.own_steps ≡ bytes
  pub given_back : sum_by forgotten body.own_steps ≡ sum_by begun body.own_steps

-- What a load of a held number tells: it is within the worst case; and it is what the tree holds uncharged, where the token alone has begun
-- what was begun, and has given all of it back
pub record TellsHeld (level found : ℕ) (old new : View) : Type 0 where
  pub small : found < 2 ^ 63
  pub bound : KnowsWorstCase new found
  pub uncharged : IsAllGivenBack old.start.bytes old.own → found ≡ held_uncharged old.start.tree level

-- a view whose first chunk is offered, and a step of this name and what it found
abbrev pub parting_view : View → ℕ → ℕ → ℕ → View
parting_view old name word found = record old { own = parting old.own (entry name word LoadWord found); offer = parted old.own }

-- an addition of the token's own led to this
pub record HasReached (to : ℕ) (view : View) : Type 0 where
  pub before : List Entry
  pub addition : Entry
  pub later : List Entry
  pub made : view.own.own_steps ≡ before ++ addition ∷ later
  pub reaches : reached addition.kind addition.found ≡ to

-- what a load of a peak tells: it is within the worst case, and has reached all that the token made or was shown
pub record TellsPeak (level found : ℕ) (old new : View) : Type 0 where
  pub small : found < 2 ^ 63
  pub bound : KnowsWorstCase new found
  pub own_steps : All (λ entry. peak_shown level entry ≤ found) old.own.own_steps
  pub observed : All (λ entry. peak_shown level entry ≤ found) old.own.observed

module _ {S : Type 0} where
  -- a number is drawn, which fits in 32 bits
  abbrev pub Draws : table.Step S → Me S View → ℕ → Me S View → Type 0
  Draws asked me found after = Steps DrawChunkNumber drawing asked.word found me.0 after.0 × (after.1 ≡ me.1) × (1 ≤ found) ×
      (found < MOST_NUMBERS)

  -- a charge begins
  abbrev pub Begins : table.Step S → Me S View → ℕ → Me S View → Type 0
  Begins asked me found after =
      ((level : ℕ) → asked.word ≡ held_word level → StepsAt (BeginCharge asked.first) (beginning asked.first) level found me.0 after.0) ×
      (after.1 ≡ me.1) × (found + asked.first < 2 ^ 63)

  -- a chunk's size is forced onto an allocator
  abbrev pub Forces : table.Step S → Me S View → ℕ → Me S View → Type 0
  Forces asked me found after =
      ((level : ℕ) → asked.word ≡ held_word level → StepsAt (AddHeld asked.first) (forcing asked.first) level found me.0 after.0) ×
      (after.1 ≡ me.1) × (found + asked.first < 2 ^ 63)

  -- what is pending is added at the next level
  abbrev pub Rises : table.Step S → Me S View → ℕ → Me S View → Type 0
  Rises asked me found after =
      ((level : ℕ) → asked.word ≡ held_word level → StepsAt (AddHeld asked.first) rising level found me.0 after.0) ×
      (after.1 ≡ me.1) × (found + asked.first < 2 ^ 63)

  -- what is fixed of a level is read
  abbrev pub Reads : table.Step S → Me S View → ℕ → Me S View → Type 0
  Reads asked me found after = Steps LoadWord reading asked.word found me.0 after.0 × (after.1 ≡ me.1) × TellsFixed asked.word found me.0

  -- what a level holds is read, and the level is known from then on
  abbrev pub Meets : table.Step S → Me S View → ℕ → Me S View → Type 0
  Meets asked me found after =
      ((level : ℕ) → asked.word ≡ held_word level → StepsAt LoadWord (λ level fixed. reading) level found me.0 after.0) ×
      (after.1 ≡ me.1)

  -- a peak is read
  abbrev pub ReadsPeak : table.Step S → Me S View → ℕ → Me S View → Type 0
  ReadsPeak asked me found after = Steps LoadWord reading asked.word found me.0 after.0 × (after.1 ≡ me.1) ×
      ((level : ℕ) → asked.word ≡ peak_word level → TellsPeak level found me.0 after.0)

  -- a peak is raised
  abbrev pub Raises : table.Step S → Me S View → ℕ → Me S View → Type 0
  Raises asked me found after = Steps (RaisePeak asked.first) reading asked.word found me.0 after.0 × (after.1 ≡ me.1)

  -- what a level holds is read
  abbrev pub Looks : table.Step S → Me S View → ℕ → Me S View → Type 0
  Looks asked me found after = Steps LoadWord reading asked.word found me.0 after.0 × (after.1 ≡ me.1) ×
      ((level : ℕ) → asked.word ≡ held_word level → TellsHeld level found me.0 after.0)

  -- the first chunk is offered to the next split
  abbrev pub Parts : table.Step S → Me S View → ℕ → Me S View → Type 0
  Parts asked me found after =
      (name : ℕ) × (after ≡ (parting_view me.0 name asked.word found, me.1)) × KnowsHistory after.0

  -- a charge turns round, and its whole size is subtracted at its allocator
  abbrev pub Turns : table.Step S → Me S View → ℕ → Me S View → Type 0
  Turns asked me found after =
      ((level : ℕ) → asked.word ≡ held_word level → StepsAt (SubtractHeld asked.first) turning level found me.0 after.0) ×
      (after.1 ≡ me.1) × (asked.first ≤ found) × (found < 2 ^ 63)

  -- what is pending is subtracted at the next level
  abbrev pub Falls : table.Step S → Me S View → ℕ → Me S View → Type 0
  Falls asked me found after =
      ((level : ℕ) → asked.word ≡ held_word level → StepsAt (SubtractHeld asked.first) falling level found me.0 after.0) ×
      (after.1 ≡ me.1) × (asked.first ≤ found) × (found < 2 ^ 63)

  -- the first chunk, which has no charge, is forgotten
  abbrev pub Forgets : table.Step S → Me S View → ℕ → Me S View → Type 0
  Forgets asked me found after = Steps (ForgetChunk (first_size me.0.own.chunks)) parting asked.word found me.0 after.0 ×
      (after.1 ≡ me.1) × KnowsHistory after.0

  -- the budget is small
  abbrev pub Counts : table.Step S → Me S View → ℕ → Me S View → Type 0
  Counts asked me found after = Steps LoadWord reading asked.word found me.0 after.0 × (after.1 ≡ me.1) × (me.0.own.bytes ≤ MOST_BYTES) ×
      (me.0.own.turns < MOST_NUMBERS)

-- the bytes that a step was told, and the turns
abbrev pub bytes_said : option.Option Said → ℕ
bytes_said none = 0
bytes_said (some said) = said.bytes

abbrev pub turns_said : option.Option Said → ℕ
turns_said none = 0
turns_said (some said) = said.turns

-- a view of which so much is offered, and a step of this name and what it found
abbrev pub paying_view : View → ℕ → ℕ → ℕ → ℕ → ℕ → View
paying_view old bytes turns name word found =
    record old { own = paying bytes turns old.own (entry name word LoadWord found); offer = paid bytes turns }

-- a part of the budget is offered to the next split
abbrev pub Pays : table.Step Said → Me Said View → ℕ → Me Said View → Type 0
Pays asked me found after = (name : ℕ) × (after ≡ (
  paying_view me.0 (bytes_said asked.said) (turns_said asked.said) name asked.word found,
  me.1,
))
