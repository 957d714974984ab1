-- A request's way up the levels, as its token's own steps show it.
use Rattle.std.specs.Prelude.{◌≡◌, ℕ, suc, ◌+◌, ◌-◌, ◌<◌, ◌≤◌, ◌==◌, Bool, true, false, not, ◌&&◌, ◌||◌, if◌then◌else◌, List, [], ◌∷◌, ◌++◌, sum_by}
use Rattle.std.specs.Prelude.{Option, Some, None}
use Rattle.mem_num.specs.declared.full.Full.{Full}
use Rattle.mem_model.specs.Reservation.{beyond_reservation}
use Rattle.acct_core.specs.declared.level_step.LevelStep.{LevelStep}
use Rattle.acct_core.specs.Claims.{Claim, claim_at}
use Rattle.acct_core.specs.Effects.{passed, goes_on, step_at}
use Rattle.acct_core.specs.Phases.{is_past, any_past}
use Rattle.acct_words.specs.Entries.{StepKind, Entry, begun}
use Rattle.acct_words.specs.Entries.StepKind.{LoadWord, DrawChunkNumber, BeginCharge, AddHeld, SubtractHeld, ForgetChunk, RaisePeak}
use Rattle.acct_words.specs.declared.fixed.Fixed.{Fixed}
use Rattle.acct_words.specs.declared.level.Above.{Above}
use Rattle.acct_words.specs.Views.{Chunk, Known, Body, View}
use Rattle.acct_words.specs.Places.{held_word, limit_word, peak_word, reservation_word, parent_word}
use Rattle.acct_words.specs.Rows.{parent_of, ComesAfterParent}
use Rattle.acct_words.specs.Moves.{found_row, charged_as, reading}
use Rattle.acct_words.specs.Plays.{entry, stepping, knowing}

-- what the step at a level did, of which this is fixed and where the held word returned this
abbrev pub level_step : ℕ → Fixed → ℕ → ℕ → LevelStep
level_step level fixed amount found = step_at level (found_row level fixed found) amount

-- which level is asked next and for how much, after an addition at a level
abbrev pub next_asked : ℕ → Fixed → ℕ → ℕ → Option (ℕ × ℕ)
next_asked level fixed amount found =
    passed (parent_of level fixed) (beyond_reservation fixed.reservation found (found + amount))

-- what a step adds, if it adds anything
abbrev pub amount_of : StepKind → Option ℕ
amount_of LoadWord = None
amount_of DrawChunkNumber = None
amount_of (BeginCharge size) = Some size
amount_of (AddHeld amount) = Some amount
amount_of (SubtractHeld amount) = None
amount_of (ForgetChunk size) = None
amount_of (RaisePeak to) = None

-- an entry loads a word, which returned this
pub record IsLoadOf (word found : ℕ) (entry : Entry) : Type 0 where
  pub word_is : entry.word ≡ word
  pub kind : entry.kind ≡ LoadWord
  pub returned : entry.found ≡ found

-- an addition of an amount at a level, and after it the loads of what is fixed there
pub record IsLevel (level amount : ℕ) (fixed : Fixed) (addition limit reservation parent : Entry) : Type 0 where
  pub held : addition.word ≡ held_word level
  pub added : amount_of addition.kind ≡ Some amount
  pub limit_is : IsLoadOf (limit_word level) fixed.limit limit
  pub reservation_is : IsLoadOf (reservation_word level) fixed.reservation reservation
  pub parent_is : IsLoadOf (parent_word level) fixed.parent.0 parent

-- The peak of a level is raised to this, if it is due: it is loaded, and raised where it is below
pub data IsRaise (level to : ℕ) : Bool → List Entry → Type 0 where
  none : IsRaise level to false []
  still : (load : Entry) → IsLoadOf (peak_word level) load.found load → to ≤ load.found → IsRaise level to true (load ∷ [])
  raised : (load raise : Entry) → IsLoadOf (peak_word level) load.found load → raise.word ≡ peak_word level → raise.kind ≡ RaisePeak to →
      IsRaise level to true (load ∷ raise ∷ [])

-- a peak is due after these steps where the request is forced, or none of them went past its limit
abbrev pub is_due : Bool → List LevelStep → Bool
is_due forced steps = forced || not (any_past steps)

-- The steps of a request of this size, from its allocator up, as these entries show them, and what is to be asked next; the request has
-- gone up all the way where nothing is. At each level the amount is added, the limit, the reservation and the parent are loaded, and the
-- peak is raised where that is due
pub data Climbs (at size : ℕ) (forced : Bool) : List Entry → List LevelStep → Option (ℕ × ℕ) → Type 0 where
  begins : Climbs at size forced [] [] (Some (at, size))
  adds : {entries : List Entry} {steps : List LevelStep} {level amount : ℕ} (fixed : Fixed) (addition limit reservation parent : Entry)
      (raise : List Entry) →
      Climbs at size forced entries steps (Some (level, amount)) → IsLevel level amount fixed addition limit reservation parent →
      IsRaise level (addition.found + amount) (is_due forced (steps ++ level_step level fixed amount addition.found ∷ [])) raise →
      Climbs at size forced (entries ++ addition ∷ limit ∷ reservation ∷ parent ∷ raise)
      (steps ++ level_step level fixed amount addition.found ∷ []) (next_asked level fixed amount addition.found)

-- the refusal of a step of a request that began at `at`
abbrev pub full_at : ℕ → LevelStep → Full
full_at at step = record {
  node = record { 0 = step.level };
  held = step.old;
  amount = step.amount;
  limit = step.limit;
  local =
      step.level == at;
}

-- the refusal of the lowest level that went past its limit
abbrev pub refusal_of : ℕ → List LevelStep → Option Full
refusal_of at [] = None
refusal_of at (step ∷ steps) = if is_past step then Some (full_at at step) else refusal_of at steps

-- the first of two refusals
abbrev pub first_of : Option Full → Option Full → Option Full
first_of None second = second
first_of (Some full) second = Some full

-- a view that knows this, with more steps of its own, and with other numbers and chunks
abbrev pub standing : View → List Known → List Entry → ℕ → ℕ → List Chunk → View
standing old known entries bytes turns chunks = record old {
  known = known;
  own = record (old.own) {
    own_steps = old.own.own_steps ++ entries;
    bytes = bytes;
    turns = turns;
    chunks = chunks;
  };
}

-- the chunk in hand has gone up by these steps, and this is what that made of a view
pub record HasClimbed (at size : ℕ) (forced : Bool) (chunk : Chunk) (rest : List Claim) (others : List Chunk) (bytes turns : ℕ)
    (old new : View) (steps : List LevelStep) (next : Option (ℕ × ℕ)) : Type 0 where
  pub entries : List Entry
  pub climb : Climbs at size forced entries steps next
  -- a charge begins with its whole size, and a force begins nothing
  pub begins : sum_by begun entries ≡ (if forced then 0 else size)
  pub known : List Known
  pub view : new ≡ standing old known entries bytes turns
      (charged_as chunk (claim_at at (goes_on next size forced steps) ∷ rest) ∷ others)

-- the loads of what is fixed of a level, but for its limit
abbrev pub above_read : ℕ → Fixed → ℕ → ℕ → View → View
above_read level fixed second third old = stepping reading
    (stepping reading old (entry second (reservation_word level) LoadWord fixed.reservation))
    (entry third (parent_word level) LoadWord fixed.parent.0)

-- and of all that is fixed of it
abbrev pub level_read : ℕ → Fixed → ℕ → ℕ → ℕ → View → View
level_read level fixed first second third old =
    above_read level fixed second third (stepping reading old (entry first (limit_word level) LoadWord fixed.limit))

-- what was read of a level is what is fixed of it
pub record IsAbove (above : Above) (fixed : Fixed) : Type 0 where
  pub reservation : above.reservation ≡ fixed.reservation
  pub parent : above.parent ≡ fixed.parent.0

-- the reservation and the parent of a level were read
pub record ReadsAbove (level : ℕ) (above : Above) (old new : View) (fixed : Fixed) : Type 0 where
  pub second_name : ℕ
  pub third_name : ℕ
  pub view : new ≡ above_read level fixed second_name third_name old
  pub above_is : IsAbove above fixed

-- and its limit before
pub record ReadsLevel (level limit : ℕ) (above : Above) (old new : View) (fixed : Fixed) : Type 0 where
  pub first_name : ℕ
  pub second_name : ℕ
  pub third_name : ℕ
  pub view : new ≡ level_read level fixed first_name second_name third_name old
  pub limit_is : limit ≡ fixed.limit
  pub above_is : IsAbove above fixed

-- a view with more steps of its own
abbrev pub showing : View → List Entry → View
showing old entries = record old { own = record (old.own) { own_steps = old.own.own_steps ++ entries } }

-- what the loads at a level made of a view after an addition there, with its peak raised, the refusal, and what is to be asked next
pub record EndsLevel (at level amount found : ℕ) (forced clean : Bool) (old new : View) (fixed : Fixed) (full : Option Full)
    (next : Option (ℕ × ℕ)) : Type 0 where
  pub first_name : ℕ
  pub second_name : ℕ
  pub third_name : ℕ
  pub raise : List Entry
  pub raise_is : IsRaise level (found + amount) (forced || (clean && not (is_past (level_step level fixed amount found)))) raise
  pub view : new ≡ showing (level_read level fixed first_name second_name third_name old) raise
  pub full_is : full ≡ refusal_of at (level_step level fixed amount found ∷ [])
  pub next_is : next ≡ next_asked level fixed amount found

-- What an addition at a level made of a view, with the loads after it, the refusal there, and what is to be asked next. The peak is raised
-- where the request is forced, or where it is clean so far and this level isn't past its limit
pub record GoesUpLevel (at : ℕ) (act : StepKind) (make : ℕ → Fixed → Body → Entry → Body) (forced clean : Bool) (level amount : ℕ)
    (old new : View) (full : Option Full) (next : Option (ℕ × ℕ)) : Type 0 where
  pub fixed : Fixed
  pub found : ℕ
  pub name : ℕ
  pub first_name : ℕ
  pub second_name : ℕ
  pub third_name : ℕ
  pub raise : List Entry
  pub raise_is : IsRaise level (found + amount) (forced || (clean && not (is_past (level_step level fixed amount found)))) raise
  pub view : new ≡ showing (level_read level fixed first_name second_name third_name
      (stepping (make level fixed) (knowing level fixed old) (entry name (held_word level) act found))) raise
  pub after_parent : ComesAfterParent level fixed
  pub full_is : full ≡ refusal_of at (level_step level fixed amount found ∷ [])
  pub next_is : next ≡ next_asked level fixed amount found

-- the level that is asked next is one of so many
abbrev pub IsInTree : ℕ → Option (ℕ × ℕ) → Type 0
IsInTree count None = Unit {0}
IsInTree count (Some next) = next.0 < count

-- how many levels may still follow
abbrev pub levels_left : Option (ℕ × ℕ) → ℕ
levels_left None = 0
levels_left (Some next) = suc next.0

-- the chunk in hand, which had no charge, is charged at `at` by these steps, with the bytes of the token
pub record IsCharged (at size : ℕ) (old new : View) (steps : List LevelStep) (next : Option (ℕ × ℕ)) : Type 0 where
  pub chunk : Chunk
  pub others : List Chunk
  pub is : old.own.chunks ≡ chunk ∷ others
  pub climbed : HasClimbed at size false (record { number = chunk.number; size = size; charges = [] }) [] others
      (old.own.bytes - size) old.own.turns old new steps next

-- the chunk in hand is on its way up, and this is the refusal so far
pub record IsGoing (at : ℕ) (forced : Bool) (new : View) (full : Option Full) (next : Option (ℕ × ℕ)) : Type 0 where
  pub size : ℕ
  pub chunk : Chunk
  pub rest : List Claim
  pub others : List Chunk
  pub bytes : ℕ
  pub turns : ℕ
  pub before : View
  pub steps : List LevelStep
  pub climbed : HasClimbed at size forced chunk rest others bytes turns before new steps next
  pub refusal : full ≡ refusal_of at steps

-- whatever way up it was, it has gone on to x
abbrev pub GoesOn : ℕ → Bool → View → View → Option Full → Option Full → Option (ℕ × ℕ) → Option (ℕ × ℕ) → Type 0
GoesOn at forced new last_view full all next last =
    (size : ℕ) (chunk : Chunk) (rest : List Claim) (others : List Chunk) (bytes turns : ℕ) (old : View)
    (steps : List LevelStep)
    → HasClimbed at size forced chunk rest others bytes turns old new steps next → full ≡ refusal_of at steps
    → (more : List LevelStep) × HasClimbed at size forced chunk rest others bytes turns old last_view more last × (all ≡ refusal_of at more)

-- the chunk in hand, of this size, is forced onto `at` by these steps, beside what it is charged elsewhere
pub record IsForced (at size : ℕ) (old new : View) (steps : List LevelStep) (next : Option (ℕ × ℕ)) : Type 0 where
  pub chunk : Chunk
  pub others : List Chunk
  pub is : old.own.chunks ≡ chunk ∷ others
  pub climbed : HasClimbed at size true chunk chunk.charges others old.own.bytes old.own.turns old new steps next
