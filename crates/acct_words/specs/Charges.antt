-- What a charge made of its token, and what it returned.
use Rattle.std.specs.Prelude.{◌≡◌, ℕ, ◌-◌, false, List, [], ◌∷◌, ◌++◌, Some, None, sum_by}
use Rattle.mem_num.specs.declared.full.Full.{Full}
use Rattle.acct_core.specs.declared.level_step.LevelStep.{LevelStep}
use Rattle.acct_core.specs.Phases.Phase.{Held}
use Rattle.acct_core.specs.Claims.{claim_at}
use Rattle.acct_core.specs.Phases.{any_past}
use Rattle.acct_words.specs.Entries.StepKind.{LoadWord, DrawChunkNumber, ForgetChunk}
use Rattle.acct_words.specs.Entries.{Entry, begun}
use Rattle.acct_words.specs.Views.{Known, View}
use Rattle.acct_words.specs.Places.{still_word, number_word}
use Rattle.acct_words.specs.Bodies.{nothing}
use Rattle.acct_words.specs.Plays.{entry}
use Rattle.acct_words.specs.Climbs.{Climbs, refusal_of, standing}
use Rattle.acct_words.specs.Falls.{Descends}

-- the drawing of a number
abbrev pub draw_entry : ℕ → ℕ → Entry
draw_entry name number = entry name number_word DrawChunkNumber number

-- a load of the word that never changes
abbrev pub still_entry : ℕ → ℕ → Entry
still_entry name found = entry name still_word LoadWord found

-- the load at which a chunk of this size is forgotten
abbrev pub forget_entry : ℕ → ℕ → ℕ → Entry
forget_entry name size found = entry name still_word (ForgetChunk size) found

-- the view of a chunk's token, which saw these steps: it is charged `size` at `at`
abbrev pub chunk_view : View → ℕ → ℕ → ℕ → List LevelStep → View
chunk_view new at number size steps = record {
  start = new.start;
  known = [];
  own = record nothing {
    observed = new.own.own_steps ++ new.own.observed;
    chunks = record { number = number; size = size; charges = claim_at at (Held size false steps) ∷ [] } ∷ [];
  };
  offer = nothing;
}

-- A charge succeeded. Its token drew the number and made the steps up the levels, each within its limit, and the chunk has a token of its
-- own
pub record ViewCharges (at size : ℕ) (old new : View) (number : ℕ) (other : View) : Type 0 where
  pub draw_name : ℕ
  pub last_name : ℕ
  pub last_found : ℕ
  pub steps : List LevelStep
  pub entries : List Entry
  pub climb : Climbs at size false entries steps None
  pub within : any_past steps ≡ false
  pub begins : sum_by begun entries ≡ size
  pub known : List Known
  pub token : new ≡ standing old known (draw_entry draw_name number ∷ (entries ++ still_entry last_name last_found ∷ []))
      (old.own.bytes - size) (old.own.turns - 1) old.own.chunks
  pub chunk : other ≡ chunk_view new at number size steps

-- A charge was refused. Its token drew a number, made the steps up all levels, took them back by one release, and forgot the chunk; the
-- refusal is that of the lowest level past its limit
pub record ViewRefuses (at size : ℕ) (old new : View) (full : Full) : Type 0 where
  pub draw_name : ℕ
  pub number : ℕ
  pub last_name : ℕ
  pub last_found : ℕ
  pub steps : List LevelStep
  pub entries : List Entry
  pub taken_back : List Entry
  pub climb : Climbs at size false entries steps None
  pub refusal : refusal_of at steps ≡ Some full
  pub begins : sum_by begun entries ≡ size
  pub descent : Descends at size taken_back None
  pub known : List Known
  pub token : new ≡ standing old known
      (draw_entry draw_name number ∷ (entries ++ (taken_back ++ forget_entry last_name size last_found ∷ [])))
      (old.own.bytes - size) (old.own.turns - 1) old.own.chunks
