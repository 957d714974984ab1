-- A release's way up the levels, as its token's own steps show it.
use Rattle.std.specs.Prelude.{◌≡◌, ℕ, ◌-◌, List, [], ◌∷◌, ◌++◌, Option, Some}
use Rattle.mem_model.specs.Reservation.{beyond_reservation}
use Rattle.acct_core.specs.Claims.{Claim, claim_at}
use Rattle.acct_core.specs.Effects.{passed, goes_back}
use Rattle.acct_core.specs.FixedTrees.{settled}
use Rattle.acct_words.specs.Entries.StepKind.{SubtractHeld}
use Rattle.acct_words.specs.Entries.{Entry}
use Rattle.acct_words.specs.declared.fixed.Fixed.{Fixed}
use Rattle.acct_words.specs.Views.{Chunk, Known, Body, View}
use Rattle.acct_words.specs.Places.{held_word, reservation_word, parent_word}
use Rattle.acct_words.specs.Rows.{parent_of, ComesAfterParent}
use Rattle.acct_words.specs.Moves.{charged_as, first_chunk, to_front}
use Rattle.acct_words.specs.Plays.{entry, stepping, knowing}
use Rattle.acct_words.specs.Climbs.{IsLoadOf, above_read, standing}

-- which level is released next and by how much, after a subtraction at a level
abbrev pub next_given : ℕ → Fixed → ℕ → ℕ → Option (ℕ × ℕ)
next_given level fixed amount found =
    passed (parent_of level fixed) (beyond_reservation fixed.reservation (found - amount) found)

-- a subtraction of an amount at a level, and after it the loads of what is reserved there and of the parent
pub record IsLevelBack (level amount : ℕ) (fixed : Fixed) (subtraction reservation parent : Entry) : Type 0 where
  pub held : subtraction.word ≡ held_word level
  pub subtracted : subtraction.kind ≡ SubtractHeld amount
  pub reservation_is : IsLoadOf (reservation_word level) fixed.reservation reservation
  pub parent_is : IsLoadOf (parent_word level) fixed.parent.0 parent

-- the subtractions of a release of this size, from its allocator up, and what is to be subtracted next; the release is done where nothing
-- is. At each level the amount is subtracted, and the reservation and the parent are loaded
pub data Descends (at size : ℕ) : List Entry → Option (ℕ × ℕ) → Type 0 where
  starts : Descends at size [] (Some (at, size))
  subtracts : {entries : List Entry} {level amount : ℕ} (fixed : Fixed) (subtraction reservation parent : Entry) →
      Descends at size entries (Some (level, amount)) → IsLevelBack level amount fixed subtraction reservation parent
      → Descends at size (entries ++ subtraction ∷ reservation ∷ parent ∷ []) (next_given level fixed amount subtraction.found)

-- all but the first
abbrev pub rest_of : List Claim → List Claim
rest_of [] = []
rest_of (claim ∷ rest) = rest

-- the chunk whose charge at `at` is released so far
abbrev pub released : ℕ → ℕ → Option (ℕ × ℕ) → Chunk → Chunk
released at size next chunk =
    charged_as chunk (settled (claim_at at (goes_back next size)) (rest_of (to_front (held_word at) chunk.charges)))

-- what a subtraction at a level made of a view, with the loads after it, and what is to be subtracted next
pub record GoesDownLevel (make : ℕ → Fixed → Body → Entry → Body) (level amount : ℕ) (old new : View) (next : Option (ℕ × ℕ)) : Type 0 where
  pub fixed : Fixed
  pub found : ℕ
  pub name : ℕ
  pub second_name : ℕ
  pub third_name : ℕ
  pub view : new ≡ above_read level fixed second_name third_name
      (stepping (make level fixed) (knowing level fixed old) (entry name (held_word level) (SubtractHeld amount) found))
  pub after_parent : ComesAfterParent level fixed
  pub next_is : next ≡ next_given level fixed amount found

-- the chunk in hand is released at `at` by these steps, and this is what that made of a view
pub record IsReleased (at size : ℕ) (old new : View) (entries : List Entry) (next : Option (ℕ × ℕ)) : Type 0 where
  pub descent : Descends at size entries next
  pub known : List Known
  pub view : new ≡ standing old known entries old.own.bytes old.own.turns (first_chunk (released at size next) old.own.chunks)
