-- How much more an allocator could hold, by loads on the way up from it.
use Rattle.std.specs.Prelude.{◌≡◌, ℕ, suc, ◌-◌, ℤ, pos, ◌+ℤ◌, ◌-ℤ◌, Bool, nat_lt, List, [], ◌∷◌}
use Rattle.std.specs.List.{list_any}
use Rattle.std.specs.Int.{int_min}
use Rattle.acct_words.specs.declared.fixed.Fixed.{Fixed}
use Rattle.acct_words.specs.Entries.{Entry}
use Rattle.acct_words.specs.Places.{held_word, limit_word, reservation_word, parent_word}
use Rattle.acct_words.specs.Views.{Known, View}
use Rattle.acct_words.specs.Climbs.{IsLoadOf, showing}
use Rattle.acct_words.specs.Tokens.{History}
use Rattle.acct_words.specs.CallHistories.{Makes}

-- what was loaded of a level
pub record SeenLevel : Type 0 where
  pub held : ℕ
  pub fixed : Fixed

-- what the limit of a level leaves free, less than nothing where it holds more
abbrev pub free_at : SeenLevel → ℤ
free_at seen = pos seen.fixed.limit -ℤ pos seen.held

-- what of its reservation a level doesn't use
abbrev pub unused_at : SeenLevel → ℕ
unused_at seen = seen.fixed.reservation - seen.held

-- the least that a limit on the way up leaves, where a level above counts only what passes the reservations below it
abbrev pub headroom_on : List SeenLevel → ℤ
headroom_on [] = pos 0
headroom_on (seen ∷ []) = free_at seen
headroom_on (seen ∷ parent ∷ above) = int_min (free_at seen) (headroom_on (parent ∷ above) +ℤ pos (unused_at seen))

-- whether one of the levels holds more than its limit
abbrev pub is_over_on : List SeenLevel → Bool
is_over_on levels = list_any (λ seen. nat_lt seen.fixed.limit seen.held) levels

-- the loads of what a level holds, and of what is fixed of it
pub record IsSeen (level : ℕ) (seen : SeenLevel) (held limit reservation parent : Entry) : Type 0 where
  pub held_is : IsLoadOf (held_word level) seen.held held
  pub limit_is : IsLoadOf (limit_word level) seen.fixed.limit limit
  pub reservation_is : IsLoadOf (reservation_word level) seen.fixed.reservation reservation
  pub parent_is : IsLoadOf (parent_word level) seen.fixed.parent.0 parent

-- the levels from an allocator up to the root, as these entries show them
pub data Sees : ℕ → List Entry → List SeenLevel → Type 0 where
  root : {seen : SeenLevel} {held limit reservation parent : Entry} → IsSeen 0 seen held limit reservation parent →
      Sees 0 (held ∷ limit ∷ reservation ∷ parent ∷ []) (seen ∷ [])
  above : {level : ℕ} {seen next : SeenLevel} {held limit reservation parent : Entry} {entries : List Entry} {levels : List SeenLevel} →
      IsSeen (suc level) seen held limit reservation parent → Sees seen.fixed.parent.0 entries (next ∷ levels) →
      Sees (suc level) (held ∷ limit ∷ reservation ∷ parent ∷ entries) (seen ∷ next ∷ levels)

-- a token saw the levels from an allocator up, and this is what that made of its view
pub record ViewSees (at : ℕ) (old new : View) (levels : List SeenLevel) : Type 0 where
  pub entries : List Entry
  pub sees : Sees at entries levels
  pub known : List Known
  pub view : new ≡ record (showing old entries) { known = known }

-- what a caller loaded on the way up from an allocator, and that this holds of it
pub record HasSeen (at : ℕ) (holds : List SeenLevel → Type 0) (old new : History) : Type 0 where
  pub levels : List SeenLevel
  pub entries : List Entry
  pub sees : Sees at entries levels
  pub made : Makes entries old new
  pub is : holds levels
