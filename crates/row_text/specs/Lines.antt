-- The first record of a text, where it lies.
use Rattle.std.specs.Prelude.{◌≡◌, ◌≤◌, ◌<◌, ◌+◌, ◌-◌, ℕ, List, [], ◌∷◌, length, take, drop, Some, ⊤}
use Rattle.csv.specs.Machine.{next_record}
use Rattle.csv.specs.Reading.{default_config}
use Rattle.csv.specs.declared.parser.State.TheVariants as st

-- the fields of a text that end at these places: the first begins at a start, and each of the others a byte after the one before it
unfoldable pub fields_between : ℕ → List ℕ → List ℕ → List (List ℕ)
fields_between start [] text = []
fields_between start (end ∷ ends) text = take (end - start) (drop start text) ∷ fields_between (end + 1) ends text

-- each field lies within the text, and behind the one before it
unfoldable pub AreEnds : ℕ → List ℕ → ℕ → Type 0
AreEnds start [] size = ⊤
AreEnds start (end ∷ ends) size = (start ≤ end) × (end ≤ size) × AreEnds (end + 1) ends size

-- where the field behind these begins
unfoldable pub start_after : ℕ → List ℕ → ℕ
start_after start [] = start
start_after start (end ∷ ends) = start_after (end + 1) ends

-- the first record of a text takes so many bytes, and its fields end at these places
pub record IsFirstRecord (text ends : List ℕ) (size : ℕ) : Type 0 where
  pub within : size ≤ length text
  pub some : 0 < size
  pub places : AreEnds 0 ends (length text)
  pub read : next_record default_config st.StartRecord [] [] text ≡ Some (fields_between 0 ends text, st.StartRecord, drop size text)
