-- Values of a document, and what a read of one answers.
use Rattle.std.specs.Prelude.{◌≡◌, ℕ, pos, ◌&&◌, nat_le, List, [], ◌∷◌, length, ⊤}
use Rattle.std.specs.Prelude.{Option, Some, None, Result, Ok, Err, if◌then◌else◌, option_and_then}
use Rattle.toml.specs.Data.{Data, Items, Members, no_items, item, integer, array, get_member, as_str}
use Rattle.plan_text.specs.declared.refused.PlanRefused.{PlanRefused}
use Rattle.plan_text.specs.declared.refused.PlanRefused.TheVariants.{Bad, NoMemory}

-- what comes of a value, where there is one
infixl 10 ◌>>=◌
abbrev pub ◌>>=◌ : {A B : Type 0} → Option A → (A → Option B) → Option B
value >>= f = option_and_then f value

-- a read answers what there is, and refuses what there isn't; memory may run out
abbrev pub Reads : {A : Type 0} → Option A → Result A PlanRefused → Type 0
Reads want (Ok value) = want ≡ Some value
Reads want (Err Bad) = want ≡ None
Reads want (Err NoMemory) = ⊤

-- the items of an array, as a list
unfoldable pub list_of : Items → List Data
list_of no_items = []
list_of (item value more) = value ∷ list_of more

-- the items that a value is
abbrev pub items_in : Data → Option (List Data)
items_in (array items) = Some (list_of items)
items_in value = None

-- items, where there are so many of them
abbrev pub if_between : ℕ → ℕ → List Data → Option (List Data)
if_between least most items =
    if nat_le least (length items) && nat_le (length items) most then Some items else None

-- from the least to the most items that a value is
abbrev pub items_between : ℕ → ℕ → Data → Option (List Data)
items_between least most value = items_in value >>= if_between least most

-- a value before values, where all are there
abbrev pub joined : {A : Type 0} → Option A → Option (List A) → Option (List A)
joined None values = None
joined (Some value) None = None
joined (Some value) (Some values) = Some (value ∷ values)

-- what each value is read as, where all have a reading
unfoldable pub each_of : {A : Type 0} → (Data → Option A) → List Data → Option (List A)
each_of f [] = Some []
each_of f (value ∷ values) = joined (f value) (each_of f values)

-- the text at a key of a table
abbrev pub text_at : List ℕ → Members → Option (List ℕ)
text_at key members = get_member key members >>= as_str

-- a number from the least to the most, and what stands for one that is absent
abbrev pub number_of : ℕ → ℕ → ℕ → Option Data → Option ℕ
number_of least most absent None = Some absent
number_of least most absent (Some (integer (pos n))) =
    if nat_le least n && nat_le n most then Some n else None
number_of least most absent (Some value) = None

-- the numbers at these keys of a table, in order
unfoldable pub numbers_at : ℕ → ℕ → List (List ℕ) → Members → Option (List ℕ)
numbers_at most absent [] _ = Some []
numbers_at most absent (key ∷ keys) members =
    joined (number_of 0 most absent (get_member key members)) (numbers_at most absent keys members)
