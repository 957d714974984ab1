-- The columns of a plan, and picks among them.
use Rattle.std.specs.Prelude.{ℕ, Bool, true, false, ◌-◌, List, [], ◌∷◌, take, length, position, nat_eq}
use Rattle.std.specs.Prelude.{Option, Some, None, if◌then◌else◌, option_map, codes}
use Rattle.std.specs.List.{ends_with}
use Rattle.toml.specs.Data.{Data, as_str}
use Rattle.mem_num.specs.Name.{name_word}
use Rattle.query_model.specs.declared.column.Column.{Column}
use Rattle.query_model.specs.Fit.{are_different, have_one_name, is_named, kind_at}
use Rattle.query_model.specs.declared.kind.Kind.{Kind}
use Rattle.query_model.specs.declared.kind.Kind.TheVariants as kind
use Rattle.query_model.specs.declared.bounds.TheConstants.{MOST_COLUMNS}
use Rattle.plan_text.specs.declared.picks.Allowed.{Allowed}
use Rattle.plan_text.specs.declared.picks.Allowed.TheVariants as allowed
use Rattle.plan_text.specs.Values.{◌>>=◌, each_of, items_between}

-- a word without its end
abbrev pub without : List ℕ → List ℕ → List ℕ
without end word = take (length word - length end) word

-- a column of this kind, where its name is one
abbrev pub column_named : Kind → List ℕ → Option Column
column_named kind word = option_map (λ name. record { name = name; kind = kind }) (name_word word)

-- a column is NAME:int or NAME:text
abbrev pub column_in : List ℕ → Option Column
column_in word =
    if ends_with nat_eq word (codes ":int")
    then column_named kind.Int (without (codes ":int") word)
    else if ends_with nat_eq word (codes ":text")
    then column_named kind.Text (without (codes ":text") word)
    else None

-- the column that a value is
abbrev pub column_of : Data → Option Column
column_of value = as_str value >>= column_in

-- values that are all different
abbrev pub if_different : {A : Type 0} → (A → A → Bool) → List A → Option (List A)
if_different same values = if are_different same values then Some values else None

-- the columns of a plan: 1 to 32, with different names
abbrev pub columns_of : Data → Option (List Column)
columns_of value = do
  items ← items_between 1 MOST_COLUMNS value
  columns ← each_of column_of items
  if_different have_one_name columns

-- the number of the column of a name
abbrev pub place_of : List Column → List ℕ → Option ℕ
place_of columns name = position (is_named name) columns

-- any column may be picked, or those of whole numbers
abbrev pub allows : Allowed → Kind → Bool
allows allowed.Any kind = true
allows allowed.Ints kind.Int = true
allows allowed.Ints kind.Sum = false
allows allowed.Ints kind.Text = false

-- a number, where its column may be picked
abbrev pub if_allowed : Allowed → ℕ → Kind → Option ℕ
if_allowed which place kind = if allows which kind then Some place else None

-- the number of the column that a value names
abbrev pub pick_of : Allowed → List Column → Data → Option ℕ
pick_of which columns value = do
  name ← as_str value
  place ← place_of columns name
  kind ← kind_at columns place
  if_allowed which place kind

-- 1 to 32 picked columns, all different
abbrev pub picks_of : Allowed → List Column → Data → Option (List ℕ)
picks_of which columns value = do
  items ← items_between 1 MOST_COLUMNS value
  picks ← each_of (pick_of which columns) items
  if_different nat_eq picks
