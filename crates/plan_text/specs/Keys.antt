-- The keys of a plan's tables.
use Rattle.std.specs.Prelude.{ℕ, Bool, List, [], ◌∷◌, codes}
use Rattle.std.specs.List.{list_all, list_any}
use Rattle.std.specs.Str.{bytes_eq}
use Rattle.toml.specs.Data.{Members, no_members, member}
use Rattle.plan_text.specs.declared.keys.Keys.{Keys}
use Rattle.plan_text.specs.declared.keys.Keys.TheVariants as tables

-- the allocators below the root
abbrev pub child_keys : List (List ℕ)
child_keys = codes "scan" ∷ codes "filter" ∷ codes "project" ∷ codes "sums" ∷ codes "result" ∷ []

-- the keys that a table may have
abbrev pub keys_of : Keys → List (List ℕ)
keys_of tables.Plan =
    codes "columns" ∷ codes "batch" ∷ codes "filter" ∷ codes "select" ∷ codes "group" ∷ codes "sums"
    ∷ codes "limits" ∷ codes "reserve" ∷ []
keys_of tables.Test = codes "column" ∷ codes "op" ∷ codes "value" ∷ []
keys_of tables.Limits = codes "root" ∷ child_keys
keys_of tables.Reserve = child_keys

-- one of some keys
abbrev pub is_among : List (List ℕ) → List ℕ → Bool
is_among keys key = list_any (bytes_eq key) keys

-- the keys of a table
unfoldable pub member_keys : Members → List (List ℕ)
member_keys no_members = []
member_keys (member key value more) = key ∷ member_keys more

-- a table has no key but these
abbrev pub has_only : List (List ℕ) → Members → Bool
has_only keys members = list_all (is_among keys) (member_keys members)
