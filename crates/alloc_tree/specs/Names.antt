-- The names of allocators, in order of binding. A name is a list of bytes.
use Rattle.std.specs.Prelude.{◌≡◌, ◌≢◌, ℕ, Bool, true, ◌==◌, List, ◌∷◌, map, Option, codes, String, string_bytes}
use Rattle.std.specs.Prelude.{All, AllPairs}
use Rattle.std.specs.List.{find, list_any}
use Rattle.std.specs.Option.{option_map}
use Rattle.std.specs.Str.{bytes_eq}
use Rattle.std.specs.Global.{Global}
use Rattle.mem_num.specs.declared.alloc_id.AllocId.{AllocId}
use Rattle.mem_num.specs.Name.{is_name}

-- what a contract sees of `Names`: each bound name with its allocator, in order of binding, and how many more fit without memory
pub record NamesState : Type 0 where
  pub bindings : List (List ℕ × AllocId)
  pub spare : ℕ

-- the binding that is there from the start
abbrev pub root_binding : List ℕ × AllocId
root_binding = (codes "ROOT", record { 0 = 0 })

-- whether a name is bound
abbrev pub is_bound : List (List ℕ × AllocId) → List ℕ → Bool
is_bound bindings name = list_any (λ binding. bytes_eq name binding.0) bindings

-- the allocator that a name is bound to
abbrev pub allocator_of : List (List ℕ × AllocId) → List ℕ → Option AllocId
allocator_of bindings name = option_map (λ binding. binding.1) (find (λ binding. bytes_eq name binding.0) bindings)

-- whether the allocator n has a name
abbrev pub is_named : List (List ℕ × AllocId) → ℕ → Bool
is_named bindings n = list_any (λ binding. binding.1.0 == n) bindings

-- the first name that is bound to the allocator n
abbrev pub name_of : List (List ℕ × AllocId) → ℕ → Option (List ℕ)
name_of bindings n = option_map (λ binding. binding.0) (find (λ binding. binding.1.0 == n) bindings)

-- no name is bound twice
abbrev pub AreUnique : List (List ℕ × AllocId) → Type 0
AreUnique bindings = AllPairs (λ before after. before.0 ≢ after.0) bindings

-- what is bound is a name
abbrev pub AreNames : List (List ℕ × AllocId) → Type 0
AreNames bindings = All (λ binding. is_name binding.0 ≡ true) bindings

-- what holds of all that are bound: each is a name, and no two are the same
pub record AreLawful (bindings : List (List ℕ × AllocId)) : Type 0 where
  pub unique : AreUnique bindings
  pub names : AreNames bindings

-- the binding of an entry of a map
abbrev pub binding_of : String Global × AllocId → List ℕ × AllocId
binding_of entry = (string_bytes entry.0, entry.1)

-- the bindings of a map's entries, after that of the root
abbrev pub bindings_of : List (String Global × AllocId) → List (List ℕ × AllocId)
bindings_of entries = root_binding ∷ map binding_of entries
