-- The keys of a table.
use Rattle.std.proofs.Common.{◌≡◌, ◌∙◌, ℕ, List, [], ◌∷◌, map, refl, ap}
use Rattle.std.specs.Prelude.{String, string_bytes}
use Rattle.std.specs.Map.{keys_of}
use Rattle.std.specs.List.{list_all}
use Rattle.std.specs.declared.alloc.Global.{Global}
use Rattle.std.proofs.lemmas.List.Folds.{list_all-map}
use Rattle.toml.specs.View.{members_view}
use Rattle.toml.specs.declared.value.Value.{Value}
use Rattle.plan_text.specs.Keys.{has_only, is_among, member_keys}

-- the keys of a table are those of its entries
member_keys-view : (es : List (String Global × Value))
    → member_keys (members_view es) ≡ map string_bytes (keys_of es)
unfolding member_keys
member_keys-view [] = refl
member_keys-view (e ∷ es) = ap (λ (keys : List (List ℕ)). string_bytes e.0 ∷ keys) (member_keys-view es)

-- a table has no key but these where each key of its entries is one
pub has_only-all : (names : List (List ℕ)) (es : List (String Global × Value))
    → has_only names (members_view es) ≡ list_all (λ key. is_among names (string_bytes key)) (keys_of es)
has_only-all names es =
    ap (list_all (is_among names)) (member_keys-view es) ∙ list_all-map (is_among names) string_bytes (keys_of es)
