-- Words that are no query.
use Rattle.std.proofs.Common.{◌≡◌, ◌≢◌, Global, List, None, String, [], length, map, refl, string_bytes, ◌∷◌}
use Rattle.arrowmem.specs.Words.{query_of}

-- a query has two words behind its name, or four
pub query_of-none : (words : List (String Global)) → length words ≢ 2 → length words ≢ 4 → query_of (map string_bytes words) ≡ None
query_of-none [] two four = refl
query_of-none (a ∷ []) two four = refl
query_of-none (a ∷ b ∷ []) two four = absurd (two refl)
query_of-none (a ∷ b ∷ c ∷ []) two four = refl
query_of-none (a ∷ b ∷ c ∷ d ∷ []) two four = absurd (four refl)
query_of-none (a ∷ b ∷ c ∷ d ∷ e ∷ more) two four = refl
