-- The rows of the subcommand that a parse met.
use Rattle.std.proofs.Common.{◌≡◌, ap, refl, Option, Some, None, true≢false, arith}
use Rattle.std.specs.Option.{option_map}
use Rattle.std.specs.Prelude.{is_some}

-- a pair is known by its parts
pub pair_of : {A B : Type 0} (o : Option (A × B)) (a : A) (b : B) → Some a ≡ option_map (λ p. p.0) o → Some b ≡ option_map (λ p. p.1) o
    → o ≡ Some (a, b)
pair_of None a b first second = absurd (true≢false (ap (λ o. is_some o) first))
pair_of (Some p) a b first second = grind (arith, first, second)

-- two maps are one
pub map_twice : {A B C : Type 0} (f : A → B) (g : B → C) (o : Option A) → option_map (λ x. g (f x)) o ≡ option_map g (option_map f o)
map_twice f g None = refl
map_twice f g (Some x) = refl
