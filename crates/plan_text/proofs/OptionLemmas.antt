-- Where there is a value, there were the values that it came of.
use Rattle.std.proofs.Common.{◌≡◌, Option, Some, None, Bool, true, false, refl}
use Rattle.std.specs.Prelude.{if◌then◌else◌, option_and_then, option_map}
use Rattle.std.proofs.lemmas.Option.{option_and_then_some}

-- what came of a value came of one that there is
pub then-parts : {A B : Type 0} (f : A → Option B) (o : Option A) (y : B) → option_and_then f o ≡ Some y
    → (x : A) × (o ≡ Some x) × (f x ≡ Some y)
then-parts f o y e = option_and_then_some f o y e (λ x is made. (x, is, made))

-- what is shown of a value is shown of one that there is
pub mapped-parts : {A B : Type 0} (f : A → B) (o : Option A) (y : B) → option_map f o ≡ Some y
    → (x : A) × (o ≡ Some x) × (f x ≡ y)
mapped-parts f None y e = cc e
mapped-parts f (Some x) y e = (x, refl, (let g : Some (f x) ≡ Some y = e in cc))

-- what was chosen by a test passed it
pub chosen : {A : Type 0} (b : Bool) (x y : A) → (if b then Some x else None) ≡ Some y → (b ≡ true) × (x ≡ y)
chosen true x y e = (refl, (let f : Some x ≡ Some y = e in cc))
chosen false x y e = cc e

-- what came after a test came of the rest
pub allowed-then : {A : Type 0} (b : Bool) (o : Option A) (y : A) → (if b then o else None) ≡ Some y
    → o ≡ Some y
allowed-then true o y e = e
allowed-then false o y e = cc e
