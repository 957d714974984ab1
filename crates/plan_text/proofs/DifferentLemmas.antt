-- Lists whose values are all different.
use Rattle.std.proofs.Common.{◌≡◌, List, [], ◌∷◌, length, Bool, true, false, refl, arith}
use Rattle.std.specs.List.{list_any}
use Rattle.query_model.specs.Fit.{are_different}

-- the first one stands nowhere else
pub are_different-more : {A : Type 0} (same : A → A → Bool) (values : List A) (first : A) (more : List A)
    → values ≡ first ∷ more
    → list_any (λ other. same other first) more ≡ false → are_different same values ≡ are_different same more
unfolding are_different
are_different-more same values first more e none = rw (e, none) refl

-- the first one stands there again
pub are_different-found : {A : Type 0} (same : A → A → Bool) (values : List A) (first : A) (more : List A)
    → values ≡ first ∷ more
    → list_any (λ other. same other first) more ≡ true → are_different same values ≡ false
unfolding are_different
are_different-found same values first more e found = rw (e, found) refl

-- there are none
pub are_different-none : {A : Type 0} (same : A → A → Bool) (values : List A) → length values ≡ 0
    → are_different same values ≡ true
unfolding are_different
are_different-none same [] e = refl
are_different-none same (value ∷ values) e = absurd (omega arith)
