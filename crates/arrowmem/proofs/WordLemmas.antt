-- Which words stand for the system's arguments.
use Rattle.std.proofs.Common.{◌≡◌, ◌≢◌, ℕ, List, [], Option, Some, IfSome, refl, sym, subst}
use Rattle.std.specs.declared.io.ErrorKind.{ErrorKind}
use Rattle.std.specs.declared.io.ErrorKind.TheVariants.{OutOfMemory}
use Rattle.arrowmem.specs.Words.{words_without}

-- arguments that are no text stand for no words at all
pub words_without-text : (kind : ErrorKind) → kind ≢ OutOfMemory → words_without kind ≡ Some []
words_without-text OutOfMemory other = absurd (other refl)
words_without-text kind other = refl

-- what holds of words holds of those that stand for the arguments
pub at_words : (words : Option (List (List ℕ))) (given : List (List ℕ)) (P : List (List ℕ) → Type 0) → words ≡ Some given → P given
    → IfSome words P
at_words words given P is holds = subst (λ w. IfSome w P) (sym is) holds
