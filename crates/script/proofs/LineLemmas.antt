-- What a line of no word, of three or of more than five says: nothing.
use Rattle.std.proofs.Common.{◌≡◌, ℕ, List, [], ◌∷◌, None, refl}
use Rattle.script.specs.Grammar.{line_of}

-- no words say nothing
pub line_of-none : (words : List (List ℕ)) → words ≡ [] → None ≡ line_of words
unfolding line_of
line_of-none words is = rw is refl

-- neither do three, one after another
pub line_of-three : (words x y z : List (List ℕ)) (a b c : List ℕ) → words ≡ a ∷ x → x ≡ b ∷ y → y ≡ c ∷ z → z ≡ []
    → None ≡ line_of words
unfolding line_of
line_of-three words x y z a b c first second third last = rw (first, second, third, last) refl

-- nor six
pub line_of-six : (words u v x y z rest : List (List ℕ)) (a b c d e f : List ℕ) → words ≡ a ∷ u → u ≡ b ∷ v → v ≡ c ∷ x
    → x ≡ d ∷ y → y ≡ e ∷ z → z ≡ f ∷ rest → None ≡ line_of words
unfolding line_of
line_of-six words u v x y z rest a b c d e f first second third fourth fifth sixth =
    rw (first, second, third, fourth, fifth, sixth) refl
