-- A list by its first item, as a slice pattern takes it apart.
use Rattle.std.proofs.Common.{◌≡◌, ◌-◌, ◌≤◌, List, [], ◌∷◌, get_or, take, drop, length, sym, arith}
use Rattle.std.proofs.lemmas.Grind.{common_steps}

-- a list is its first item and the rest
pub front_rest : {A : Type 0} (xs : List A) (x : A) → x ≡ get_or xs 0 x → 1 ≤ length xs → xs ≡ x ∷ take (length xs - 1) (drop 1 xs)
front_rest [] x is some = absurd (omega arith)
front_rest (y ∷ ys) x is some =
    let rest : take (length (y ∷ ys) - 1) (drop 1 (y ∷ ys)) ≡ ys = grind (arith, common_steps) in
    λ i. sym is i ∷ sym rest i
