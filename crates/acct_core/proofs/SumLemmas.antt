-- Sums over lists and over numbers below a bound.
use Rattle.std.proofs.Common.{Bool, true, false, cond, ◌&&◌, map, ◌==◌, ◌≢◌, ne_eqb, ⊎_elim, zero, suc, ◌≡◌, ℕ, ◌+◌, ◌<◌, ◌≤◌, List, [], ◌∷◌, length, get_or, All, sum_by, arith, refl, ap, ◌∙◌}
use Rattle.std.proofs.lemmas.Bool.{cases_eq}
use Rattle.std.proofs.lemmas.List.Sums.{sum_by-cons}
use Rattle.std.proofs.lemmas.List.Elements.{All-head, All-tail}

-- the sum of the terms below n
abbrev pub sum_to : ℕ → (ℕ → ℕ) → ℕ
sum_to zero f = 0
sum_to (suc n) f = f 0 + sum_to n (λ j. f (suc j))

-- larger terms have a larger sum
pub sum_to-le : (n : ℕ) (f g : ℕ → ℕ) → ((j : ℕ) → f j ≤ g j) → sum_to n f ≤ sum_to n g
sum_to-le zero f g h = omega arith
sum_to-le (suc n) f g h = let a = sum_to-le n (λ j. f (suc j)) (λ j. g (suc j)) (λ j. h (suc j)) in let b = h 0 in omega arith

-- a term is within the sum
pub at-le-sum_to : (n : ℕ) (f : ℕ → ℕ) (j : ℕ) → j < n → f j ≤ sum_to n f
at-le-sum_to zero f j h = absurd (omega arith)
at-le-sum_to (suc n) f zero h = omega arith
at-le-sum_to (suc n) f (suc j) h = let a = at-le-sum_to n (λ k. f (suc k)) j (omega arith) in omega arith

-- a sum of which each term is 0
pub sum_to-none : (n : ℕ) (f : ℕ → ℕ) → ((j : ℕ) → f j ≡ 0) → sum_to n f ≡ 0
sum_to-none zero f h = refl
sum_to-none (suc n) f h = let a = h 0 in let b = sum_to-none n (λ j. f (suc j)) (λ j. h (suc j)) in omega arith

-- a sum of sums
pub sum_to-add : (n : ℕ) (f g : ℕ → ℕ) → sum_to n (λ j. f j + g j) ≡ sum_to n f + sum_to n g
sum_to-add zero f g = refl
sum_to-add (suc n) f g = let a = sum_to-add n (λ j. f (suc j)) (λ j. g (suc j)) in omega arith

-- terms that are alike
pub sum_to-same : (n : ℕ) (f g : ℕ → ℕ) → ((j : ℕ) → f j ≡ g j) → sum_to n f ≡ sum_to n g
sum_to-same n f g h = ap (sum_to n) (λ i j. h j i)

-- a sum with one term
pub sum_to-one : (n c x : ℕ) (f : ℕ → ℕ) → f c ≤ x → ((j : ℕ) → j ≢ c → f j ≡ 0) → sum_to n f ≤ x
sum_to-one zero c x f at h = omega arith
sum_to-one (suc n) zero x f at h = let z = sum_to-none n (λ j. f (suc j)) (λ j. h (suc j) (λ e. omega arith)) in omega arith
sum_to-one (suc n) (suc c) x f at h =
    let a = h 0 (λ e. omega arith) in
    let b = sum_to-one n c x (λ j. f (suc j)) at (λ j ne. h (suc j) (λ e. ne (omega arith))) in
    omega arith

module _ {X : Type 0} where
  -- a sum over a list, by place
  pub sum_by-sum_to : (f : X → ℕ) (xs : List X) (d : X) → sum_by f xs ≡ sum_to (length xs) (λ j. f (get_or xs j d))
  sum_by-sum_to f [] d = refl
  sum_by-sum_to f (x ∷ xs) d = sum_by-cons f x xs ∙ ap (λ (n : ℕ). f x + n) (sum_by-sum_to f xs d)

  -- a sum of zeros
  pub sum_by-zeros : (xs : List X) → sum_by (λ (x : X). 0) xs ≡ 0
  sum_by-zeros [] = refl
  sum_by-zeros (x ∷ xs) = sum_by-cons (λ (y : X). 0) x xs ∙ (let a = sum_by-zeros xs in omega arith)

  -- a sum of sums
  pub sum_by-add : (f g : X → ℕ) (xs : List X) → sum_by (λ x. f x + g x) xs ≡ sum_by f xs + sum_by g xs
  sum_by-add f g [] = omega arith
  sum_by-add f g (x ∷ xs) = let a = sum_by-cons (λ (y : X). f y + g y) x xs in let b = sum_by-cons f x xs in let c = sum_by-cons g x xs in
      let d = sum_by-add f g xs in omega arith

  -- two sums may be taken in either order
  pub exchange : (f : ℕ → X → ℕ) (n : ℕ) (xs : List X) → sum_by (λ x. sum_to n (λ j. f j x)) xs ≡ sum_to n (λ j. sum_by (f j) xs)
  exchange f zero xs = sum_by-zeros xs
  exchange f (suc n) xs = sum_by-add (f 0) (λ (x : X). sum_to n (λ j. f (suc j) x)) xs
      ∙ ap (λ (m : ℕ). sum_by (f 0) xs + m) (exchange (λ j. f (suc j)) n xs)

  -- larger terms have a larger sum, where each is that of an element with some fact
  pub sum_by-le_each : (f g : X → ℕ) (xs : List X) → All (λ x. f x ≤ g x) xs → sum_by f xs ≤ sum_by g xs
  sum_by-le_each f g [] h = omega arith
  sum_by-le_each f g (x ∷ xs) h =
      let a = sum_by-cons f x xs in let b = sum_by-cons g x xs in
      let p : f x ≤ g x = All-head (λ (y : X). f y ≤ g y) x xs h in
      let q = sum_by-le_each f g xs (All-tail (λ (y : X). f y ≤ g y) x xs h) in
      omega arith

-- a sum above 0 has a term above 0
pub some_term : {X : Type 0} (f : X → ℕ) (xs : List X) (d : X) → 0 < sum_by f xs → (i : ℕ) × (i < length xs) × (0 < f (get_or xs i d))
some_term f [] d h = absurd (omega arith)
some_term f (x ∷ xs) d h = ⊎_elim
    (λ (e : f x ≡ 0). let c = sum_by-cons f x xs in let r = some_term f xs d (omega arith) in (suc r.0, (let b = r.1 in omega arith), r.2))
    (λ (ne : f x ≡ 0 → ⊥). (0, omega arith, omega arith))
    (cases_eq (f x) 0)

-- weights that are 0
pub zero_cond : (b : Bool) → ◌≡◌ {A = ℕ} (cond b 0 0) 0
zero_cond true = refl
zero_cond false = refl

-- a weight behind a test that fails
pub cond-and_false : (b : Bool) (x : ℕ) → cond (b && false) x 0 ≡ 0
cond-and_false true x = refl
cond-and_false false x = refl

-- a weight at one number is none at another
pub off : (m k x : ℕ) → m ≢ k → cond (m == k) x 0 ≡ 0
off m k x ne = rw (ne_eqb m k ne) refl

-- the same behind a second test
pub off_and : (m k x : ℕ) (b : Bool) → m ≢ k → cond (m == k && b) x 0 ≡ 0
off_and m k x b ne = rw (ne_eqb m k ne) refl

-- a sum over what a list is mapped to
pub sum_by-map : {X Y : Type 0} (f : Y → ℕ) (g : X → Y) (xs : List X) → sum_by f (map g xs) ≡ sum_by (λ x. f (g x)) xs
sum_by-map f g [] = refl
sum_by-map {X} f g (x ∷ xs) = let a = sum_by-cons f (g x) (map g xs) in let b = sum_by-cons (λ (y : X). f (g y)) x xs in
    let c = sum_by-map f g xs in omega arith
