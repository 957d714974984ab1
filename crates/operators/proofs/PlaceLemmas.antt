-- Lists by the places of their elements.
use Rattle.std.proofs.Common.{◌≡◌, ℕ, ◌+◌, ◌<◌, zero, suc, List, [], ◌∷◌, ◌++◌, length, map, get_or, All, Bool, true, false, refl, sym, ap}
use Rattle.std.proofs.Common.{◌∙◌, subst, arith, cond}
use Rattle.std.specs.Prelude.{◌&&◌, filter}
use Rattle.std.specs.List.{range_with_len}
use Rattle.std.proofs.lemmas.List.Elements.{All-head, All-tail}
use Rattle.std.proofs.lemmas.List.FromFn.{get_or-range_with_len, length-range_with_len}

-- two tests that answer alike keep the same
pub filter-same : {X : Type 0} (p q : X → Bool) (xs : List X) → All (λ x. p x ≡ q x) xs → filter p xs ≡ filter q xs
filter-same p q [] h = refl
filter-same p q (x ∷ xs) h =
    let first = All-head (λ x. p x ≡ q x) x xs h in
    let rest = filter-same p q xs (All-tail (λ x. p x ≡ q x) x xs h) in
    λ k. cond (first k) (x ∷ rest k) (rest k)

-- a test that nothing passes keeps nothing
pub filter-none : {X : Type 0} (p : X → Bool) (xs : List X) → All (λ x. p x ≡ false) xs → filter p xs ≡ []
filter-none p [] h = refl
filter-none p (x ∷ xs) h =
    let first = All-head (λ x. p x ≡ false) x xs h in
    (λ k. cond (first k) (x ∷ filter p xs) (filter p xs)) ∙ filter-none p xs (All-tail (λ x. p x ≡ false) x xs h)

-- a test that all pass keeps all
pub filter-all : {X : Type 0} (xs : List X) → filter (λ x. true) xs ≡ xs
filter-all [] = refl
filter-all (x ∷ xs) = ap (λ rest. x ∷ rest) (filter-all xs)

again : {X : Type 0} (q : X → Bool) (b : Bool) (x : X) (kept rest : List X) → filter q kept ≡ rest
    → filter q (cond b (x ∷ kept) kept) ≡ cond (b && q x) (x ∷ rest) rest
again q true x kept rest e = ap (λ list. cond (q x) (x ∷ list) list) e
again q false x kept rest e = e

-- a test after a test
pub filter-twice : {X : Type 0} (p q : X → Bool) (xs : List X) → filter q (filter p xs) ≡ filter (λ x. p x && q x) xs
filter-twice p q [] = refl
filter-twice p q (x ∷ xs) = again q (p x) x (filter p xs) (filter (λ x. p x && q x) xs) (filter-twice p q xs)

map-kept : {X Y : Type 0} (f : X → Y) (p : Y → Bool) (b : Bool) (x : X) (kept : List X) (rest : List Y) → map f kept ≡ rest
    → map f (cond b (x ∷ kept) kept) ≡ cond b (f x ∷ rest) rest
map-kept f p true x kept rest e = ap (λ list. f x ∷ list) e
map-kept f p false x kept rest e = e

-- what is kept by its image
pub filter-map : {X Y : Type 0} (f : X → Y) (p : Y → Bool) (xs : List X) → map f (filter (λ x. p (f x)) xs) ≡ filter p (map f xs)
filter-map f p [] = refl
filter-map f p (x ∷ xs) = map-kept f p (p (f x)) x (filter (λ x. p (f x)) xs) (filter p (map f xs)) (filter-map f p xs)

-- a list by its places
range-is : {X : Type 0} (f : ℕ → X) (a : ℕ) (xs : List X) (d : X) → ((k : ℕ) → k < length xs → f (a + k) ≡ get_or xs k d)
    → map f (range_with_len a (length xs)) ≡ xs
range-is f a [] d h = refl
range-is f a (x ∷ xs) d h =
    let none : a + 0 ≡ a = omega arith in
    let first : f a ≡ x = ap f (sym none) ∙ h 0 (omega arith) in
    let rest = range-is f (a + 1) xs d (λ k within.
    let next : a + 1 + k ≡ a + suc k = omega arith in
    ap f next ∙ h (suc k) (omega arith)) in
    λ i. first i ∷ rest i

pub map-range : {X : Type 0} (xs : List X) (d : X) → map (λ k. get_or xs k d) (range_with_len 0 (length xs)) ≡ xs
map-range xs d = range-is (λ k. get_or xs k d) 0 xs d (λ k within.
    let same : 0 + k ≡ k = omega arith in
    ap (λ n. get_or xs n d) same)

-- the places of a list are within it
pub range-within : (count : ℕ) → All (λ k. k < count) (range_with_len 0 count)
range-within count k d within =
    let size = length-range_with_len 0 count in
    let small : k < count = omega (arith, size, within) in
    let is : get_or (range_with_len 0 count) k d ≡ k = get_or-range_with_len 0 count k d small ∙ omega arith in
    subst (λ n. n < count) (sym is) small

-- what passes a test by place is what passes the test
pub filter-range : {X : Type 0} (p : X → Bool) (xs : List X) (d : X)
    → map (λ k. get_or xs k d) (filter (λ k. p (get_or xs k d)) (range_with_len 0 (length xs))) ≡ filter p xs
filter-range p xs d = filter-map (λ k. get_or xs k d) p (range_with_len 0 (length xs)) ∙ ap (filter p) (map-range xs d)

pub range-from : (a n m : ℕ) → a + n ≡ m → range_with_len a (n + 1) ≡ range_with_len a n ++ m ∷ []
range-from a zero m e = (let same : a ≡ m = omega (arith, e) in λ k. same k ∷ [])
range-from a (suc n) m e =
    let next : suc n + 1 ≡ suc (n + 1) = omega arith in
    ap (range_with_len a) next ∙ ap (λ rest. a ∷ rest) (range-from (a + 1) n m (omega (arith, e)))

-- one place more
pub range-more : (n : ℕ) (old new : List ℕ) → new ≡ old ++ n ∷ [] → old ≡ range_with_len 0 n → new ≡ range_with_len 0 (n + 1)
range-more n old new pushed before = pushed ∙ ap (λ list. list ++ n ∷ []) before ∙ sym (range-from 0 n n (omega arith))
