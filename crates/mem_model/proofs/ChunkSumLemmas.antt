-- Sums over chunks in order of number, where one of them is replaced or goes.
use Rattle.std.proofs.Common.{◌≡◌, ◌≢◌, ℕ, ◌+◌, ◌<◌, List, [], ◌∷◌, true, false, not, ◌==◌, refl, sym, ap, ◌∙◌, arith, inl, inr, All, Some}
use Rattle.std.specs.List.{find, sum_by}
use Rattle.std.proofs.lemmas.Bool.{cond-true, cond-false, ne_eqb, eqb-true, cases_Bool}
use Rattle.std.proofs.lemmas.List.Elements.{All-head, All-tail}
use Rattle.std.proofs.lemmas.List.Sums.{sum_by-cons}
use Rattle.mem_model.specs.Chunk.{AreInNumberOrder, Chunk, in_place_of, with_chunk}
use Rattle.mem_model.specs.Release.{without_chunk}
use Rattle.mem_model.proofs.OpenLemmas.{pairs_head, pairs_tail}

-- the later ones have other numbers
pub later-other : (x : Chunk) (xs : List Chunk) (n : ℕ) → AreInNumberOrder (x ∷ xs) → x.number ≡ n → All (λ y. y.number ≢ n) xs
later-other x xs n rises same k d within e = omega (arith, pairs_head (λ (older newer : Chunk). older.number < newer.number) x xs rises k d within)

-- nothing is replaced where none has the number
pub with_chunk-none : (new : Chunk) (xs : List Chunk) → All (λ x. x.number ≢ new.number) xs → with_chunk new xs ≡ xs
with_chunk-none new [] none = refl
with_chunk-none new (x ∷ xs) none =
    ap (λ y. y ∷ with_chunk new xs) (cond-false (x.number == new.number) new x (ne_eqb x.number new.number (All-head (λ y. y.number ≢ new.number) x xs none)))
    ∙ ap (λ ys. x ∷ ys) (with_chunk-none new xs (All-tail (λ y. y.number ≢ new.number) x xs none))

-- and nothing goes
pub without_chunk-none : (n : ℕ) (xs : List Chunk) → All (λ x. x.number ≢ n) xs → without_chunk n xs ≡ xs
without_chunk-none n [] none = refl
without_chunk-none n (x ∷ xs) none =
    cond-true (not (x.number == n)) (x ∷ without_chunk n xs) (without_chunk n xs) (ap not (ne_eqb x.number n (All-head (λ y. y.number ≢ n) x xs none)))
    ∙ ap (λ ys. x ∷ ys) (without_chunk-none n xs (All-tail (λ y. y.number ≢ n) x xs none))

-- a search that passes the first chunk over
find_later : (n : ℕ) (x old : Chunk) (xs : List Chunk) → (x.number == n) ≡ false → find (λ chunk. chunk.number == n) (x ∷ xs) ≡ Some old → find (λ chunk. chunk.number == n) xs ≡ Some old
find_later n x old xs other is = sym (cond-false (x.number == n) (Some x) (find (λ (chunk : Chunk). chunk.number == n) xs) other) ∙ is

-- a search that stops there
find_first : (n : ℕ) (x old : Chunk) (xs : List Chunk) → (x.number == n) ≡ true → find (λ chunk. chunk.number == n) (x ∷ xs) ≡ Some old → x ≡ old
find_first n x old xs same is =
    let stops : Some x ≡ Some old = sym (cond-true (x.number == n) (Some x) (find (λ (chunk : Chunk). chunk.number == n) xs) same) ∙ is in
    cc

-- a chunk in the place of another: the sum changes by what these two add
pub sum_by-with_chunk : (f : Chunk → ℕ) (n : ℕ) (new old : Chunk) (xs : List Chunk) → new.number ≡ n → AreInNumberOrder xs → find (λ chunk. chunk.number == n) xs ≡ Some old
    → sum_by f (with_chunk new xs) + f old ≡ sum_by f xs + f new
sum_by-with_chunk f n new old [] number rises is = absurd cc
sum_by-with_chunk f n new old (x ∷ xs) number rises is = elim (cases_Bool (x.number == n)) [
  | inl same ↦ (
      let others : All (λ y. y.number ≢ new.number) xs = λ k d within e. later-other x xs n rises (eqb-true x.number n same) k d within (e ∙ number) in
      let first : in_place_of new x ≡ new = cond-true (x.number == new.number) new x (ap (λ m. x.number == m) number ∙ same) in
      let changed : with_chunk new (x ∷ xs) ≡ new ∷ xs = ap (λ y. y ∷ with_chunk new xs) first ∙ ap (λ ys. new ∷ ys) (with_chunk-none new xs others) in
      omega (arith, ap (sum_by f) changed, ap f (find_first n x old xs same is), sum_by-cons f new xs, sum_by-cons f x xs))
  | inr other ↦ (
      let first : in_place_of new x ≡ x = cond-false (x.number == new.number) new x (ap (λ m. x.number == m) number ∙ other) in
      let rest = sum_by-with_chunk f n new old xs number (pairs_tail (λ (older newer : Chunk). older.number < newer.number) x xs rises) (find_later n x old xs other is) in
      omega (arith, rest, ap f first, sum_by-cons f (in_place_of new x) (with_chunk new xs), sum_by-cons f x xs))
]

-- a chunk goes: the sum falls by what it added
pub sum_by-without_chunk : (f : Chunk → ℕ) (n : ℕ) (old : Chunk) (xs : List Chunk) → AreInNumberOrder xs → find (λ chunk. chunk.number == n) xs ≡ Some old
    → sum_by f (without_chunk n xs) + f old ≡ sum_by f xs
sum_by-without_chunk f n old [] rises is = absurd cc
sum_by-without_chunk f n old (x ∷ xs) rises is = elim (cases_Bool (x.number == n)) [
  | inl same ↦ (
      let changed : without_chunk n (x ∷ xs) ≡ xs =
      cond-false (not (x.number == n)) (x ∷ without_chunk n xs) (without_chunk n xs) (ap not same) ∙ without_chunk-none n xs (later-other x xs n rises (eqb-true x.number n same)) in
      omega (arith, ap (sum_by f) changed, ap f (find_first n x old xs same is), sum_by-cons f x xs))
  | inr other ↦ (
      let kept : without_chunk n (x ∷ xs) ≡ x ∷ without_chunk n xs = cond-true (not (x.number == n)) (x ∷ without_chunk n xs) (without_chunk n xs) (ap not other) in
      let rest = sum_by-without_chunk f n old xs (pairs_tail (λ (older newer : Chunk). older.number < newer.number) x xs rises) (find_later n x old xs other is) in
      omega (arith, rest, ap (sum_by f) kept, sum_by-cons f x (without_chunk n xs), sum_by-cons f x xs))
]
