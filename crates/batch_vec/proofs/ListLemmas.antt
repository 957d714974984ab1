-- Lists that loops build, and chunks of bytes.
use Rattle.std.proofs.Common.{◌≡◌, ℕ, ◌+◌, ◌*◌, ◌<◌, zero, suc, List, [], ◌∷◌, ◌++◌, length, take, drop, map, get_or, sym, ◌∙◌, ap, arith}
use Rattle.std.specs.List.{flat_map, range_with_len}
use Rattle.std.specs.Simd.{first_chunks}
use Rattle.std.proofs.lemmas.List.{drop-drop, take_more, flat_map_more}
use Rattle.std.proofs.lemmas.List.FromFn.{map-range_with_len_more}

-- one more of a range
pub map_pushed : {X : Type 0} (f : ℕ → X) (n : ℕ) (old new : List X) (x : X) → new ≡ old ++ x ∷ []
    → old ≡ map f (range_with_len 0 n) → x ≡ f n → new ≡ map f (range_with_len 0 (n + 1))
map_pushed f n old new x pushed before is =
    pushed ∙ (λ k. before k ++ is k ∷ []) ∙ sym (map-range_with_len_more f 0 n n (omega arith))

-- the pieces of one more element
pub pieces_pushed : {X A : Type 0} (f : X → List A) (xs : List X) (i : ℕ) (d : X) (old new piece : List A) → i < length xs
    → new ≡ old ++ piece → old ≡ flat_map f (take i xs) → piece ≡ f (get_or xs i d) → new ≡ flat_map f (take (i + 1) xs)
pieces_pushed f xs i d old new piece within pushed before is =
    pushed ∙ (λ k. before k ++ is k) ∙ flat_map_more f [] (take i xs) (get_or xs i d) ∙ ap (flat_map f) (sym (take_more xs i d within))

-- a chunk of a place
pub chunk_there : (n k i : ℕ) (xs d : List ℕ) → i < k → get_or (first_chunks n k xs) i d ≡ take n (drop (n * i) xs)
chunk_there n zero i xs d within = absurd (omega arith)
chunk_there n (suc k) zero xs d within = let none : 0 ≡ n * 0 = omega arith in ap (λ m. take n (drop m xs)) none
chunk_there n (suc k) (suc i) xs d within =
    let next : n + n * i ≡ n * suc i = omega arith in
    chunk_there n k i (drop n xs) d (omega arith) ∙ ap (take n) (drop-drop (n * i) n xs ∙ ap (λ m. drop m xs) next)
