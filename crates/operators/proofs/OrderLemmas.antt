-- Keys with their places, put in order.
use Rattle.std.proofs.Common.{◌≡◌, ℕ, ◌+◌, ◌<◌, suc, List, [], ◌∷◌, ◌++◌, length, take, map, get_or, All, false, Some}
use Rattle.std.proofs.Common.{Bor, Vec, Global, refl, sym, ap, ◌∙◌, subst, arith}
use Rattle.std.specs.Prelude.{⊤, IsSorted, slice_get}
use Rattle.std.specs.declared.cmp.Ordering.{Ordering}
use Rattle.std.specs.declared.cmp.Ordering.TheVariants.{Less, Equal, Greater}
use Rattle.std.specs.List.{IsDistinct}
use Rattle.std.specs.List.Sorted.{IsPermutation}
use Rattle.std.specs.Ordering.{is_lt, nat_cmp, ordering_then}
use Rattle.std.proofs.lemmas.Bool.{false≢true}
use Rattle.std.proofs.lemmas.List.{get_or-map, length-map, map-append, take_more}
use Rattle.std.proofs.lemmas.List.Elements.{All-append, All-cons, All-head, All-nil, All-tail}
use Rattle.std.proofs.lemmas.List.Sorted.{All-permutation, IsPermutation-map, list_any-IsPermutation}
use Rattle.std.proofs.lemmas.Map.Keys.{IsDistinct-IsPermutation, IsDistinct-from_apart, apart_from_distinct}
use Rattle.std.proofs.lemmas.Option.{get_or_from_slice_get, slice_get-get_or, slice_get_within}
use Rattle.std.proofs.lemmas.Simd.{map-map}
use Rattle.std.specs.Cmp.Lexicographic.{bytes_decides}
use Rattle.query_model.specs.Answer.{distinct}
use Rattle.operators.proofs.GatherLemmas.{map-same}
use Rattle.operators.proofs.KeyLemmas.{Key, key-swap, same_key}
use Rattle.operators.proofs.RisingLemmas.{AllAbove, Rising, above-trans, below, by_order, distinct-has, distinct-rising, order, rising-same}
use Rattle.operators.proofs.RisingLemmas.{tied}

-- a key and its place
abbrev pub Named : Type 0
Named = Bor Key × ℕ

abbrev pub key_in : Named → Key
key_in one = one.0.now

abbrev pub IsFound : List Key → Named → Type 0
IsFound seen one = slice_get seen one.1 ≡ Some one.0.now

-- one key more
pub named-more : (seen : List Key) (old new : List Named) (i : ℕ) (key : Bor Key) → i < length seen → key.now ≡ get_or seen i []
    → new ≡ old ++ (key, i) ∷ [] → map key_in old ≡ take i seen → All (IsFound seen) old
    → (map key_in new ≡ take (i + 1) seen) × All (IsFound seen) new
named-more seen old new i key within is pushed before found = (
  ap (map key_in) pushed ∙ map-append key_in old ((key, i) ∷ []) ∙ (λ k. before k ++ is k ∷ []) ∙ sym (take_more seen i [] within),
  subst (All (IsFound seen)) (sym pushed) (All-append (IsFound seen) old ((key, i) ∷ []) found
      (All-cons (IsFound seen) (key, i) [] (slice_get-get_or seen i [] within ∙ ap Some (sym is)) (All-nil _))),
)

-- no key is below the one before it
unfoldable pub Adjacent : List Key → Type 0
Adjacent [] = ⊤
Adjacent (x ∷ []) = ⊤
Adjacent (x ∷ y ∷ keys) = (is_lt (order y x) ≡ false) × Adjacent (y ∷ keys)

first-not : (a b : Ordering) → is_lt (ordering_then a b) ≡ false → is_lt a ≡ false
first-not Less b e = e
first-not Equal b e = refl
first-not Greater b e = refl

abbrev pub by_key : Named → Named → Ordering
by_key a b = ordering_then (order a.0.now b.0.now) (nat_cmp a.1 b.1)

sorted-adjacent : (named : List Named) → IsSorted by_key named → Adjacent (map key_in named)
unfolding Adjacent
sorted-adjacent [] sorted = tt
sorted-adjacent (x ∷ []) sorted = tt
sorted-adjacent (x ∷ y ∷ named) sorted = (
  first-not (order y.0.now x.0.now) (nat_cmp y.1 x.1) (sorted 0 x (omega arith) (omega arith)),
  sorted-adjacent (y ∷ named) (λ k d low high.
      let next : suc k + 1 ≡ suc (k + 1) = omega arith in
      subst (λ n. is_lt (by_key (get_or (x ∷ y ∷ named) n d) (get_or (y ∷ named) k d)) ≡ false) next
      (sorted (suc k) d (omega arith) (omega arith))),
)

not-below : (x y : Key) → is_lt (order y x) ≡ false → same_key x y ≡ false → order x y ≡ Less
not-below x y not_less differ = by_order (order x y)
    (λ e. e)
    (λ e. absurd (false≢true (sym differ ∙ (bytes_decides x y).1 (tied x y e))))
    (λ e. absurd (false≢true (sym not_less ∙ ap is_lt (below x y e))))

-- different keys in such an order rise
adjacent-rising : (keys : List Key) → Adjacent keys → IsDistinct same_key keys → Rising keys
unfolding Adjacent Rising AllAbove IsDistinct
adjacent-rising [] adjacent differ = tt
adjacent-rising (x ∷ []) adjacent differ = (tt, tt)
adjacent-rising (x ∷ y ∷ keys) adjacent differ =
    let rest = adjacent-rising (y ∷ keys) adjacent.1 differ.1 in
    let less = not-below x y adjacent.0 (apart_from_distinct same_key (x ∷ y ∷ keys) 0 1 x differ (omega arith) (omega arith)) in
    ((less, above-trans x y keys less rest.0), rest)

distinct-seen : (vecs : List (Vec ℕ Global)) → IsDistinct (λ a b. same_key a.items b.items) vecs
    → IsDistinct same_key (map (λ one. one.items) vecs)
unfolding IsDistinct
distinct-seen [] differ = tt
distinct-seen (v ∷ vecs) differ =
    let items : Vec ℕ Global → Key = (λ one. one.items) in
    let size = length-map (v ∷ vecs) items in
    IsDistinct-from_apart same_key (map items (v ∷ vecs)) (λ i j d below within.
    let one = get_or-map items (v ∷ vecs) i v d (omega (arith, size, below, within)) in
    let two = get_or-map items (v ∷ vecs) j v d (omega (arith, size, within)) in
    (λ k. same_key (one k) (two k))
    ∙ apart_from_distinct (λ (a b : Vec ℕ Global). same_key a.items b.items) (v ∷ vecs) i j v differ below (omega (arith, size, within)))

-- the places of the keys in order
pub order-is : (vecs : List (Vec ℕ Global)) (seen : List Key) (named sorted : List Named) (places : List ℕ) → map
    (λ one. one.items) vecs ≡ seen
    → IsDistinct (λ a b. same_key a.items b.items) vecs → map key_in named ≡ seen → All (IsFound seen) named → IsPermutation named sorted
    → IsSorted by_key sorted → places ≡ map (λ one. one.1) sorted
    → All (λ place. place < length seen) places × (map (λ place. get_or seen place []) places ≡ distinct seen)
order-is vecs seen named sorted places view differ keys found moved rise are =
    let there = All-permutation (IsFound seen) named sorted moved found in
    let moved_keys = subst (λ list. IsPermutation list (map key_in sorted)) keys (IsPermutation-map key_in named sorted moved) in
    let differ_seen = subst (IsDistinct same_key) view (distinct-seen vecs differ) in
    let differ_sorted = IsDistinct-IsPermutation same_key key-swap seen (map key_in sorted) moved_keys differ_seen in
    let rising = adjacent-rising (map key_in sorted) (sorted-adjacent sorted rise) differ_sorted in
    let same : map key_in sorted ≡ distinct seen = rising-same (map key_in sorted) (distinct seen) rising (distinct-rising seen) (λ k.
    sym (list_any-IsPermutation (same_key k) seen (map key_in sorted) moved_keys) ∙ sym (distinct-has k seen)) in (
      subst (All (λ place. place < length seen)) (sym are) (within sorted there),
      ap (map (λ place. get_or seen place [])) are ∙ map-map (λ place. get_or seen place []) (λ one. one.1) sorted
          ∙ map-same (λ one. get_or seen one.1 []) key_in sorted
          (λ k d inside. get_or_from_slice_get seen (get_or sorted k d).1 (get_or sorted k d).0.now [] (there k d inside))
          ∙ same,
    ) where
      within : (list : List Named) → All (IsFound seen) list → All (λ place. place < length seen) (map (λ one. one.1) list)
      within [] all = All-nil _
      within (one ∷ list) all =
          All-cons (λ place. place < length seen) one.1 (map (λ o. o.1) list)
          (slice_get_within seen one.1 one.0.now (All-head (IsFound seen) one list all))
          (within list (All-tail (IsFound seen) one list all))
