-- Keys in order: keys of parts that were put in order are those of the whole.
use Rattle.std.specs.Prelude.{◌≡◌, ℕ, List, [], ◌∷◌, ◌++◌, flat_map, refl}
use Rattle.std.specs.declared.cmp.Ordering.{Ordering}
use Rattle.std.specs.declared.cmp.Ordering.TheVariants.{Less, Equal, Greater}
use Rattle.std.specs.Cmp.{tied_itself}
use Rattle.std.specs.Cmp.Lexicographic.{slice_cmp, nat_list_cmp_total}
use Rattle.std.specs.FinMap.{slice_cmp-IsAntisymmetric, nat_cmp-IsAntisymmetric}
use Rattle.std.specs.Ordering.{match_ordering, nat_cmp, ordering_reverse}
use mathlib.Core.Path.{sym, ap, ◌∙◌}
use Rattle.query_model.specs.Answer.{with_key, distinct}

-- a key, as bytes
abbrev pub Key : Type 0
Key = List ℕ

-- keys in order of their bytes
abbrev pub order : Key → Key → Ordering
order = slice_cmp nat_cmp

-- three cases
pub by_order : {P : Type 0} (o : Ordering) → (o ≡ Less → P) → (o ≡ Equal → P) → (o ≡ Greater → P) → P
by_order Less less equal greater = less refl
by_order Equal less equal greater = equal refl
by_order Greater less equal greater = greater refl

-- what is below is not above, and the other way round
above : (s k : Key) → order s k ≡ Less → order k s ≡ Greater
above s k e = nat_list_cmp_total.antisymm k s ∙ ap ordering_reverse e

pub below : (k s : Key) → order k s ≡ Greater → order s k ≡ Less
below k s e = nat_list_cmp_total.antisymm s k ∙ ap ordering_reverse e

-- below a key is below one that ties with it
below_tied : (s k x : Key) → order s k ≡ Less → order k x ≡ Equal → order s x ≡ Less
below_tied s k x e tie =
    nat_list_cmp_total.antisymm s x ∙ ap ordering_reverse (sym (nat_list_cmp_total.congr k x s tie)) ∙ ap ordering_reverse (above s k e)

-- a key and what it is put into, by its order with the first one
abbrev put_by : Key → Key → List Key → Ordering → List Key
put_by key first rest o = match_ordering o (key ∷ first ∷ rest) (first ∷ rest) (first ∷ with_key key rest)

-- a key goes before one that it is below
pub put-less : (key first : Key) (rest : List Key) → order key first ≡ Less → with_key key (first ∷ rest) ≡ key ∷ first ∷ rest
put-less key first rest e = ap (put_by key first rest) e

-- a key that is there stays once
pub put-equal : (key first : Key) (rest : List Key) → order key first ≡ Equal → with_key key (first ∷ rest) ≡ first ∷ rest
put-equal key first rest e = ap (put_by key first rest) e

-- a key goes behind one that it is above
pub put-greater : (key first : Key) (rest : List Key) → order key first ≡ Greater → with_key key (first ∷ rest) ≡ first ∷ with_key key rest
put-greater key first rest e = ap (put_by key first rest) e

-- a key ties with itself
pub itself : (s : Key) → order s s ≡ Equal
itself s = tied_itself nat_list_cmp_total s

-- a key put twice
put-twice : (s : Key) (keys : List Key) → with_key s (with_key s keys) ≡ with_key s keys
put-twice s [] = put-equal s s [] (itself s)
put-twice s (x ∷ keys) = by_order (order s x)
    (λ e. ap (with_key s) (put-less s x keys e) ∙ put-equal s s (x ∷ keys) (itself s) ∙ sym (put-less s x keys e))
    (λ e. ap (with_key s) (put-equal s x keys e))
    (λ e. ap (with_key s) (put-greater s x keys e) ∙ put-greater s x (with_key s keys) e ∙ ap (λ rest. x ∷ rest) (put-twice s keys)
    ∙ sym (put-greater s x keys e))

-- two keys put in either order
pub put-swap : (s k : Key) (keys : List Key) → order s k ≡ Less → with_key s (with_key k keys) ≡ with_key k (with_key s keys)
put-swap s k [] e = put-less s k [] e ∙ sym (put-greater k s [] (above s k e))
put-swap s k (x ∷ keys) e = by_order (order k x)
    (λ kx. let sx : order s x ≡ Less = nat_list_cmp_total.trans s k x e kx in
    ap (with_key s) (put-less k x keys kx) ∙ put-less s k (x ∷ keys) e
    ∙ sym (ap (with_key k) (put-less s x keys sx) ∙ put-greater k s (x ∷ keys) (above s k e)
    ∙ ap (λ rest. s ∷ rest) (put-less k x keys kx)))
    (λ kx. let sx : order s x ≡ Less = below_tied s k x e kx in
    ap (with_key s) (put-equal k x keys kx) ∙ put-less s x keys sx
    ∙ sym (ap (with_key k) (put-less s x keys sx) ∙ put-greater k s (x ∷ keys) (above s k e)
    ∙ ap (λ rest. s ∷ rest) (put-equal k x keys kx)))
    (λ kx. by_order (order s x)
    (λ sx. ap (with_key s) (put-greater k x keys kx) ∙ put-less s x (with_key k keys) sx
    ∙ sym (ap (with_key k) (put-less s x keys sx) ∙ put-greater k s (x ∷ keys) (above s k e)
    ∙ ap (λ rest. s ∷ rest) (put-greater k x keys kx)))
    (λ sx. ap (with_key s) (put-greater k x keys kx) ∙ put-equal s x (with_key k keys) sx
    ∙ sym (ap (with_key k) (put-equal s x keys sx) ∙ put-greater k x keys kx))
    (λ sx. ap (with_key s) (put-greater k x keys kx) ∙ put-greater s x (with_key k keys) sx
    ∙ ap (λ rest. x ∷ rest) (put-swap s k keys e)
    ∙ sym (ap (with_key k) (put-greater s x keys sx) ∙ put-greater k x (with_key s keys) kx)))

-- a key put into the first of two lists
distinct-put : (k : Key) (keys more : List Key) → distinct (with_key k keys ++ more) ≡ with_key k (distinct (keys ++ more))
distinct-put k [] more = refl
distinct-put k (s ∷ keys) more = by_order (order k s)
    (λ e. ap (λ all. distinct (all ++ more)) (put-less k s keys e))
    (λ e. ap (λ all. distinct (all ++ more)) (put-equal k s keys e)
    ∙ sym (put-twice s (distinct (keys ++ more)))
    ∙ ap (λ key. with_key key (with_key s (distinct (keys ++ more)))) (sym (slice_cmp-IsAntisymmetric nat_cmp-IsAntisymmetric k s e)))
    (λ e. ap (λ all. distinct (all ++ more)) (put-greater k s keys e)
    ∙ ap (with_key s) (distinct-put k keys more) ∙ put-swap s k (distinct (keys ++ more)) (below k s e))

-- keys that were put in order already
distinct-again : (keys more : List Key) → distinct (distinct keys ++ more) ≡ distinct (keys ++ more)
distinct-again [] more = refl
distinct-again (key ∷ keys) more = distinct-put key (distinct keys) more ∙ ap (with_key key) (distinct-again keys more)

-- keys before two lists that have the same ones
distinct-rest : (keys some other : List Key) → distinct some ≡ distinct other → distinct (keys ++ some) ≡ distinct (keys ++ other)
distinct-rest [] some other same = same
distinct-rest (key ∷ keys) some other same = ap (with_key key) (distinct-rest keys some other same)

-- the keys of parts, each put in order, are those of the whole
pub distinct_cut : (parts : List (List Key)) → distinct (flat_map distinct parts) ≡ distinct (flat_map (λ part. part) parts)
distinct_cut [] = refl
distinct_cut (part ∷ parts) =
    distinct-again part (flat_map distinct parts)
    ∙ distinct-rest part (flat_map distinct parts) (flat_map (λ p. p) parts) (distinct_cut parts)
