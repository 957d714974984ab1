-- Keys in order of their bytes: two such lists with the same keys are one list.
use Rattle.std.proofs.Common.{◌≡◌, List, [], ◌∷◌, Bool, true, false, refl, sym, ap, ◌∙◌, subst, inl, inr}
use Rattle.std.specs.Prelude.{◌||◌, ⊤}
use Rattle.std.specs.declared.cmp.Ordering.{Ordering}
use Rattle.std.specs.declared.cmp.Ordering.TheVariants.{Less, Equal, Greater}
use Rattle.std.specs.Cmp.{tied_itself}
use Rattle.std.specs.Cmp.Lexicographic.{bytes_decides, slice_cmp}
use Rattle.std.specs.FinMap.{nat_cmp-IsAntisymmetric, slice_cmp-IsAntisymmetric}
use Rattle.std.specs.List.{list_any}
use Rattle.std.specs.Ordering.{match_ordering, nat_cmp, ordering_reverse}
use Rattle.std.proofs.lemmas.Bool.{cases_Bool, false≢true}
use Rattle.std.proofs.lemmas.Cmp.{nat_list_cmp_total}
use Rattle.query_model.specs.Answer.{distinct, with_key}
use Rattle.operators.proofs.KeyLemmas.{Key, same_key}

abbrev pub order : Key → Key → Ordering
order = slice_cmp nat_cmp

pub by_order : {P : Type 0} (o : Ordering) → (o ≡ Less → P) → (o ≡ Equal → P) → (o ≡ Greater → P) → P
by_order Less less equal greater = less refl
by_order Equal less equal greater = equal refl
by_order Greater less equal greater = greater refl

above : (s k : Key) → order s k ≡ Less → order k s ≡ Greater
above s k e = nat_list_cmp_total.antisymm k s ∙ ap ordering_reverse e

pub below : (k s : Key) → order k s ≡ Greater → order s k ≡ Less
below k s e = nat_list_cmp_total.antisymm s k ∙ ap ordering_reverse e

pub tied : (k s : Key) → order k s ≡ Equal → k ≡ s
tied k s e = slice_cmp-IsAntisymmetric nat_cmp-IsAntisymmetric k s e

-- a key that is below another is another one
less-differs : (k s : Key) → order k s ≡ Less → same_key k s ≡ false
less-differs k s e = elim (cases_Bool (same_key k s)) [
  | inl same ↦
      let is : k ≡ s = (bytes_decides k s).0 same in
      let itself : order k k ≡ Equal = tied_itself nat_list_cmp_total k in
      let wrong : Equal ≡ Less = sym itself ∙ ap (order k) is ∙ e in
      cc wrong
  | inr other ↦ other
]

-- each of some keys is above a key
unfoldable pub AllAbove : Key → List Key → Type 0
AllAbove key [] = ⊤
AllAbove key (k ∷ keys) = (order key k ≡ Less) × AllAbove key keys

-- each key is below those after it
unfoldable pub Rising : List Key → Type 0
Rising [] = ⊤
Rising (key ∷ keys) = AllAbove key keys × Rising keys

pub above-none : (key : Key) (keys : List Key) → AllAbove key keys → list_any (same_key key) keys ≡ false
unfolding AllAbove
above-none key [] h = refl
above-none key (k ∷ keys) h = (λ i. less-differs key k h.0 i || above-none key keys h.1 i)

pub above-trans : (a b : Key) (keys : List Key) → order a b ≡ Less → AllAbove b keys → AllAbove a keys
unfolding AllAbove
above-trans a b [] e h = tt
above-trans a b (k ∷ keys) e h = (nat_list_cmp_total.trans a b k e h.0, above-trans a b keys e h.1)

-- keys have a key more
put-by : (P : List Key → Type 0) (key first : Key) (rest : List Key) → (order key first ≡ Less → P (key ∷ first ∷ rest))
    → (order key first ≡ Equal → P (first ∷ rest)) → (order key first ≡ Greater → P (first ∷ with_key key rest))
    → P (with_key key (first ∷ rest))
put-by P key first rest less equal greater = by_order (order key first)
    (λ e. subst (λ o. P (match_ordering o (key ∷ first ∷ rest) (first ∷ rest) (first ∷ with_key key rest))) (sym e) (less e))
    (λ e. subst (λ o. P (match_ordering o (key ∷ first ∷ rest) (first ∷ rest) (first ∷ with_key key rest))) (sym e) (equal e))
    (λ e. subst (λ o. P (match_ordering o (key ∷ first ∷ rest) (first ∷ rest) (first ∷ with_key key rest))) (sym e) (greater e))

put-above : (a key : Key) (keys : List Key) → order a key ≡ Less → AllAbove a keys → AllAbove a (with_key key keys)
unfolding AllAbove
put-above a key [] e h = (e, tt)
put-above a key (first ∷ rest) e h = put-by (AllAbove a) key first rest (λ o. (e, h)) (λ o. h) (λ o. (h.0, put-above a key rest e h.1))

put-rising : (key : Key) (keys : List Key) → Rising keys → Rising (with_key key keys)
unfolding Rising AllAbove
put-rising key [] h = (tt, tt)
put-rising key (first ∷ rest) h = put-by Rising key first rest
    (λ o. ((o, above-trans key first rest o h.0), h)) (λ o. h)
    (λ o. (put-above first key rest (below key first o) h.0, put-rising key rest h.1))

-- each key once, in order, rises
pub distinct-rising : (keys : List Key) → Rising (distinct keys)
unfolding Rising
distinct-rising [] = tt
distinct-rising (key ∷ keys) = put-rising key (distinct keys) (distinct-rising keys)

or-twice : (a b : Bool) → (a || b) ≡ (a || (a || b))
or-twice true b = refl
or-twice false b = refl

or-swap : (a b c : Bool) → (a || (b || c)) ≡ (b || (a || c))
or-swap true true c = refl
or-swap true false c = refl
or-swap false true c = refl
or-swap false false c = refl

put-has : (k key : Key) (keys : List Key) → list_any (same_key k) (with_key key keys) ≡ (same_key k key || list_any (same_key k) keys)
put-has k key [] = refl
put-has k key (first ∷ rest) =
    put-by (λ list. list_any (same_key k) list ≡ (same_key k key || (same_key k first || list_any (same_key k) rest))) key first rest
    (λ o. refl)
    (λ o. or-twice (same_key k first) (list_any (same_key k) rest)
    ∙ ap (λ one. same_key k one || (same_key k first || list_any (same_key k) rest)) (sym (tied key first o)))
    (λ o. ap (λ b. same_key k first || b) (put-has k key rest) ∙ or-swap (same_key k first) (same_key k key) (list_any (same_key k) rest))

-- and has the keys that there were
pub distinct-has : (k : Key) (keys : List Key) → list_any (same_key k) (distinct keys) ≡ list_any (same_key k) keys
distinct-has k [] = refl
distinct-has k (key ∷ keys) = put-has k key (distinct keys) ∙ ap (λ b. same_key k key || b) (distinct-has k keys)

itself : (k : Key) → same_key k k ≡ true
itself k = (bytes_decides k k).1 refl

has-first : (k : Key) (keys : List Key) → list_any (same_key k) (k ∷ keys) ≡ true
has-first k keys = ap (λ b. b || list_any (same_key k) keys) (itself k)

none-below : (x y : Key) (ys : List Key) → order x y ≡ Less → AllAbove y ys → list_any (same_key x) (y ∷ ys) ≡ false
none-below x y ys e h = (λ i. less-differs x y e i || above-none x ys (above-trans x y ys e h) i)

rest-has : (k x : Key) (xs ys : List Key) → AllAbove x xs → AllAbove x ys
    → (same_key k x || list_any (same_key k) xs) ≡ (same_key k x || list_any (same_key k) ys)
    → list_any (same_key k) xs ≡ list_any (same_key k) ys
rest-has k x xs ys one two e = elim (cases_Bool (same_key k x)) [
  | inl same ↦
      let is : k ≡ x = (bytes_decides k x).0 same in
      ap (λ key. list_any (same_key key) xs) is ∙ above-none x xs one ∙ sym (above-none x ys two) ∙ ap (λ key. list_any (same_key key) ys)
      (sym is)
  | inr other ↦ (let f = rw other at e in f)
]

-- two lists of keys that rise and have the same keys are one
pub rising-same : (xs ys : List Key) → Rising xs → Rising ys → ((k : Key) → list_any (same_key k) xs ≡ list_any (same_key k) ys) → xs ≡ ys
unfolding Rising
rising-same [] [] one two same = refl
rising-same [] (y ∷ ys) one two same = absurd (false≢true (same y ∙ has-first y ys))
rising-same (x ∷ xs) [] one two same = absurd (false≢true (sym (same x) ∙ has-first x xs))
rising-same (x ∷ xs) (y ∷ ys) one two same = by_order (order x y)
    (λ o. absurd (false≢true (sym (none-below x y ys o two.0) ∙ sym (same x) ∙ has-first x xs)))
    (λ o.
    let is : x ≡ y = tied x y o in
    let above_x : AllAbove x ys = subst (λ key. AllAbove key ys) (sym is) two.0 in
    let rest = rising-same xs ys one.1 two.1 (λ k. rest-has k x xs ys one.0 above_x
    (same k ∙ ap (λ key. same_key k key || list_any (same_key k) ys) (sym is))) in
    λ i. is i ∷ rest i)
    (λ o. absurd (false≢true (sym (none-below y x xs (below x y o) one.0) ∙ same y ∙ has-first y ys)))
