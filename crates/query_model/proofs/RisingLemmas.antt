-- Keys in order rise, so that each of them stands there once.
use Rattle.std.specs.Prelude.{◌≡◌, Bool, true, false, nat_eq, List, [], ◌∷◌, filter, cond, ⊤, refl}
use Rattle.std.specs.Cmp.Lexicographic.{nat_list_cmp_total, pointwise, same_text, other_text}
use Rattle.std.specs.declared.cmp.Ordering.TheVariants.{Less, Equal, Greater}
use Rattle.std.specs.FinMap.{slice_cmp-IsAntisymmetric, nat_cmp-IsAntisymmetric}
use Rattle.std.proofs.Common.{subst, sym, ap, ◌∙◌}
use Rattle.query_model.specs.Answer.{with_key, distinct}
use Rattle.query_model.proofs.KeyLemmas.{Key, order, by_order, itself, below, put-less, put-equal, put-greater}

-- a key is below each of these
abbrev IsBelow : Key → List Key → Type 0
IsBelow key [] = ⊤
IsBelow key (first ∷ rest) = (order key first ≡ Less) × IsBelow key rest

-- each key is below those after it
abbrev Rise : List Key → Type 0
Rise [] = ⊤
Rise (first ∷ rest) = IsBelow first rest × Rise rest

-- what is below a key is below those that it is below
below-all : (s k : Key) (keys : List Key) → order s k ≡ Less → IsBelow k keys → IsBelow s keys
below-all s k [] e all = tt
below-all s k (x ∷ keys) e all = (nat_list_cmp_total.trans s k x e all.0, below-all s k keys e all.1)

-- a key that is below a list and below one more is below both
below-put : (s k : Key) (keys : List Key) → order s k ≡ Less → IsBelow s keys → IsBelow s (with_key k keys)
below-put s k [] e all = (e, tt)
below-put s k (x ∷ keys) e all = by_order (order k x)
    (λ kx. subst (IsBelow s) (sym (put-less k x keys kx)) (e, all))
    (λ kx. subst (IsBelow s) (sym (put-equal k x keys kx)) all)
    (λ kx. subst (IsBelow s) (sym (put-greater k x keys kx)) (all.0, below-put s k keys e all.1))

-- rising keys rise with one more
rise-put : (k : Key) (keys : List Key) → Rise keys → Rise (with_key k keys)
rise-put k [] rise = (tt, tt)
rise-put k (x ∷ keys) rise = by_order (order k x)
    (λ kx. subst Rise (sym (put-less k x keys kx)) ((kx, below-all k x keys kx rise.0), rise))
    (λ kx. subst Rise (sym (put-equal k x keys kx)) rise)
    (λ kx. subst Rise (sym (put-greater k x keys kx)) (below-put x k keys (below k x kx) rise.0, rise-put k keys rise.1))

-- keys in order rise
rise-distinct : (keys : List Key) → Rise (distinct keys)
rise-distinct [] = tt
rise-distinct (key ∷ keys) = rise-put key (distinct keys) (rise-distinct keys)

-- two cases
by_bool : {P : Type 0} (b : Bool) → (b ≡ true → P) → (b ≡ false → P) → P
by_bool true yes' no' = yes' refl
by_bool false yes' no' = no' refl

-- the keys that are this one
abbrev pub same_keys : Key → List Key → List Key
same_keys key keys = filter (λ other. pointwise nat_eq key other) keys

-- the first is this key
same-first : (key x : Key) (keys : List Key) → pointwise nat_eq key x ≡ true → same_keys key (x ∷ keys) ≡ x ∷ same_keys key keys
same-first key x keys e = ap (λ b. cond b (x ∷ same_keys key keys) (same_keys key keys)) e

-- the first is another key
other-first : (key x : Key) (keys : List Key) → pointwise nat_eq key x ≡ false → same_keys key (x ∷ keys) ≡ same_keys key keys
other-first key x keys e = ap (λ b. cond b (x ∷ same_keys key keys) (same_keys key keys)) e

-- a key is itself
is-itself : (key : Key) → pointwise nat_eq key key ≡ true
is-itself key = by_bool (pointwise nat_eq key key) (λ e. e) (λ e. absurd (other_text key key (sym e) refl))

-- keys that don't tie are two
other-key : (key x : Key) → (order key x ≡ Equal → ⊥) → pointwise nat_eq key x ≡ false
other-key key x apart = by_bool (pointwise nat_eq key x)
    (λ e. absurd (apart (ap (order key) (sym (same_text key x (sym e))) ∙ itself key)))
    (λ e. e)

-- what is below or above doesn't tie
less-equal : (key x : Key) → order key x ≡ Less → order key x ≡ Equal → ⊥
less-equal key x a b = let e : Less ≡ Equal = sym a ∙ b in absurd cc

greater-equal : (key x : Key) → order key x ≡ Greater → order key x ≡ Equal → ⊥
greater-equal key x a b = let e : Greater ≡ Equal = sym a ∙ b in absurd cc

-- a key isn't among those that it is below
none-below : (key : Key) (keys : List Key) → IsBelow key keys → same_keys key keys ≡ []
none-below key [] all = refl
none-below key (x ∷ keys) all = other-first key x keys (other-key key x (less-equal key x all.0)) ∙ none-below key keys all.1

-- a key that was put into rising keys stands there once
put-same : (k : Key) (keys : List Key) → Rise keys → same_keys k (with_key k keys) ≡ k ∷ []
put-same k [] rise = same-first k k [] (is-itself k)
put-same k (x ∷ keys) rise = by_order (order k x)
    (λ kx. ap (same_keys k) (put-less k x keys kx) ∙ same-first k k (x ∷ keys) (is-itself k)
    ∙ ap (λ rest. k ∷ rest) (none-below k (x ∷ keys) (kx, below-all k x keys kx rise.0)))
    (λ kx. let same : k ≡ x = slice_cmp-IsAntisymmetric nat_cmp-IsAntisymmetric k x kx in
    ap (same_keys k) (put-equal k x keys kx) ∙ ap (λ key. same_keys key (x ∷ keys)) same ∙ same-first x x keys (is-itself x)
    ∙ ap (λ rest. x ∷ rest) (none-below x keys rise.0) ∙ ap (λ key. key ∷ []) (sym same))
    (λ kx. ap (same_keys k) (put-greater k x keys kx)
    ∙ other-first k x (with_key k keys) (other-key k x (greater-equal k x kx)) ∙ put-same k keys rise.1)

-- another key that is put there changes nothing
put-other : (key k : Key) (keys : List Key) → pointwise nat_eq key k ≡ false → same_keys key (with_key k keys) ≡ same_keys key keys
put-other key k [] e = other-first key k [] e
put-other key k (x ∷ keys) e = by_order (order k x)
    (λ kx. ap (same_keys key) (put-less k x keys kx) ∙ other-first key k (x ∷ keys) e)
    (λ kx. ap (same_keys key) (put-equal k x keys kx))
    (λ kx. ap (same_keys key) (put-greater k x keys kx)
    ∙ ap (λ rest. cond (pointwise nat_eq key x) (x ∷ rest) rest) (put-other key k keys e))

-- a key once, if there is any
abbrev pub once : Key → List Key → List Key
once key [] = []
once key (first ∷ rest) = key ∷ []

-- among keys in order, a key stands once if it stands there at all
pub same-distinct : (key : Key) (keys : List Key) → same_keys key (distinct keys) ≡ once key (same_keys key keys)
same-distinct key [] = refl
same-distinct key (k ∷ keys) = by_bool (pointwise nat_eq key k)
    (λ e. let same : key ≡ k = same_text key k (sym e) in
    ap (λ some. same_keys some (with_key k (distinct keys))) same ∙ put-same k (distinct keys) (rise-distinct keys)
    ∙ ap (λ some. some ∷ []) (sym same) ∙ sym (ap (once key) (same-first key k keys e)))
    (λ e. put-other key k (distinct keys) e ∙ same-distinct key keys ∙ sym (ap (once key) (other-first key k keys e)))
