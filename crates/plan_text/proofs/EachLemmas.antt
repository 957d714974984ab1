-- Values that are read one after another.
use Rattle.std.proofs.Common.{◌≡◌, ◌<◌, ◌≤◌, ◌+◌, ℕ, zero, suc, List, [], ◌∷◌, ◌++◌, length, take, map, get_or}
use Rattle.std.proofs.Common.{Option, Some, None, refl, sym, ap, subst, ◌∙◌, arith}
use Rattle.std.specs.Prelude.{All, ◌&&◌, nat_le}
use Rattle.std.proofs.lemmas.Bool.{and_parts, leb-true}
use Rattle.std.proofs.lemmas.List.{get_or-map, length-map, map-append, take_all, take_more}
use Rattle.std.proofs.lemmas.List.Elements.{All-cons, All-nil}
use Rattle.toml.specs.Data.{Data, as_array, string, integer, float, boolean, datetime, array, table}
use Rattle.toml.specs.View.{items_of, items_view, view}
use Rattle.toml.specs.declared.value.Value.{Value}
use Rattle.plan_text.specs.Values.{each_of, if_between, items_between, items_in, joined, list_of}
use Rattle.plan_text.proofs.OptionLemmas.{chosen, then-parts}

-- all were there
pub joined-parts : {A : Type 0} (x : Option A) (rest : Option (List A)) (xs : List A) → joined x rest ≡ Some xs
    → (y : A) × (ys : List A) × (x ≡ Some y) × (rest ≡ Some ys) × (xs ≡ y ∷ ys)
joined-parts None rest xs e = cc e
joined-parts (Some y) None xs e = cc e
joined-parts (Some y) (Some ys) xs e = (y, ys, refl, refl, (let f : Some (y ∷ ys) ≡ Some xs = e in cc))

-- a value is missing
joined-none : {A : Type 0} (x : Option A) → joined x None ≡ None
joined-none None = refl
joined-none (Some y) = refl

-- one more is read
each_of-append : {A : Type 0} (f : Data → Option A) (ds : List Data) (d : Data) (xs : List A) (x : A)
    → each_of f ds ≡ Some xs → f d ≡ Some x
    → each_of f (ds ++ d ∷ []) ≡ Some (xs ++ x ∷ [])
unfolding each_of
each_of-append f [] d xs x all one =
    let g : Some [] ≡ Some xs = all in
    let none : [] ≡ xs = cc in
    ap (λ (t : Option _). joined t (Some [])) one ∙ ap (λ (t : List _). Some (t ++ x ∷ [])) none
each_of-append f (e ∷ ds) d xs x all one =
    let (y, ys, first, rest, whole) = joined-parts (f e) (each_of f ds) xs all in
    ap (joined (f e)) (each_of-append f ds d ys x rest one)
    ∙ ap (λ (t : Option _). joined t (Some (ys ++ x ∷ []))) first ∙ ap (λ (t : List _). Some (t ++ x ∷ [])) (sym whole)

-- no value was read yet
pub each_of-begun : {A : Type 0} (f : Data → Option A) (vs : List Value)
    → each_of f (map view (take 0 vs)) ≡ Some []
unfolding each_of
each_of-begun f vs = refl

-- one more
pub each_of-more : {A : Type 0} (f : Data → Option A) (vs : List Value) (i : ℕ) (v : Value) (xs : List A) (x : A)
    → i < length vs → v ≡ get_or vs i v
    → each_of f (map view (take i vs)) ≡ Some xs → f (view v) ≡ Some x
    → each_of f (map view (take (i + 1) vs)) ≡ Some (xs ++ x ∷ [])
each_of-more f vs i v xs x within e all one =
    let t : map view (take (i + 1) vs) ≡ map view (take i vs) ++ view v ∷ [] =
    ap (map view) (take_more vs i v within) ∙ map-append view (take i vs) (get_or vs i v ∷ [])
    ∙ ap (λ (w : Value). map view (take i vs) ++ view w ∷ []) (sym e) in
    ap (each_of f) t ∙ each_of-append f (map view (take i vs)) (view v) xs x all one

-- all of them
pub each_of-all : {A : Type 0} (f : Data → Option A) (vs : List Value) (i : ℕ) (xs : List A) → length vs ≤ i
    → each_of f (map view (take i vs)) ≡ Some xs → each_of f (map view vs) ≡ Some xs
each_of-all f vs i xs past all = ap (λ (ws : List Value). each_of f (map view ws)) (sym (take_all i vs past)) ∙ all

-- one of a list is none
none-at : {A : Type 0} (f : Data → Option A) (ds : List Data) (i : ℕ) (d : Data) → i < length ds
    → f (get_or ds i d) ≡ None → each_of f ds ≡ None
unfolding each_of
none-at f [] i d within e = absurd (omega arith)
none-at f (x ∷ xs) zero d within e = ap (λ (t : Option _). joined t (each_of f xs)) e
none-at f (x ∷ xs) (suc i) d within e = ap (joined (f x)) (none-at f xs i d (omega arith) e) ∙ joined-none (f x)

-- one that is none
pub each_of-none : {A : Type 0} (f : Data → Option A) (vs : List Value) (i : ℕ) (v : Value) → i < length vs
    → v ≡ get_or vs i v → f (view v) ≡ None → each_of f (map view vs) ≡ None
each_of-none f vs i v within e none =
    none-at f (map view vs) i (view v) (rw (length-map vs view) within)
    (ap f (get_or-map view vs i v (view v) within ∙ ap view (sym e)) ∙ none)

-- the items of a list are the list
list_of-items : (ds : List Data) → list_of (items_of ds) ≡ ds
unfolding list_of
list_of-items [] = refl
list_of-items (d ∷ ds) = ap (λ (t : List Data). d ∷ t) (list_of-items ds)

-- the items of an array are what its values show
pub array-items : (shown vs : List Value) (d : Data) → shown ≡ vs → Some (items_view vs) ≡ as_array d
    → Some (map view shown) ≡ items_in d
array-items shown vs (array items) same e =
    let inside : items_view vs ≡ items = (let f : Some (items_view vs) ≡ Some items = e in cc) in
    ap (λ (t : List Value). Some (map view t)) same ∙ ap Some (sym (ap list_of (sym inside) ∙ list_of-items (map view vs)))
array-items shown vs (string s) same e = cc e
array-items shown vs (integer z) same e = cc e
array-items shown vs (float x) same e = cc e
array-items shown vs (boolean b) same e = cc e
array-items shown vs (datetime t) same e = cc e
array-items shown vs (table ms) same e = cc e

-- as many values are read as there are
pub each_of-length : {A : Type 0} (f : Data → Option A) (ds : List Data) (xs : List A) → each_of f ds ≡ Some xs
    → length xs ≡ length ds
unfolding each_of
each_of-length f [] xs e = (let g : Some [] ≡ Some xs = e in let none : [] ≡ xs = cc in ap length (sym none))
each_of-length f (d ∷ ds) xs e =
    let (y, ys, first, rest, whole) = joined-parts (f d) (each_of f ds) xs e in
    ap length whole ∙ ap suc (each_of-length f ds ys rest)

-- there are so many items
pub items_between-parts : (least most : ℕ) (d : Data) (items : List Data)
    → items_between least most d ≡ Some items → (least ≤ length items) × (length items ≤ most)
items_between-parts least most d items e =
    let (found, some, between) = then-parts (if_between least most) (items_in d) items e in
    let (bounds, same) = chosen (nat_le least (length found) && nat_le (length found) most) found items between in
    let both = and_parts _ _ bounds in
    let lower : least ≤ length found = leb-true least (length found) both.0 in
    let upper : length found ≤ most = leb-true (length found) most both.1 in
    subst (λ (t : List Data). (least ≤ length t) × (length t ≤ most)) same (lower, upper)

-- what each value was read as has what every reading has
pub each_of-All : {A : Type 0} (f : Data → Option A) (P : A → Type 0)
    → ((d : Data) (x : A) → f d ≡ Some x → P x)
    → (ds : List Data) (xs : List A) → each_of f ds ≡ Some xs → All P xs
unfolding each_of
each_of-All f P each [] xs e = (let g : Some [] ≡ Some xs = e in let none : [] ≡ xs = cc in subst (All P) none (All-nil P))
each_of-All f P each (d ∷ ds) xs e =
    let (y, ys, first, rest, whole) = joined-parts (f d) (each_of f ds) xs e in
    subst (All P) (sym whole) (All-cons P y ys (each d y first) (each_of-All f P each ds ys rest))
