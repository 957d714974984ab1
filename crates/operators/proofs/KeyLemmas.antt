-- Keys that are seen in turn, and their places.
use Rattle.std.proofs.Common.{◌≡◌, ℕ, ◌+◌, ◌<◌, ◌≤◌, zero, suc, List, [], ◌∷◌, ◌++◌, length, take, map, get_or, All, Bool, true, false}
use Rattle.std.proofs.Common.{refl, sym, ap}
use Rattle.std.proofs.Common.{◌∙◌, Some, None, Vec, Global, append_assoc, subst, arith, inl, inr}
use Rattle.std.specs.Prelude.{◌||◌, ⊤, cond, fold, if◌then◌else◌, nat_eq, nat_lt, not, position, slice_get}
use Rattle.std.specs.Cmp.Lexicographic.{bytes_decides, nat_list_eq_equiv, pointwise}
use Rattle.std.specs.List.{list_any, prefix_len}
use Rattle.std.proofs.lemmas.Bool.{cases_Bool, false≢true}
use Rattle.std.proofs.lemmas.List.{append-nil, map-append, take_all, take_more}
use Rattle.std.proofs.lemmas.List.{get_or-map, length-map}
use Rattle.std.proofs.lemmas.List.Folds.{list_any-append}
use Rattle.std.proofs.lemmas.List.Quantifiers.{position-Some}
use Rattle.std.proofs.lemmas.Option.{slice_get-get_or}
use Rattle.std.proofs.lemmas.List.Elements.{All-append, All-cons, All-nil}
use Rattle.indexmap.specs.IndexSet.{insert_key}
use Rattle.query_model.specs.Cells.{printed}
use Rattle.query_model.specs.declared.cell.Cell.{Cell}
use Rattle.query_model.specs.declared.cell.Cell.TheVariants.{Text}
use Rattle.row_text.specs.Stored.{numbers}
use Rattle.operators.specs.Groups.{keys_seen, marked_texts}

abbrev pub Key : Type 0
Key = List ℕ

abbrev pub same_key : Key → Key → Bool
same_key = pointwise nat_eq

-- one key more in turn
fold-append : {X Y : Type 0} (f : Y → X → Y) (start : Y) (xs ys : List X) → fold f start (xs ++ ys) ≡ fold f (fold f start xs) ys
fold-append f start [] ys = refl
fold-append f start (x ∷ xs) ys = fold-append f (f start x) xs ys

-- keys in two turns
pub seen-append : (keys some more : List Key) → keys_seen keys (some ++ more) ≡ keys_seen (keys_seen keys some) more
seen-append keys some more = fold-append (insert_key same_key) keys some more

left-get : {X : Type 0} (xs ys : List X) (p : ℕ) (x : X) → slice_get xs p ≡ Some x → slice_get (xs ++ ys) p ≡ Some x
left-get [] ys p x e = cc e
left-get (a ∷ xs) ys zero x e = e
left-get (a ∷ xs) ys (suc p) x e = left-get xs ys p x e

-- a key stays at its place
pub insert-keeps : (keys : List Key) (key : Key) (p : ℕ) (k : Key) → slice_get keys p ≡ Some k → slice_get
    (insert_key same_key keys key) p ≡ Some k
insert-keeps keys key p k e = by (list_any (same_key key) keys) where
  by : (b : Bool) → slice_get (if b then keys else keys ++ key ∷ []) p ≡ Some k
  by true = e
  by false = left-get keys (key ∷ []) p k e

kept-places : (mid new : List Key) → ((p : ℕ) (k : Key) → slice_get mid p ≡ Some k → slice_get new p ≡ Some k) → (places : List ℕ)
    (list : List Key) → map (slice_get mid) places ≡ map Some list → map (slice_get new) places ≡ map Some list
kept-places mid new keeps [] [] e = refl
kept-places mid new keeps [] (k ∷ list) e = cc e
kept-places mid new keeps (p ∷ places) [] e = cc e
kept-places mid new keeps (p ∷ places) (k ∷ list) e =
    let first : slice_get mid p ≡ Some k = cc e in
    let rest : map (slice_get mid) places ≡ map Some list = cc e in
    let there = keeps p k first in
    let others = kept-places mid new keeps places list rest in
    λ i. there i ∷ others i

-- the first keys of a list were seen, and each is at its place
pub record ArePlaced (old new list : List Key) (places : List ℕ) (i : ℕ) : Type 0 where
  pub keys : new ≡ keys_seen old (take i list)
  pub found : map (slice_get new) places ≡ map Some (take i list)

pub ArePlaced-none : (old list : List Key) → ArePlaced old old list [] 0
ArePlaced-none old list = record { keys = refl; found = refl }

pub ArePlaced-one : (old mid new list : List Key) (places places2 : List ℕ) (i p : ℕ) (key : Key) → ArePlaced old mid list places i
    → i < length list → key ≡ get_or list i [] → new ≡ insert_key same_key mid key → slice_get new p ≡ Some key
    → places2 ≡ places ++ p ∷ [] → ArePlaced old new list places2 (i + 1)
ArePlaced-one old mid new list places places2 i p key before within is after there pushed =
    let more : take (i + 1) list ≡ take i list ++ key ∷ [] = take_more list i [] within ∙ ap (λ k. take i list ++ k ∷ []) (sym is) in
    let keeps = λ (q : ℕ) (k : Key) (e : slice_get mid q ≡ Some k). subst (λ ks. slice_get ks q ≡ Some k) (sym after)
    (insert-keeps mid key q k e) in
    record {
      keys = after ∙ ap (λ ks. insert_key same_key ks key) before.keys ∙ sym (seen-append old (take i list) (key ∷ []))
          ∙ ap (keys_seen old) (sym more);
      found = ap (map (slice_get new)) pushed ∙ map-append (slice_get new) places (p ∷ [])
          ∙ (λ k. kept-places mid new keeps places (take i list) before.found k ++ there k ∷ [])
          ∙ sym (map-append Some (take i list) (key ∷ [])) ∙ ap (map Some) (sym more);
    }

pub ArePlaced-all : (old new list : List Key) (places : List ℕ) (i : ℕ) → ArePlaced old new list places i → length list ≤ i
    → (new ≡ keys_seen old list) × (map (slice_get new) places ≡ map Some list)
ArePlaced-all old new list places i are behind =
    let all = take_all i list behind in
    (are.keys ∙ ap (keys_seen old) all, are.found ∙ ap (map Some) all)

-- what keys have, when one is among them
pub All-insert : (P : Key → Type 0) (keys : List Key) (key : Key) → All P keys → P key → All P (insert_key same_key keys key)
All-insert P keys key all one = by (list_any (same_key key) keys) where
  by : (b : Bool) → All P (if b then keys else keys ++ key ∷ [])
  by true = all
  by false = All-append P keys (key ∷ []) all (All-cons P key [] one (All-nil P))

any-map : {X Y : Type 0} (p : Y → Bool) (f : X → Y) (xs : List X) → list_any p (map f xs) ≡ list_any (λ x. p (f x)) xs
any-map p f [] = refl
any-map p f (x ∷ xs) = ap (λ b. p (f x) || b) (any-map p f xs)

-- a key goes into a set as it goes among the bytes of its keys
pub insert-seen : (keys : List (Vec ℕ Global)) (key : Vec ℕ Global)
    → map (λ k. k.items) (insert_key (λ a b. same_key a.items b.items) keys key)
    ≡ insert_key same_key (map (λ k. k.items) keys) key.items
insert-seen keys key =
    by (list_any (λ k. same_key key.items k.items) keys) ∙ ap (λ b. if b then map (λ k. k.items) keys else map
    (λ k. k.items) keys ++ key.items ∷ [])
    (sym (any-map (same_key key.items) (λ k. k.items) keys)) where
      by : (b : Bool) → map (λ k. k.items) (if b then keys else keys ++ key ∷ []) ≡ (if b then map (λ k. k.items) keys else map
          (λ k. k.items) keys ++ key.items ∷ [])
      by true = refl
      by false = map-append (λ k. k.items) keys (key ∷ [])

-- no key is there twice
unfoldable pub Different : List Key → Type 0
Different [] = ⊤
Different (key ∷ keys) = (list_any (same_key key) keys ≡ false) × Different keys

pub key-swap : (a b : Key) → same_key a b ≡ same_key b a
key-swap a b = nat_list_eq_equiv.symm a b

any-append : {X : Type 0} (p : X → Bool) (xs ys : List X) → list_any p (xs ++ ys) ≡ (list_any p xs || list_any p ys)
any-append p xs ys = list_any-append p xs ys

pub or-false : (a b : Bool) → (a || b) ≡ false → (a ≡ false) × (b ≡ false)
or-false true b e = absurd (false≢true (sym e))
or-false false b e = (refl, e)

last-different : (key : Key) (keys : List Key) → Different keys → list_any (same_key key) keys ≡ false → Different (keys ++ key ∷ [])
unfolding Different
last-different key [] d none = (refl, tt)
last-different key (k ∷ ks) d none =
    let both = or-false (same_key key k) (list_any (same_key key) ks) none in (
      any-append (same_key k) ks (key ∷ []) ∙ (λ i. d.0 i || (key-swap k key i || false)) ∙ ap (λ b. b || false) both.0,
      last-different key ks d.1 both.1,
    )

insert-different : (keys : List Key) (key : Key) → Different keys → Different (insert_key same_key keys key)
insert-different keys key different = elim (cases_Bool (list_any (same_key key) keys)) [
  | inl there ↦ subst Different (sym (ap (λ b. if b then keys else keys ++ key ∷ []) there)) different
  | inr not_there ↦
      subst Different (sym (ap (λ b. if b then keys else keys ++ key ∷ []) not_there)) (last-different key keys different not_there)
]

-- keys that are seen in turn differ
pub seen-different : (keys more : List Key) → Different keys → Different (keys_seen keys more)
seen-different keys [] different = different
seen-different keys (key ∷ more) different =
    seen-different (insert_key same_key keys key) more (insert-different keys key different)

pub none-different : Different []
unfolding Different
none-different = tt

insert-has : (k : Key) (keys : List Key) (key : Key) → list_any (same_key k) (insert_key same_key keys key) ≡ (list_any
    (same_key k) keys || same_key k key)
insert-has k keys key = elim (cases_Bool (list_any (same_key key) keys)) [
  | inl there ↦ ap (λ b. list_any (same_key k) (if b then keys else keys ++ key ∷ [])) there ∙ sym (covered there)
  | inr not_there ↦
      ap (λ b. list_any (same_key k) (if b then keys else keys ++ key ∷ [])) not_there ∙ any-append (same_key k) keys (key ∷ [])
      ∙ ap (λ b. list_any (same_key k) keys || b) (or-none (same_key k key))
] where
  or-none : (b : Bool) → (b || false) ≡ b
  or-none true = refl
  or-none false = refl

  or-true : (b : Bool) → (b || true) ≡ true
  or-true true = refl
  or-true false = refl

  covered : list_any (same_key key) keys ≡ true → (list_any (same_key k) keys || same_key k key) ≡ list_any (same_key k) keys
  covered there = elim (cases_Bool (same_key k key)) [
    | inl same ↦
        let is : k ≡ key = (bytes_decides k key).0 same in
        let has : list_any (same_key k) keys ≡ true = ap (λ one. list_any (same_key one) keys) is ∙ there in
        ap (λ b. list_any (same_key k) keys || b) same ∙ or-true (list_any (same_key k) keys) ∙ sym has
    | inr other ↦ ap (λ b. list_any (same_key k) keys || b) other ∙ or-none (list_any (same_key k) keys)
  ]

-- keys that are seen in turn are those that were there and those that are seen
pub seen-has : (k : Key) (keys more : List Key) → list_any (same_key k) (keys_seen keys more) ≡ (list_any (same_key k) keys || list_any
    (same_key k) more)
seen-has k keys [] = sym (or-none (list_any (same_key k) keys)) where
  or-none : (b : Bool) → (b || false) ≡ b
  or-none true = refl
  or-none false = refl
seen-has k keys (key ∷ more) =
    seen-has k (insert_key same_key keys key) more ∙ ap (λ b. b || list_any (same_key k) more) (insert-has k keys key)
    ∙ or-assoc (list_any (same_key k) keys) (same_key k key) (list_any (same_key k) more) where
      or-assoc : (a b c : Bool) → ((a || b) || c) ≡ (a || (b || c))
      or-assoc true b c = refl
      or-assoc false b c = refl

-- keys that are seen come behind those that were there, and are others
pub record ComeBehind (keys new : List Key) : Type 0 where
  pub extra : List Key
  pub order : new ≡ keys ++ extra
  pub others : All (λ k. list_any (same_key k) keys ≡ false) extra

pub seen-behind : (keys more : List Key) → ComeBehind keys (keys_seen keys more)
seen-behind keys [] = record { extra = []; order = sym (append-nil keys); others = All-nil _ }
seen-behind keys (key ∷ more) = elim (cases_Bool (list_any (same_key key) keys)) [
  | inl there ↦
      subst (λ list. ComeBehind keys (keys_seen list more)) (sym (ap (λ b. if b then keys else keys ++ key ∷ []) there))
      (seen-behind keys more)
  | inr not_there ↦
      subst (λ list. ComeBehind keys (keys_seen list more)) (sym (ap (λ b. if b then keys else keys ++ key ∷ []) not_there))
      (after not_there (seen-behind (keys ++ key ∷ []) more))
] where
  first : (a b : Bool) → (a || b) ≡ false → a ≡ false
  first true b e = absurd (false≢true (sym e))
  first false b e = refl

  after : list_any (same_key key) keys ≡ false → ComeBehind (keys ++ key ∷ []) (keys_seen (keys ++ key ∷ []) more)
      → ComeBehind keys (keys_seen (keys ++ key ∷ []) more)
  after not_there rest = record {
    extra = key ∷ rest.extra;
    order = rest.order ∙ append_assoc keys (key ∷ []) rest.extra;
    others = All-cons (λ k. list_any (same_key k) keys ≡ false) key rest.extra not_there
        (λ i d within. first (list_any (same_key (get_or rest.extra i d)) keys) (list_any (same_key (get_or rest.extra i d)) (key ∷ []))
        (sym (any-append (same_key (get_or rest.extra i d)) keys (key ∷ [])) ∙ rest.others i d within));
  }

len-map : {X Y : Type 0} (p : Y → Bool) (f : X → Y) (xs : List X) → prefix_len p (map f xs) ≡ prefix_len (λ x. p (f x)) xs
len-map p f [] = refl
len-map p f (x ∷ xs) = ap (λ n. cond (p (f x)) (1 + n) 0) (len-map p f xs)

any-at : (p : Key → Bool) (keys : List Key) (i : ℕ) (d : Key) → i < length keys → p (get_or keys i d) ≡ true → list_any p keys ≡ true
any-at p [] i d within pass = absurd (omega arith)
any-at p (k ∷ keys) zero d within pass = ap (λ b. b || list_any p keys) pass
any-at p (k ∷ keys) (suc i) d within pass = ap (λ b. p k || b) (any-at p keys i d (omega arith) pass) ∙ or-true (p k) where
  or-true : (b : Bool) → (b || true) ≡ true
  or-true true = refl
  or-true false = refl

-- a key that is there already, at its place
pub found-key : (keys : List (Vec ℕ Global)) (key : Key) (p : ℕ) → Some p ≡ position (λ k. same_key key k.items) keys
    → (map (λ k. k.items) keys ≡ insert_key same_key (map (λ k. k.items) keys) key) × (slice_get (map (λ k. k.items) keys) p ≡ Some key)
found-key keys key p is =
    let seen : List Key = map (λ k. k.items) keys in
    let long = length-map keys (λ k. k.items) in
    let same : position (same_key key) seen ≡ position (λ k. same_key key k.items) keys =
    (λ i. cond (nat_lt (len-map (λ k. not (same_key key k)) (λ k. k.items) keys i) (long i))
    (Some (len-map (λ k. not (same_key key k)) (λ k. k.items) keys i)) None) in
    let at = position-Some (same_key key) seen p [] (same ∙ sym is) in
    let there = slice_get-get_or seen p [] at.0 in
    let is_key : key ≡ get_or seen p [] = (bytes_decides key (get_or seen p [])).0 at.1 in (
      sym (ap (λ b. if b then seen else seen ++ key ∷ []) (any-at (same_key key) seen p [] at.0 at.1)),
      there ∙ ap Some (sym is_key),
    )

-- a key that was put there
pub put-key : (keys : List (Vec ℕ Global)) (key k : Vec ℕ Global) (p : ℕ) → slice_get keys p ≡ Some k → same_key key.items k.items ≡ true
    → slice_get (map (λ one. one.items) keys) p ≡ Some key.items
put-key [] key k p there same = cc there
put-key (first ∷ keys) key k zero there same =
    let is : first ≡ k = cc there in
    ap (λ one. Some one.items) is ∙ ap Some (sym ((bytes_decides key.items k.items).0 same))
put-key (first ∷ keys) key k (suc p) there same = put-key keys key k p there same

-- the texts of numbers that are cells
pub marked-printed : {N : Type 0} (make : N → Cell) (text : N → Key) → ((n : N) → printed (make n) ≡ text n) → (values : List N)
    (known : List Bool)
    → marked_texts text values known ≡ map printed (numbers make values known)
unfolding marked_texts numbers
marked-printed make text is [] known = refl
marked-printed make text is (v ∷ vs) [] = refl
marked-printed make text is (v ∷ vs) (true ∷ ms) =
    (λ i. sym (is v) i ∷ marked-printed make text is vs ms i)
marked-printed make text is (v ∷ vs) (false ∷ ms) = ap (λ rest. [] ∷ rest) (marked-printed make text is vs ms)

pub marked-at : {N : Type 0} (text : N → Key) (values : List N) (known : List Bool) (i : ℕ) (d : N) → length values ≡ length known
    → i < length values → (if get_or known i false then text (get_or values i d) else []) ≡ get_or (marked_texts text values known) i []
unfolding marked_texts
marked-at text [] known i d same within = absurd (omega arith)
marked-at text (v ∷ vs) [] i d same within = absurd (omega arith)
marked-at text (v ∷ vs) (m ∷ ms) zero d same within = refl
marked-at text (v ∷ vs) (m ∷ ms) (suc i) d same within = marked-at text vs ms i d (omega arith) (omega arith)

pub marked-long : {N : Type 0} (text : N → Key) (values : List N) (known : List Bool) → length values ≡ length known
    → length (marked_texts text values known) ≡ length values
unfolding marked_texts
marked-long text [] known same = refl
marked-long text (v ∷ vs) [] same = absurd (omega arith)
marked-long text (v ∷ vs) (m ∷ ms) same = ap suc (marked-long text vs ms (omega arith))

pub texts-printed : (texts : List Key) → texts ≡ map printed (map Text texts)
texts-printed [] = refl
texts-printed (text ∷ texts) = ap (λ rest. text ∷ rest) (texts-printed texts)

-- the bytes of a key of a set
pub seen-key : (keys slice : List (Vec ℕ Global)) (seen : List Key) (p : ℕ) (k : Vec ℕ Global) → slice ≡ keys → map
    (λ one. one.items) keys ≡ seen
    → p < length seen → k ≡ get_or slice p k → k.items ≡ get_or seen p []
seen-key keys slice seen p k lent view within is =
    let long = ap length view in
    let size = length-map keys (λ one. one.items) in
    let inside : p < length keys = omega (arith, long, size, within) in
    ap (λ one. one.items) (is ∙ ap (λ list. get_or list p k) lent) ∙ sym (get_or-map (λ one. one.items) keys p k [] inside)
    ∙ ap (λ list. get_or list p []) view
