-- Which allocators are open, and who uses them.
use Rattle.std.proofs.Common.{◌≡◌, ℕ, zero, suc, ◌+◌, ◌<◌, ◌≤◌, List, [], ◌∷◌, ◌++◌, map, length, get_or, Bool, true, false, not, ◌&&◌, cond, eqb, refl, ap, ◌∙◌, arith, All, AllPairs, Any, inl, inr, count_by, length-append}
use Rattle.std.proofs.lemmas.Bool.{cases_Bool, and_parts, not-true, eqb-true, eq-eqb}
use Rattle.std.proofs.lemmas.List.{get_or-map, length-map}
use Rattle.std.proofs.lemmas.List.Elements.{All-head, All-tail, All-map}
use Rattle.std.proofs.lemmas.List.Sums.{sum_by-cons, get_or-le-sum_by}
use Rattle.std.proofs.Math.ListN.{get_or-append}
use Rattle.mem_num.specs.declared.alloc_id.AllocId.{AllocId}
use Rattle.mem_model.specs.declared.tree_node.TreeNode.{TreeNode}

-- whether a node is the allocator n, and open
abbrev pub is_open_at : ℕ → TreeNode → Bool
is_open_at n node = eqb node.number.0 n && not node.closed

-- then it has that number, and isn't closed
pub open_parts : (n : ℕ) (node : TreeNode) → is_open_at n node ≡ true → (node.number.0 ≡ n) × (node.closed ≡ false)
open_parts n node h =
    let parts = and_parts (eqb node.number.0 n) (not node.closed) h in
    (eqb-true node.number.0 n parts.0, not-true node.closed parts.1)

-- and such a node is it
pub open_from : (n : ℕ) (node : TreeNode) → node.number.0 ≡ n → node.closed ≡ false → is_open_at n node ≡ true
open_from n node number open_ = rw (eq-eqb node.number.0 n number, open_) refl

-- an identifier is its number
abbrev id_of : ℕ → AllocId
id_of n = record { 0 = n }

-- identifiers of one number are the same
pub same_id : (a b : AllocId) → a.0 ≡ b.0 → a ≡ b
same_id a b e = ap id_of e

-- what is found stays found in a longer list
pub Any-more : {X : Type 0} (P : X → Type 0) (xs ys : List X) → Any P xs → Any P (xs ++ ys)
Any-more P xs ys h = (h.0, h.1, omega (arith, h.2, length-append xs ys), get_or-append xs ys h.1 h.0 h.2 ∙ h.3, h.4)

-- what is found stands in the list of images too
pub Any-map : {X Y : Type 0} (P : X → Type 0) (Q : Y → Type 0) (f : X → Y) (xs : List X) → ((x : X) → P x → Q (f x)) → Any P xs → Any Q (map f xs)
Any-map P Q f xs each h =
    (h.0, f h.1, omega (arith, h.2, length-map xs f), get_or-map f xs h.0 h.1 (f h.1) h.2 ∙ ap f h.3, each h.1 h.4)

-- what holds at any two holds of the first with each later one
pub pairs_head : {X : Type 0} (R : X → X → Type 0) (x : X) (xs : List X) → AllPairs R (x ∷ xs) → All (R x) xs
pairs_head R x xs h k d within = h 0 (suc k) d (omega arith) (omega arith)

-- what holds at any two holds behind the first
pub pairs_tail : {X : Type 0} (R : X → X → Type 0) (x : X) (xs : List X) → AllPairs R (x ∷ xs) → AllPairs R xs
pairs_tail R x xs h i j d lt within = h (suc i) (suc j) d (omega arith) (omega arith)

-- what holds at any two, and of one before them with each, holds at any two of all
pairs_cons : {X : Type 0} (R : X → X → Type 0) (x : X) (xs : List X) → All (R x) xs → AllPairs R xs → AllPairs R (x ∷ xs)
pairs_cons R x xs first rest zero zero d lt within = absurd (omega arith)
pairs_cons R x xs first rest zero (suc j) d lt within = first j d (omega arith)
pairs_cons R x xs first rest (suc i) zero d lt within = absurd (omega arith)
pairs_cons R x xs first rest (suc i) (suc j) d lt within = rest i j d (omega arith) (omega arith)

-- what holds at any two images
pub AllPairs-map : {X Y : Type 0} (R : Y → Y → Type 0) (f : X → Y) (xs : List X) → AllPairs (λ a b. R (f a) (f b)) xs → AllPairs R (map f xs)
AllPairs-map R f [] h = λ i j d lt within. absurd (omega arith)
AllPairs-map R f (x ∷ xs) h =
    pairs_cons R (f x) (map f xs) (All-map (R (f x)) f xs (pairs_head (λ a b. R (f a) (f b)) x xs h)) (AllPairs-map R f xs (pairs_tail (λ a b. R (f a) (f b)) x xs h))

-- numbers that rise, from low on and below high, are at most high - low
pub length-rising : {X : Type 0} (f : X → ℕ) (low high : ℕ) (xs : List X) → AllPairs (λ a b. f a < f b) xs → All (λ x. low ≤ f x) xs → All (λ x. f x < high) xs → low ≤ high → length xs + low ≤ high
length-rising f low high [] rises above below order = omega arith
length-rising f low high (x ∷ xs) rises above below order =
    let first : f x < high = All-head (λ y. f y < high) x xs below in
    let least : low ≤ f x = All-head (λ y. low ≤ f y) x xs above in
    let later : All (λ y. f x < f y) xs = pairs_head (λ a b. f a < f b) x xs rises in
    let next : All (λ y. f x + 1 ≤ f y) xs = λ k d within. omega (arith, later k d within) in
    let rest = length-rising f (f x + 1) high xs (pairs_tail (λ a b. f a < f b) x xs rises) next (All-tail (λ y. f y < high) x xs below) (omega arith) in
    omega (arith, rest, least)

-- a count of 0 finds none
pub none_counted : {X : Type 0} (p : X → Bool) (xs : List X) → count_by p xs ≡ 0 → All (λ x. p x ≡ false) xs
none_counted p xs none k d within =
    let le = get_or-le-sum_by (λ x. cond (p x) 1 0) xs k d within in
    elim (cases_Bool (p (get_or xs k d))) [
      | inl passes ↦ (let one = rw passes at le in absurd (omega (arith, one, none)))
      | inr fails ↦ fails
    ]

-- and where there is none, the count is 0
pub count_none : {X : Type 0} (p : X → Bool) (xs : List X) → All (λ x. p x ≡ false) xs → count_by p xs ≡ 0
count_none p [] none = refl
count_none p (x ∷ xs) none =
    let first : ◌≡◌ {A = ℕ} (cond (p x) 1 0) 0 = rw (All-head (λ y. p y ≡ false) x xs none) refl in
    omega (arith, first, sum_by-cons (λ y. cond (p y) 1 0) x xs, count_none p xs (All-tail (λ y. p y ≡ false) x xs none))
