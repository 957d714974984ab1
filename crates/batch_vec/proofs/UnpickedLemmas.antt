-- Numbers that are left once some were picked.
use Rattle.std.proofs.Common.{◌≡◌, ℕ, zero, suc, ◌+◌, ◌*◌, ◌<◌, ◌≤◌, Bool, true, false, List, [], ◌∷◌, ◌++◌, length, take, drop, get_or, refl, sym, ◌∙◌, ap}
use Rattle.std.proofs.Common.{arith, subst, All, true≢false}
use Rattle.std.proofs.Math.Numerals.{add-one}
use Rattle.std.proofs.Math.Seq.{drop-cons}
use Rattle.std.proofs.lemmas.Bool.Decides.{nat_tests}
use Rattle.std.proofs.lemmas.Bool.{cases_lt, eqb-true}
use Rattle.std.proofs.lemmas.List.{length-append, length-drop, length-take-le, take-append-drop}
use Rattle.std.proofs.lemmas.List.Elements.{All-cons, All-nil}
use Rattle.std.proofs.lemmas.List.Folds.{list_any-append, list_any_at}
use Rattle.std.specs.Prelude.{Option, Some, None, nat_eq, nat_lt, ⊤, not, ◌&&◌, ◌||◌, ◌==◌, filter}
use Rattle.std.proofs.lemmas.List.Quantifiers.{position-Some}
use Rattle.std.specs.List.{list_any, position, position_or_len, range_with_len}
use Rattle.query_model.specs.Fit.{are_different}
use Rattle.query_model.specs.SequentialCalls.{unpicked}

-- numbers rise, each at least as great as this one
unfoldable pub Rises : ℕ → List ℕ → Type 0
Rises least [] = ⊤
Rises least (n ∷ ns) = (least ≤ n) × Rises (suc n) ns

-- and so at least as great as a smaller one
Rises-less : (less least : ℕ) (ns : List ℕ) → less ≤ least → Rises least ns → Rises less ns
unfolding Rises
Rises-less less least [] within rises = tt
Rises-less less least (n ∷ ns) within rises = (let first = rises.0 in omega (arith, within, first), rises.1)

pub Rises-range : (a k : ℕ) → Rises a (range_with_len a k)
unfolding Rises
Rises-range a zero = tt
Rises-range a (suc k) = (omega arith, subst (λ b. Rises (suc a) (range_with_len b k)) (sym (add-one a)) (Rises-range (suc a) k))

-- those that pass a test rise too
Rises-kept : (test : ℕ → Bool) (least n : ℕ) (ns : List ℕ) (passes : Bool) → test n ≡ passes → least ≤ n
    → Rises (suc n) (filter test ns) → Rises least (filter test (n ∷ ns))
unfolding Rises
Rises-kept test least n ns true passes within rest = rw passes (within, rest)
Rises-kept test least n ns false passes within rest =
    rw passes (Rises-less least (suc n) (filter test ns) (omega (arith, within)) rest)

pub Rises-filter : (test : ℕ → Bool) (least : ℕ) (ns : List ℕ) → Rises least ns → Rises least (filter test ns)
unfolding Rises
Rises-filter test least [] rises = tt
Rises-filter test least (n ∷ ns) rises =
    Rises-kept test least n ns (test n) refl rises.0 (Rises-filter test (suc n) ns rises.1)

-- each of them is at least as great
Rises-each : (least : ℕ) (ns : List ℕ) (i d : ℕ) → i < length ns → Rises least ns → least ≤ get_or ns i d
unfolding Rises
Rises-each least [] i d within rises = absurd (omega arith)
Rises-each least (n ∷ ns) zero d within rises = rises.0
Rises-each least (n ∷ ns) (suc i) d within rises =
    let first = rises.0 in
    let later = Rises-each (suc n) ns i d (omega arith) rises.1 in
    omega (arith, first, later)

-- a number below all of them is none of them
none_below : (p : ℕ) (ns : List ℕ) → Rises (suc p) ns → filter (λ n. not (p == n)) ns ≡ ns
unfolding Rises
none_below p [] rises = refl
none_below p (n ∷ ns) rises =
    let above = rises.0 in
    let other : (p == n) ≡ false = grind (arith, nat_tests, above) in
    rw other (ap (λ rest. n ∷ rest) (none_below p ns (Rises-less (suc p) (suc n) ns (omega (arith, above)) rises.1)))

-- without a number, rising numbers are those before it and those behind it
pub without_one : (p least : ℕ) (ns : List ℕ) (i : ℕ) → i < length ns → get_or ns i p ≡ p → Rises least ns
    → filter (λ n. not (p == n)) ns ≡ take i ns ++ drop (suc i) ns
unfolding Rises
without_one p least [] i within there rises = absurd (omega arith)
without_one p least (n ∷ ns) zero within there rises =
    let same : (p == n) ≡ true = grind (arith, nat_tests, there) in
    rw same (none_below p ns (subst (λ m. Rises (suc m) ns) there rises.1))
without_one p least (n ∷ ns) (suc i) within there rises =
    let later = Rises-each (suc n) ns i p (omega arith) rises.1 in
    let other : (p == n) ≡ false = grind (arith, nat_tests, later, there) in
    rw other (ap (λ rest. n ∷ rest) (without_one p (suc n) ns i (omega arith) there rises.1))

-- one more column is picked: of those that weren't, all are left but it
module _ (picks : List ℕ) (p : ℕ) where
  one_more : (n : ℕ) (ns : List ℕ) (a b : Bool) → list_any (λ pick. pick == n) picks ≡ a → (p == n) ≡ b
      → filter (λ n. not (list_any (λ pick. pick == n) (picks ++ p ∷ []))) ns
      ≡ filter (λ n. not (p == n)) (filter (λ n. not (list_any (λ pick. pick == n) picks)) ns)
      → filter (λ n. not (list_any (λ pick. pick == n) (picks ++ p ∷ []))) (n ∷ ns)
      ≡ filter (λ n. not (p == n)) (filter (λ n. not (list_any (λ pick. pick == n) picks)) (n ∷ ns))
  one_more n ns true b e f rest = rw (list_any-append (λ pick. pick == n) picks (p ∷ []), e) rest
  one_more n ns false true e f rest = rw (list_any-append (λ pick. pick == n) picks (p ∷ []), e, f) rest
  one_more n ns false false e f rest = rw (list_any-append (λ pick. pick == n) picks (p ∷ []), e, f) (ap (λ ms. n ∷ ms) rest)

  more : (ns : List ℕ) → filter (λ n. not (list_any (λ pick. pick == n) (picks ++ p ∷ []))) ns
      ≡ filter (λ n. not (p == n)) (filter (λ n. not (list_any (λ pick. pick == n) picks)) ns)
  more [] = refl
  more (n ∷ ns) = one_more n ns (list_any (λ pick. pick == n) picks) (p == n) refl refl (more ns)

  pub unpicked_more : (columns : ℕ) → unpicked columns (picks ++ p ∷ []) ≡ filter (λ n. not (p == n)) (unpicked columns picks)
  unpicked_more columns = more (range_with_len 0 columns)

-- the place that is found
pub index_found : (numbers : List ℕ) (number place : ℕ) → position (nat_eq number) numbers ≡ Some place
    → (place < length numbers) × (get_or numbers place number ≡ number)
index_found numbers number place found =
    let parts = position-Some (nat_eq number) numbers place number found in
    (parts.0, sym (eqb-true number (get_or numbers place number) parts.1))

-- none is missing that is there
there_within : (test : ℕ → Bool) (n : ℕ) (ns : List ℕ) (passes : Bool) → test n ≡ passes → list_any test (n ∷ ns) ≡ true
    → (list_any test ns ≡ true → position_or_len test ns < length ns) → position_or_len test (n ∷ ns) < length (n ∷ ns)
there_within test n ns true passes there rest = rw passes (omega arith)
there_within test n ns false passes there rest =
    let later : list_any test ns ≡ true = rw passes at there in
    let within = rest later in
    rw passes (omega (arith, within))

position_within : (test : ℕ → Bool) (ns : List ℕ) → list_any test ns ≡ true → position_or_len test ns < length ns
position_within test [] there = cc there
position_within test (n ∷ ns) there = there_within test n ns (test n) refl there (position_within test ns)

pub index_missing : (numbers : List ℕ) (number : ℕ) → position (nat_eq number) numbers ≡ None
    → list_any (nat_eq number) numbers ≡ true → ⊥
index_missing numbers number none there =
    let within = position_within (nat_eq number) numbers there in
    let test : nat_lt (position_or_len (nat_eq number) numbers) (length numbers) ≡ true = grind (arith, nat_tests, within) in
    let some : position (nat_eq number) numbers ≡ Some (position_or_len (nat_eq number) numbers) = rw test refl in
    cc (none, some)

-- those that are left rise
pub unpicked_rise : (columns : ℕ) (picks : List ℕ) → Rises 0 (unpicked columns picks)
unpicked_rise columns picks =
    Rises-filter (λ n. not (list_any (λ pick. pick == n) picks)) 0 (range_with_len 0 columns) (Rises-range 0 columns)

-- and are no more than there were
within_one : (picks : List ℕ) (columns n : ℕ) (ns : List ℕ) (passes : Bool) → not (list_any (λ pick. pick == n) picks) ≡ passes
    → n < columns → All (λ c. c < columns) (filter (λ n. not (list_any (λ pick. pick == n) picks)) ns)
    → All (λ c. c < columns) (filter (λ n. not (list_any (λ pick. pick == n) picks)) (n ∷ ns))
within_one picks columns n ns true passes within rest = rw passes (All-cons (λ c. c < columns) n _ within rest)
within_one picks columns n ns false passes within rest = rw passes rest

within_from : (picks : List ℕ) (columns a k : ℕ) → a + k ≤ columns
    → All (λ c. c < columns) (filter (λ n. not (list_any (λ pick. pick == n) picks)) (range_with_len a k))
within_from picks columns a zero within = All-nil _
within_from picks columns a (suc k) within =
    within_one picks columns a (range_with_len (a + 1) k) _ refl (omega (arith, within))
    (within_from picks columns (a + 1) k (omega (arith, within)))

pub unpicked_within : (columns : ℕ) (picks : List ℕ) → All (λ c. c < columns) (unpicked columns picks)
unpicked_within columns picks = within_from picks columns 0 columns (omega arith)

-- a number that wasn't picked is there
there_one : (picks : List ℕ) (p n : ℕ) (ns : List ℕ) (same passes : Bool) → (p == n) ≡ same
    → not (list_any (λ pick. pick == n) picks) ≡ passes → list_any (λ pick. pick == p) picks ≡ false
    → (same ≡ false → list_any (nat_eq p) (filter (λ n. not (list_any (λ pick. pick == n) picks)) ns) ≡ true)
    → list_any (nat_eq p) (filter (λ n. not (list_any (λ pick. pick == n) picks)) (n ∷ ns)) ≡ true
there_one picks p n ns true true same passes missing rest = rw passes (rw same refl)
there_one picks p n ns true false same passes missing rest =
    let is : p ≡ n = eqb-true p n same in
    let none : list_any (λ pick. pick == n) picks ≡ false = subst (λ m. list_any (λ pick. pick == m) picks ≡ false) is missing in
    absurd (true≢false (ap not (sym none) ∙ passes))
there_one picks p n ns false true same passes missing rest = rw passes (rw same (rest refl))
there_one picks p n ns false false same passes missing rest = rw passes (rest refl)

there_from : (picks : List ℕ) (p a k : ℕ) → a ≤ p → p < a + k → list_any (λ pick. pick == p) picks ≡ false
    → list_any (nat_eq p) (filter (λ n. not (list_any (λ pick. pick == n) picks)) (range_with_len a k)) ≡ true
there_from picks p a zero above below missing = absurd (omega (arith, above, below))
there_from picks p a (suc k) above below missing =
    there_one picks p a (range_with_len (a + 1) k) (p == a) _ refl refl missing (λ other.
    let past : a < p = grind (arith, nat_tests, other, above) in
    there_from picks p (a + 1) k (omega (arith, past)) (omega (arith, below)) missing)

pub unpicked_there : (columns : ℕ) (picks : List ℕ) (p : ℕ) → p < columns → list_any (λ pick. pick == p) picks ≡ false
    → list_any (nat_eq p) (unpicked columns picks) ≡ true
unpicked_there columns picks p within missing = there_from picks p 0 columns (omega arith) (omega (arith, within)) missing

-- one more number
range_more : (a n : ℕ) → range_with_len a (suc n) ≡ range_with_len a n ++ (a + n) ∷ []
range_more a zero = let same : a ≡ a + 0 = omega arith in ap (λ m. m ∷ []) same
range_more a (suc n) =
    let same : a + 1 + n ≡ a + suc n = omega arith in
    ap (λ rest. a ∷ rest) (range_more (a + 1) n ∙ ap (λ m. range_with_len (a + 1) n ++ m ∷ []) same)

pub numbers_pushed : (n : ℕ) (old new : List ℕ) → new ≡ old ++ n ∷ [] → old ≡ range_with_len 0 n → new ≡ range_with_len 0 (n + 1)
numbers_pushed n old new pushed before =
    let same : 0 + n ≡ n = omega arith in
    pushed ∙ (λ k. before k ++ sym same k ∷ []) ∙ sym (range_more 0 n) ∙ ap (range_with_len 0) (sym (add-one n))

-- nothing was picked, and all are left
all_pass : (ns : List ℕ) → filter (λ n. true) ns ≡ ns
all_pass [] = refl
all_pass (n ∷ ns) = ap (λ rest. n ∷ rest) (all_pass ns)

pub unpicked_none : (columns : ℕ) → range_with_len 0 columns ≡ unpicked columns []
unpicked_none columns = sym (all_pass (range_with_len 0 columns))

-- a number is itself
eqb-same : (n : ℕ) → (n == n) ≡ true
eqb-same n = grind (arith, nat_tests)

-- both of two tests pass
both_pass : (a b : Bool) → (a && b) ≡ true → (a ≡ true) × (b ≡ true)
both_pass true b passes = (refl, passes)
both_pass false b passes = absurd (true≢false (sym passes))

-- a pick of different ones is none of those before it
fresh_one : (p v : ℕ) (vs : List ℕ) (same : Bool) → (v == p) ≡ same → (same ≡ true → ⊥) → list_any (λ pick. pick == p) vs ≡ false
    → list_any (λ pick. pick == p) (v ∷ vs) ≡ false
fresh_one p v vs true same other rest = absurd (other refl)
fresh_one p v vs false same other rest = rw same rest

pub pick_fresh : (picks : List ℕ) (i : ℕ) → are_different nat_eq picks ≡ true → i < length picks
    → list_any (λ pick. pick == get_or picks i 0) (take i picks) ≡ false
unfolding are_different
pick_fresh [] i different within = absurd (omega arith)
pick_fresh (v ∷ vs) zero different within = refl
pick_fresh (v ∷ vs) (suc i) different within =
    let parts = both_pass _ _ different in
    let p = get_or vs i 0 in
    fresh_one p v (take i vs) (v == p) refl (λ same.
    let is : v ≡ p = eqb-true v p same in
    let found : list_any (λ other. other == v) vs ≡ true =
    list_any_at (λ other. other == v) vs i 0 (omega (arith, within)) (ap (λ n. p == n) is ∙ eqb-same p) in
    true≢false (sym parts.0 ∙ ap not found))
    (pick_fresh vs i parts.1 (omega (arith, within)))
