-- Who refers to a chunk, over its ledgers.
use Rattle.std.proofs.Common.{◌≡◌, ℕ, zero, suc, ◌+◌, ◌<◌, ◌≤◌, ◌==◌, ◌&&◌, ◌||◌, List, [], ◌∷◌, length, get_or, Bool, true, nat_lt, refl, sym, ap, subst, ◌∙◌, arith, zero-add, inl, inr, All, AllPairs, Some}
use Rattle.std.specs.List.{list_any, find}
use Rattle.std.proofs.lemmas.Bool.{cond-true, eq-eqb, ne_eqb, cases_eq, cases_Bool, lt-ltb, ltb-true, eqb-true, and_parts}
use Rattle.std.proofs.lemmas.List.Sums.{sum_by-cons, get_or-le-sum_by}
use Rattle.mem_model.specs.declared.ledger.Ledger.{Ledger}
use Rattle.mem_model.specs.Chunk.{Chunk, has_ledger}
use Rattle.mem_model.specs.Ledgers.{count_at, count_of}
use Rattle.mem_model.specs.LedgerPlace.{place_in, IsLedgerAt}
use Rattle.mem_model.specs.TreeState.{TreeState, is_open}
use Rattle.mem_model.specs.LawfulChunk.{IsLawfulChunk}
use Rattle.mem_model.specs.LawfulState.{IsLawfulState}
use Rattle.mem_model.specs.References.{refers_to, referred_chunk}
use Rattle.mem_num.specs.declared.buffer_ref.Ref.{Ref}
use Rattle.std.proofs.lemmas.List.Elements.{All-head, All-tail}
use Rattle.mem_model.proofs.OpenLemmas.{pairs_head, pairs_tail}
use Rattle.mem_model.proofs.LedgerCountLemmas.{place_in-found}

-- whether a ledger is of the allocator n, and has a reference
abbrev is_of : ℕ → Ledger → Bool
is_of n ledger = (ledger.at.0 == n) && nat_lt 0 ledger.count

-- a sum is positive where a part of it is
positive-add : (a b : ℕ) → nat_lt 0 (a + b) ≡ (nat_lt 0 a || nat_lt 0 b)
positive-add zero b = ap (nat_lt 0) (zero-add b)
positive-add (suc a) b = lt-ltb 0 (suc a + b) (omega arith) ∙ sym (ap (λ c. c || nat_lt 0 b) (lt-ltb 0 (suc a) (omega arith)))

-- one ledger more
is_of-counts : (n m : ℕ) (x : Ledger) → nat_lt 0 (count_at n x + m) ≡ (is_of n x || nat_lt 0 m)
is_of-counts n m x = elim (cases_eq x.at.0 n) [
  | inl same ↦ rw (eq-eqb x.at.0 n same) (positive-add x.count m)
  | inr other ↦ rw (ne_eqb x.at.0 n other) (ap (nat_lt 0) (zero-add m))
]

-- an allocator has a reference where it has a ledger with one
pub any_counts : (n : ℕ) (xs : List Ledger) → list_any (is_of n) xs ≡ nat_lt 0 (count_of xs n)
any_counts n [] = refl
any_counts n (x ∷ xs) =
    ap (λ b. is_of n x || b) (any_counts n xs)
    ∙ sym (ap (nat_lt 0) (sum_by-cons (count_at n) x xs) ∙ is_of-counts n (count_of xs n) x)

-- a ledger is counted for its allocator
pub ledger-counted : (xs : List Ledger) (k : ℕ) (d : Ledger) → All (λ ledger. 1 ≤ ledger.count) xs → k < length xs → 1 ≤ count_of xs (get_or xs k d).at.0
ledger-counted xs k d counted within =
    let x = get_or xs k d in
    let own : count_at x.at.0 x ≡ x.count = cond-true (x.at.0 == x.at.0) x.count 0 (eq-eqb x.at.0 x.at.0 refl) in
    let among : count_at x.at.0 x ≤ count_of xs x.at.0 = get_or-le-sum_by (count_at x.at.0) xs k d within in
    let some : 1 ≤ x.count = counted k d within in
    omega arith

-- whoever refers to a chunk is open
pub referrer_open : (state : TreeState) (chunk : Chunk) (n : ℕ) → IsLawfulChunk (is_open state) chunk → 1 ≤ count_of chunk.ledgers n → is_open state n ≡ true
referrer_open state chunk n lawful some =
    let place = place_in chunk.ledgers n in
    let found : IsLedgerAt chunk.ledgers n place = place_in-found chunk.ledgers n lawful.in_order some in
    let d : Ledger = record { at = record { 0 = n }; count = 0 } in
    subst (λ (ledger : Ledger). is_open state ledger.at.0 ≡ true) (found.ledger d) (lawful.open_ place d found.within)

-- the owner is open
pub owner_open : (state : TreeState) (chunk : Chunk) → IsLawfulChunk (is_open state) chunk → is_open state chunk.owner.0 ≡ true
owner_open state chunk lawful = referrer_open state chunk chunk.owner.0 lawful lawful.owner

-- what a search finds is of the list, and passes
pub found : {X : Type 0} (P : X → Type 0) (test : X → Bool) (xs : List X) (x : X) → All P xs → find test xs ≡ Some x → P x × (test x ≡ true)
found P test [] x all is = absurd cc
found P test (y ∷ ys) x all is = elim (cases_Bool (test y)) [
  | inl pass ↦ let here : find test (y ∷ ys) ≡ Some y = rw pass refl in
      let same : Some y ≡ Some x = sym here ∙ is in
      let equal : y ≡ x = cc in
      (subst P equal (All-head P y ys all), subst (λ z. test z ≡ true) equal pass)
  | inr fail ↦ let later : find test (y ∷ ys) ≡ find test ys = rw fail refl in
      found P test ys x (All-tail P y ys all) (sym later ∙ is)
]

-- the chunk of a reference is lawful, and its allocator refers to it
pub referred_lawful : (state : TreeState) (of : Ref) (chunk : Chunk) → IsLawfulState state → referred_chunk state of ≡ Some chunk → IsLawfulChunk (is_open state) chunk × (1 ≤ count_of chunk.ledgers of.alloc.0)
referred_lawful state of chunk lawful is =
    let both = found (IsLawfulChunk (is_open state)) (refers_to of) state.chunks chunk lawful.chunks is in
    let parts = and_parts (chunk.number == of.chunk) (has_ledger of.alloc.0 chunk) both.1 in
    (both.0, ltb-true 0 (count_of chunk.ledgers of.alloc.0) parts.1)

-- and it has the reference's number
pub referred_number : (state : TreeState) (of : Ref) (chunk : Chunk) → IsLawfulState state → referred_chunk state of ≡ Some chunk → chunk.number ≡ of.chunk
referred_number state of chunk lawful is =
    let both = found (IsLawfulChunk (is_open state)) (refers_to of) state.chunks chunk lawful.chunks is in
    eqb-true chunk.number of.chunk (and_parts (chunk.number == of.chunk) (has_ledger of.alloc.0 chunk) both.1).0

-- a search finds what passes where the earlier ones that pass another test pass it too
find_stronger : {X : Type 0} (weak strong : X → Bool) (R : X → X → Type 0) (xs : List X) (x : X) → AllPairs R xs → ((a b : X) → R a b → weak a ≡ true → weak b ≡ true → ⊥) → ((a : X) → strong a ≡ true → weak a ≡ true)
    → find strong xs ≡ Some x → find weak xs ≡ Some x
find_stronger weak strong R [] x pairs apart stronger is = absurd cc
find_stronger weak strong R (y ∷ ys) x pairs apart stronger is = elim (cases_Bool (strong y)) [
  | inl pass ↦ let here : find strong (y ∷ ys) ≡ Some y = rw pass refl in
      let there : find weak (y ∷ ys) ≡ Some y = rw (stronger y pass) refl in
      there ∙ (sym here ∙ is)
  | inr fail ↦ let later : find strong ys ≡ Some x = (let skip : find strong (y ∷ ys) ≡ find strong ys = rw fail refl in sym skip ∙ is) in
      elim (cases_Bool (weak y)) [
        | inl also ↦ let both = found (R y) strong ys x (pairs_head R y ys pairs) later in absurd (apart y x both.0 also (stronger x both.1))
        | inr neither ↦ let skip : find weak (y ∷ ys) ≡ find weak ys = rw neither refl in
            skip ∙ find_stronger weak strong R ys x (pairs_tail R y ys pairs) apart stronger later
      ]
]

-- the chunk of a reference is the one of its number
pub referred_is_numbered : (state : TreeState) (of : Ref) (chunk : Chunk) → IsLawfulState state → referred_chunk state of ≡ Some chunk → find (λ c. c.number == of.chunk) state.chunks ≡ Some chunk
referred_is_numbered state of chunk lawful is =
    find_stronger (λ (c : Chunk). c.number == of.chunk) (refers_to of) (λ (older newer : Chunk). older.number < newer.number) state.chunks chunk lawful.in_order
    (λ a b before first second. let e₁ : a.number ≡ of.chunk = eqb-true a.number of.chunk first in let e₂ : b.number ≡ of.chunk = eqb-true b.number of.chunk second in omega arith)
    (λ a both. (and_parts (a.number == of.chunk) (has_ledger of.alloc.0 a) both).0) is
