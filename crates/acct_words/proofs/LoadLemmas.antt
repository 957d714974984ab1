-- Loads, and the drawing of a number, which change no account.
use Rattle.std.proofs.Common.{◌≡◌, ℕ, ◌+◌, ◌%◌, ◌^◌, ◌<◌, ◌≤◌, Bool, true, false, cond, ◌==◌, List, [], ◌∷◌, ◌++◌, length, set}
use Rattle.std.proofs.Common.{slice_index, refl, sym, ap, ◌∙◌, subst, arith, sum_by, All, Some, mod-eq_of_lt, ne_eqb, get_or-set_same, get_or-set_other}
use mathlib.Core.Option as option
use mathlib.Core.Option.{some, none}
use lib.ListN.{get_elem?}
use Rattle.std.proofs.lemmas.List.{set-get_or}
use Rattle.std.proofs.lemmas.List.Elements.{All-head, All-tail, All-nil, All-cons, All-append}
use Rattle.std.proofs.lemmas.List.Sums.{sum-map, sum_by-append, sum_by-cons, sum_by_push}
use Rattle.atomic_table.specs.Table.{State, Me, Allows, step, keeps}
use Rattle.acct_core.specs.Claims.{Claim, account}
use Rattle.acct_core.specs.Lawful.{IsLawfulFixedTree}
use Rattle.acct_core.specs.Phases.{size_of}
use Rattle.acct_words.specs.Entries.StepKind.{LoadWord, DrawChunkNumber, ForgetChunk}
use Rattle.acct_words.specs.Entries.{StepKind, Entry, InHistory, size_begun, size_forgotten, reached, raised_to, draw_count, begun}
use Rattle.acct_words.specs.Views.{Start, Chunk, Body, View}
use Rattle.acct_words.specs.declared.fixed.Fixed.{Fixed}
use Rattle.acct_words.specs.declared.rule.Said.{Said}
use Rattle.acct_words.specs.Places.{number_word, peak_word}
use Rattle.acct_words.specs.Bodies.{nothing, of_view, made, numbered, chunk_sizes, bytes_left, turns_left}
use Rattle.acct_words.specs.Rows.{charges_of, claims_of, rows_of, fixed_in}
use Rattle.acct_words.specs.Moves.{drawing, reading, other_chunks, one_chunk}
use Rattle.acct_words.specs.Rule.{IsHistory, IsGoodChunk, IsGoodView, IsKnown, IsSoundTable, KnowsHistory}
use Rattle.acct_words.specs.Plays.{entry, stepping, known_at, parting_view, Draws, Reads, Parts}
use Rattle.acct_words.proofs.ViewLemmas.{at_most}
use Rattle.acct_words.proofs.RowLemmas.{rows_of-before, fixed_in-other}
use Rattle.acct_core.specs.SameClaims.{SameClaims}
use Rattle.acct_core.proofs.SameClaimsLemmas.{same_from, same_self, same_then, same_path, All-left, All-right}
use Rattle.acct_words.proofs.ClaimLemmas.{its_charges}
use Rattle.acct_words.proofs.AccountLemmas.{claims_move}
use Rattle.acct_words.proofs.KeptLemmas.{IsStep, step_legal, step_kept, good_longer, known_is, no_peak, peak_loaded}
use Rattle.acct_words.proofs.StepLemmas.{steps_more}

-- a step that leaves its word as it is, begins nothing and draws no number
pub record IsQuiet (act : StepKind) : Type 0 where
  pub begins : size_begun act ≡ 0
  pub draws : draw_count act ≡ 0
  pub reaches : (n : ℕ) → reached act n ≡ 0
  pub raises : raised_to act ≡ 0

-- a load is one
pub quiet_load : IsQuiet LoadWord
quiet_load = record { begins = refl; draws = refl; reaches = λ n. refl; raises = refl }

-- and so is the forgetting of a chunk
pub quiet_forget : (size : ℕ) → IsQuiet (ForgetChunk size)
quiet_forget size = record { begins = refl; draws = refl; reaches = λ n. refl; raises = refl }

-- such a step, which may change the token's own view
module _ (start : Start) (s : State Said View) (homes : List (option.Option Said)) (id : ℕ) (v w : View) (k : IsSoundTable start s)
    (at : get_elem? s.views id ≡ some v) (i : ℕ) (act : StepKind) where
  abbrev e : Entry
  e = entry (length k.history) i act (slice_index s.words i)

  -- what it owes
  pub record IsLoad : Type 1 where
    pub quiet : IsQuiet act
    pub claims : SameClaims (its_charges v) (its_charges w)
    pub made : (f : Entry → ℕ) → of_view (made f) w ≡ of_view (made f) v + f e
    pub bytes : of_view bytes_left w ≤ of_view bytes_left v
    pub turns : of_view turns_left w ≤ of_view turns_left v
    pub sizes : of_view chunk_sizes w + size_forgotten act ≤ of_view chunk_sizes v
    pub numbers : (m : ℕ) → of_view (numbered m) w ≤ of_view (numbered m) v
    pub good : IsGoodView (k.history ++ e ∷ []) w
    pub known : All (IsKnown start) w.known

  -- it is a step
  pub load_step : IsLoad → IsStep start s homes id v w k at i (slice_index s.words i) act
  load_step c = record {
    lawful = rw (set-get_or s.words i 0) (claims_move (rows_of start.tree 0 s.words) s.views id v w at c.claims k.accounts);
    fixed = λ m h. ap (fixed_in m) (set-get_or s.words i 0);
    next = (let q : slice_index (set s.words i (slice_index s.words i)) number_word ≡ slice_index s.words number_word =
        ap (λ (l : List ℕ). slice_index l number_word) (set-get_or s.words i 0) in let z = c.quiet.draws in omega arith);
    bounded = (let z = c.quiet.reaches (slice_index s.words i) in omega arith);
    made = c.made;
    bytes = (let p = c.bytes in let z = c.quiet.begins in omega arith);
    turns = (let p = c.turns in let z = c.quiet.draws in omega arith);
    sizes = (let p = c.sizes in omega arith);
    numbers = λ m. (let p = c.numbers m in omega arith);
    fresh = λ m ne. zero_cond (slice_index s.words i == m) (draw_count act) c.quiet.draws;
    good = c.good;
    known = c.known;
    peak = λ m h. (let q : slice_index (set s.words i (slice_index s.words i)) (peak_word m) ≡ slice_index s.words (peak_word m) =
        ap (λ (l : List ℕ). slice_index l (peak_word m)) (set-get_or s.words i 0) in
        let l = peak_loaded s.words m (length k.history) i act c.quiet.raises in omega arith);
    peak_bounded = λ m h. (let l = peak_loaded s.words m (length k.history) i act c.quiet.raises in let p = k.peaks.bounded m h in
        let x = sum-map begun k.history in omega arith);
  }
    where
      zero_cond : (b : Bool) (x : ℕ) → x ≡ 0 → cond b x 0 ≡ 0
      zero_cond true x z = z
      zero_cond false x z = refl

-- it keeps the rule
pub load_kept : (start : Start) (s : State Said View) (homes : List (option.Option Said)) (id : ℕ) (v w : View) (k : IsSoundTable start s)
    (at : get_elem? s.views id ≡ some v) (i : ℕ) (act : StepKind) → IsLoad start s homes id v w k at i act
    → IsSoundTable start (record { words = set s.words i (slice_index s.words i); homes = homes; views = set s.views id w })
load_kept start s homes id v w k at i act c = step_kept start s homes id v w k at i (slice_index s.words i) act
    (load_step start s homes id v w k at i act c)

-- and what it tells of the history
pub known_after : (start : Start) (s : State Said View) (homes : List (option.Option Said)) (id : ℕ) (v w : View)
    (k : IsSoundTable start s) (at : get_elem? s.views id ≡ some v) (i : ℕ) (act : StepKind) → IsLoad start s homes id v w k at i act →
    start ≡ w.start → KnowsHistory w
known_after start s homes id v w k at i act c same = record {
  history = k.history ++ entry (length k.history) i act (slice_index s.words i) ∷ [];
  legal = subst (λ (x : Start). IsHistory x (k.history ++ entry (length k.history) i act (slice_index s.words i) ∷ [])) same
      (step_legal start s homes id v w k at i (slice_index s.words i) act (load_step start s homes id v w k at i act c));
  own_steps = c.good.0.own_steps;
  observed = c.good.0.observed;
}

-- a load that changes nothing
pub reading_owed : (start : Start) (s : State Said View) (id : ℕ) (v : View) (k : IsSoundTable start s)
    (at : get_elem? s.views id ≡ some v) (i : ℕ) →
    IsLoad start s s.homes id v (stepping reading v (entry (length k.history) i LoadWord (slice_index s.words i))) k at i LoadWord
reading_owed start s id v k at i =
    let e = entry (length k.history) i LoadWord (slice_index s.words i) in
    let old = k.tokens id v at in
    record {
      quiet = quiet_load;
      claims = same_self (its_charges v);
      made = λ f. (let q = sum_by_push f v.own.own_steps e in omega arith);
      bytes = omega arith;
      turns = omega arith;
      sizes = omega arith;
      numbers = λ m. omega arith;
      good = (
        record {
          own_steps = steps_more k.history e v.own old.0 refl;
          observed = (good_longer k.history e v.own old.0).observed;
          chunks = old.0.chunks;
        },
        good_longer k.history e v.offer old.1,
      );
      known = k.known id v at;
    }

-- what is fixed of a level is read
pub reads_allowed : (slots id i : ℕ) (me : Me Said View) → Allows (IsSoundTable me.0.start) slots id me i (λ n. n)
    (Reads (step slots i 0 0 none) me)
reads_allowed slots id i me s k _ at _ =
    let w = stepping reading me.0 (entry (length k.history) i LoadWord (slice_index s.words i)) in
    let is : (level : ℕ) (fixed : Fixed) → known_at level me.0.known ≡ Some fixed → fixed_in level s.words ≡ fixed =
    λ level fixed e. (let q = known_is me.0.start level fixed me.0.known (k.known id me.0 at) e in k.layout.fixed level q.0 ∙ q.1) in (
      w,
      keeps,
      tt,
      load_kept me.0.start s s.homes id me.0 w k at i LoadWord (reading_owed me.0.start s id me.0 k at i),
      (
        (length k.history, refl),
        refl,
        record {
          limit = λ level same fixed e. ap (slice_index s.words) same ∙ ap (λ (f : Fixed). f.limit) (is level fixed e);
          reservation = λ level same fixed e. ap (slice_index s.words) same ∙ ap (λ (f : Fixed). f.reservation) (is level fixed e);
          parent = λ level same fixed e. ap (slice_index s.words) same ∙ ap (λ (f : Fixed). f.parent.0) (is level fixed e);
        },
      ),
    )

-- the first chunk is offered to the next split
pub parts_allowed : (slots id i : ℕ) (me : Me Said View) (k₀ : Chunk) (chunks : List Chunk) → me.0.own.chunks ≡ k₀ ∷ chunks →
    me.0.offer ≡ nothing
    → Allows (IsSoundTable me.0.start) slots id me i (λ n. n) (Parts (step slots i 0 0 none) me)
parts_allowed slots id i me k₀ chunks is none_offered s k _ at _ =
    let e = entry (length k.history) i LoadWord (slice_index s.words i) in
    let w : View = parting_view me.0 (length k.history) i (slice_index s.words i) in
    let a : w.own.chunks ≡ chunks = ap other_chunks is in
    let b : w.offer.chunks ≡ k₀ ∷ [] = ap one_chunk is in
    let o : me.0.offer.chunks ≡ [] = ap (λ (b : Body). b.chunks) none_offered in
    let same : (g : Chunk → ℕ) → sum_by g w.own.chunks + sum_by g w.offer.chunks ≡ sum_by g me.0.own.chunks + sum_by g me.0.offer.chunks =
    λ g.
    (let p = ap (sum_by g) a in let q = ap (sum_by g) b in let r = ap (sum_by g) is in let t = ap (sum_by g) o in let u =
    sum_by-cons g k₀ chunks in omega arith) in
    let old = k.tokens id me.0 at in let its = subst (All IsGoodChunk) is old.0.chunks in
    let owed : IsLoad me.0.start s s.homes id me.0 w k at i LoadWord = record {
      quiet = quiet_load;
      claims = moved me.0 w is a b o;
      made = λ f. (let q = sum_by_push f me.0.own.own_steps e in let z = ap (made f) none_offered in omega arith);
      bytes = (let z = ap bytes_left none_offered in omega arith);
      turns = (let z = ap turns_left none_offered in omega arith);
      sizes = (let q = same (λ k. k.size) in omega arith);
      numbers = λ m. (let q = same (λ k. cond (k.number == m) 1 0) in omega arith);
      good = (
        record {
          own_steps = steps_more k.history e me.0.own old.0 refl;
          observed = (good_longer k.history e me.0.own old.0).observed;
          chunks = subst (All IsGoodChunk) (sym a) (All-tail IsGoodChunk k₀ chunks its);
        },
        record {
          own_steps = All-nil (InHistory (k.history ++ e ∷ []));
          observed = All-nil (InHistory (k.history ++ e ∷ []));
          chunks =
              subst (All IsGoodChunk) (sym b) (All-cons IsGoodChunk k₀ [] (All-head IsGoodChunk k₀ chunks its) (All-nil IsGoodChunk));
        },
      );
      known = k.known id me.0 at;
    } in (
      w,
      keeps,
      tt,
      load_kept me.0.start s s.homes id me.0 w k at i LoadWord owed,
      (length k.history, refl, known_after me.0.start s s.homes id me.0 w k at i LoadWord owed refl),
    )
  where
    swapped : (xs ys : List Claim) → SameClaims ((xs ++ ys) ++ []) (ys ++ (xs ++ []))
    swapped xs ys = same_from ((xs ++ ys) ++ []) (ys ++ (xs ++ []))
        (λ f. (let a = sum_by-append f (xs ++ ys) [] in let b = sum_by-append f xs ys in let c = sum_by-append f ys (xs ++ []) in let d =
        sum_by-append f xs [] in omega arith))
        (λ P h. (let g = All-left P (xs ++ ys) [] h in All-append P ys (xs ++ []) (All-right P xs ys g)
        (All-append P xs [] (All-left P xs ys g) (All-nil P))))

    moved : (v w : View) → v.own.chunks ≡ k₀ ∷ chunks → w.own.chunks ≡ chunks → w.offer.chunks ≡ k₀ ∷ [] → v.offer.chunks ≡ [] →
        SameClaims (its_charges v) (its_charges w)
    moved v w i a b o = same_then (its_charges v) ((k₀.charges ++ charges_of chunks) ++ []) (its_charges w)
        (same_path (its_charges v) ((k₀.charges ++ charges_of chunks) ++ []) (λ j. charges_of (i j) ++ charges_of (o j)))
        (same_then ((k₀.charges ++ charges_of chunks) ++ []) (charges_of chunks ++ (k₀.charges ++ [])) (its_charges w)
        (swapped k₀.charges (charges_of chunks))
        (same_path (charges_of chunks ++ (k₀.charges ++ [])) (its_charges w) (λ j. charges_of (sym a j) ++ charges_of (sym b j))))

-- a number is drawn
pub draws_allowed : (slots id : ℕ) (me : Me Said View) → 1 ≤ me.0.own.turns → Allows (IsSoundTable me.0.start) slots id me number_word
    (λ n. (n + 1) % 2 ^ 64) (Draws (step slots number_word 1 0 none) me)
draws_allowed slots id me turn s k _ at _ =
    let n : ℕ = slice_index s.words number_word in
    let e = entry (length k.history) number_word DrawChunkNumber n in
    let w = stepping drawing me.0 e in
    let few : n < 2 ^ 32 = (let a = k.numbers.next in let b = k.budget.turns in let c = k.layout.small.turns in let d =
    at_most (of_view turns_left) s.views id me.0 at in omega arith) in
    let some_number : 1 ≤ n = (let a = k.numbers.next in omega arith) in
    let k₁ : Chunk = record { number = n; size = 0; charges = [] } in
    let kept = step_kept me.0.start s s.homes id me.0 w k at number_word (n + 1) DrawChunkNumber (record {
      lawful = subst (λ r. IsLawfulFixedTree (account r (claims_of (set s.views id w))))
          (sym (rows_of-before me.0.start.tree 0 number_word (n + 1) s.words (omega arith)))
          (claims_move (rows_of me.0.start.tree 0 s.words) s.views id me.0 w at (same_self (its_charges me.0)) k.accounts);
      fixed = λ m h. fixed_in-other m number_word (n + 1) s.words (λ q. omega arith) (λ q. omega arith) (λ q. omega arith);
      next = get_or-set_same s.words number_word (n + 1) 0 (let q = k.layout.wide in omega arith);
      bounded = omega arith;
      made = λ f. (let q = sum_by_push f me.0.own.own_steps e in omega arith);
      bytes = omega arith;
      turns = omega arith;
      sizes = (let q = sum_by-cons (λ (k : Chunk). k.size) k₁ me.0.own.chunks in omega arith);
      numbers = λ m. (let q = sum_by-cons (λ (k : Chunk). cond (k.number == m) 1 0) k₁ me.0.own.chunks in omega arith);
      fresh = λ m ne. rw (ne_eqb n m (λ q. ne (sym q))) refl;
      good = (let old = k.tokens id me.0 at in (
        record {
          own_steps = steps_more k.history e me.0.own old.0 refl;
          observed = (good_longer k.history e me.0.own old.0).observed;
          chunks = All-cons IsGoodChunk k₁ me.0.own.chunks (record {
            few = omega arith;
            whole =
                All-nil (λ (x : Claim). size_of x.phase ≤ 0);
          }) old.0.chunks;
        },
        good_longer k.history e me.0.offer old.1,
      ));
      known = k.known id me.0 at;
      peak = λ m h. (let o = get_or-set_other s.words number_word (peak_word m) (n + 1) 0 (λ q. omega arith) in
          let z = no_peak m (length k.history) number_word n DrawChunkNumber (λ q. omega arith) in omega arith);
      peak_bounded = λ m h. (let z = no_peak m (length k.history) number_word n DrawChunkNumber (λ q. omega arith) in omega arith);
    }) in (
      w,
      keeps,
      tt,
      subst (λ (x : ℕ). IsSoundTable me.0.start (record { words = set s.words number_word x; homes = s.homes; views = set s.views id w }))
          (sym (mod-eq_of_lt (let h = few in omega arith))) kept,
      ((length k.history, refl), refl, some_number, few),
    )
