-- What the steps of a release owe the rule.
use Rattle.std.proofs.Common.{suc, ◌≡◌, ℕ, ◌+◌, ◌-◌, ◌%◌, ◌^◌, ◌<◌, ◌≤◌, Bool, true, false, cond, ◌==◌, List, [], ◌∷◌, ◌++◌, length, set}
use Rattle.std.proofs.Common.{slice_index, refl, sym, ap, ◌∙◌, subst, arith, sum_by, All, get_or-set_other, Option, Some, None}
use mathlib.Core.Option as option
use mathlib.Core.Option.{some, none}
use lib.ListN.{get_elem?}
use Rattle.std.proofs.lemmas.List.Elements.{All-head, All-tail, All-cons}
use Rattle.std.proofs.lemmas.List.Sums.{sum_by-cons, sum_by_push}
use Rattle.atomic_table.specs.Table.{State, Me, Allows, step, keeps}
use Rattle.acct_core.specs.Claims.{Claim, account, claim_at}
use Rattle.acct_core.specs.Phases.{Phase, is_in, size_of}
use Rattle.acct_core.specs.Phases.Phase.{Free, In, Up, Held, Failed, Down, Bounced}
use Rattle.acct_core.specs.Effects.{passed, goes_back}
use Rattle.acct_core.specs.Lawful.{IsLawfulFixedTree}
use Rattle.mem_model.specs.Reservation.{beyond_reservation}
use Rattle.acct_words.specs.Entries.StepKind.{SubtractHeld, ForgetChunk}
use Rattle.acct_words.specs.Entries.{Entry}
use Rattle.acct_words.specs.declared.fixed.Fixed.{Fixed}
use Rattle.acct_words.specs.Views.{Start, Chunk, View}
use Rattle.acct_words.specs.declared.rule.Said.{Said}
use Rattle.acct_words.specs.Places.{number_word, held_word, limit_word, peak_word}
use Rattle.acct_words.specs.Bodies.{of_view, made, numbered, chunk_sizes, bytes_left, turns_left}
use Rattle.acct_words.specs.Rows.{node, charges_of, rows_of}
use Rattle.acct_words.specs.Moves.{found_row, fallen, turned, behind, to_front, charged_as, first_chunk, falling_charges, turning_charges}
use Rattle.acct_words.specs.Moves.{falling, turning, other_chunks, parting}
use Rattle.acct_words.specs.Rule.{IsGoodChunk, IsGoodView, IsKnown, IsSoundTable}
use Rattle.acct_words.specs.Plays.{entry, stepping, knowing, Falls, Turns, Forgets, first_size}
use Rattle.acct_core.specs.FixedTrees.{CanTurnRound, settled}
use Rattle.acct_core.proofs.FixedTreeLemmas.{turn_fixed}
use Rattle.acct_core.specs.SameClaims.{SameClaims}
use Rattle.acct_core.proofs.SameClaimsLemmas.{same_all, same_from, same_self, same_then, same_before, same_path}
use Rattle.acct_words.proofs.ClaimLemmas.{its_charges, others}
use Rattle.acct_words.proofs.RowLemmas.{fixed_in-held, limits_of}
use Rattle.acct_words.proofs.AccountLemmas.{claims_out, fall_moves, falls_there, falls_covered}
use Rattle.acct_words.proofs.KeptLemmas.{step_kept, good_longer, known_more, no_peak}
use Rattle.acct_words.proofs.BoundLemmas.{held_small}
use Rattle.acct_words.proofs.StepLemmas.{steps_more, first_charges, at_level, comes_after}
use Rattle.acct_words.proofs.LoadLemmas.{IsLoad, quiet_forget, load_kept, known_after}

-- a claim behind the first is the same claims
behind_same : (c : Claim) (rest : List Claim) → SameClaims (c ∷ rest) (behind c rest)
behind_same c [] = same_self (c ∷ [])
behind_same c (d ∷ rest) = same_from (c ∷ d ∷ rest) (d ∷ c ∷ rest)
    (λ f. (let a = sum_by-cons f c (d ∷ rest) in let b = sum_by-cons f d rest in let e = sum_by-cons f d (c ∷ rest) in let g =
    sum_by-cons f c rest in omega arith))
    (λ P h. All-cons P d (c ∷ rest) (All-head P d rest (All-tail P c (d ∷ rest) h)) (All-cons P c rest (All-head P c (d ∷ rest) h)
    (All-tail P d rest (All-tail P c (d ∷ rest) h))))

-- a list with one of its claims in front is the same claims
pub front_same : (word : ℕ) (charges : List Claim) → SameClaims charges (to_front word charges)
front_same word [] = same_self []
front_same word (c ∷ charges) = by (held_word c.node == word) (front_same word charges)
  where
    by : (b : Bool) → SameClaims charges (to_front word charges) →
        SameClaims (c ∷ charges) (cond b (c ∷ charges) (behind c (to_front word charges)))
    by true s = same_self (c ∷ charges)
    by false s = same_then (c ∷ charges) (c ∷ to_front word charges) (behind c (to_front word charges))
        (same_from (c ∷ charges) (c ∷ to_front word charges)
        (λ f. (let a = sum_by-cons f c charges in let b = sum_by-cons f c (to_front word charges) in let e = s.sums f in omega arith))
        (λ P h. All-cons P c (to_front word charges) (All-head P c charges h)
        (same_all charges (to_front word charges) s P (All-tail P c charges h))))
        (behind_same c (to_front word charges))

-- it is as long
behind_length : (c : Claim) (rest : List Claim) → length (behind c rest) ≡ suc (length rest)
behind_length c [] = refl
behind_length c (d ∷ rest) = refl

front_length : (word : ℕ) (charges : List Claim) → length (to_front word charges) ≡ length charges
front_length word [] = refl
front_length word (c ∷ charges) = by (held_word c.node == word) (front_length word charges)
  where
    by : (b : Bool) → length (to_front word charges) ≡ length charges → length (cond b (c ∷ charges) (behind c (to_front word charges)))
        ≡ suc (length charges)
    by true e = refl
    by false e = behind_length c (to_front word charges) ∙ ap suc e

-- what a charge that goes down leaves is no larger
settled_good : (f : Fixed) (found n size m amount k : ℕ) (rest : List Claim) → size ≤ k → length rest ≤ 1 →
    All (λ x. size_of x.phase ≤ k) rest
    → (length (settled (fallen m f found (claim_at n (Down size m amount))) rest) ≤ 2) × All (λ x. size_of x.phase ≤ k)
    (settled (fallen m f found (claim_at n (Down size m amount))) rest)
settled_good f found n size m amount k rest le few all =
    by (passed (found_row m f found).shape.parent (beyond_reservation f.reservation (found - amount) found))
  where
    by : (o : Option (ℕ × ℕ)) → (length (settled (claim_at n (goes_back o size)) rest) ≤ 2) × All (λ x. size_of x.phase ≤ k)
        (settled (claim_at n (goes_back o size)) rest)
    by None = (omega arith, all)
    by (Some p) = (omega arith, All-cons (λ x. size_of x.phase ≤ k) (claim_at n (Down size p.0 p.1)) rest le all)

-- a view that made this step at a level, after which its chunks are these
abbrev pub fell : View → ℕ → Fixed → Entry → List Chunk → View
fell v m f e chunks = record (knowing m f v) { own = record (v.own) { own_steps = v.own.own_steps ++ e ∷ []; chunks = chunks } }

-- a subtraction from the held word of m of what a charge has pending there
module _ (start : Start) (s : State Said View) (homes : List (option.Option Said)) (id : ℕ) (v w : View) (k : IsSoundTable start s)
    (at : get_elem? s.views id ≡ some v) (n size m amount : ℕ) (k₀ k₁ : Chunk) (chunks : List Chunk) (rest : List Claim)
    (is : v.own.chunks ≡ k₀ ∷ chunks) (good_before : IsGoodChunk k₀ → IsGoodChunk k₁) (number_is : k₁.number ≡ k₀.number)
    (size_is : k₁.size ≡ k₀.size)
    (charges_are : k₁.charges
    ≡ settled (fallen m (node start.tree m) (slice_index s.words (held_word m)) (claim_at n (Down size m amount))) rest)
    (view : w ≡ fell v m (node start.tree m) (entry (length k.history) (held_word m) (SubtractHeld amount)
    (slice_index s.words (held_word m))) (k₁ ∷ chunks))
    (l : IsLawfulFixedTree (account (rows_of start.tree 0 s.words) (claim_at n (Down size m amount) ∷
    (((rest ++ charges_of chunks) ++ charges_of v.offer.chunks) ++ others s.views id)))) where
  abbrev found : ℕ
  found = slice_index s.words (held_word m)

  abbrev e : Entry
  e = entry (length k.history) (held_word m) (SubtractHeld amount) found

  abbrev all_rest : List Claim
  all_rest = (rest ++ charges_of chunks) ++ charges_of v.offer.chunks

  abbrev c : Claim
  c = fallen m (node start.tree m) found (claim_at n (Down size m amount))

  abbrev limits_are : (j : ℕ) → j < length start.tree → slice_index s.words (limit_word j) ≡ (node start.tree j).limit
  limits_are = limits_of start.tree s.words k.layout.fixed

  pub fall_there : m < length start.tree
  fall_there = falls_there start.tree s.words limits_are k.layout.wide n size m amount (all_rest ++ others s.views id) l

  pub fall_covered : amount ≤ found
  fall_covered = falls_covered start.tree s.words limits_are k.layout.wide n size m amount (all_rest ++ others s.views id) l

  pub fall_small : found < 2 ^ 63
  fall_small = held_small start s k m fall_there

  after_charges : settled c all_rest ≡ its_charges w
  after_charges = go (is_in c.phase) ∙ ap (λ (x : List Claim). (x ++ charges_of chunks) ++ charges_of v.offer.chunks) (sym charges_are)
      ∙ sym (ap its_charges view)
    where
      go : (b : Bool) → cond b all_rest (c ∷ all_rest) ≡ (cond b rest (c ∷ rest) ++ charges_of chunks) ++ charges_of v.offer.chunks
      go true = refl
      go false = refl

  pub fall_kept : IsSoundTable start (record {
    words = set s.words (held_word m) ((found + (2 ^ 64 - amount)) % 2 ^ 64);
    homes = homes;
    views = set s.views id w;
  })
  fall_kept = subst (λ (x : ℕ). IsSoundTable start (record {
    words = set s.words (held_word m) x;
    homes = homes;
    views =
        set s.views id w;
  })) (let h = fall_covered in let z = fall_small in omega arith)
      (step_kept start s homes id v w k at (held_word m) (found - amount) (SubtractHeld amount) (record {
        lawful = fall_moves start.tree s.words s.views id v w at limits_are k.layout.wide n size m amount all_rest l
            (same_path (settled c all_rest) (its_charges w) after_charges);
        fixed = λ j h. fixed_in-held j m (found - amount) s.words;
        next = (let o = get_or-set_other s.words (held_word m) number_word (found - amount) 0 (λ q. omega arith) in omega arith);
        bounded = omega arith;
        made = λ f. (let q = sum_by_push f v.own.own_steps e in let z = ap (of_view (made f)) view in omega arith);
        bytes = (let z = ap (of_view bytes_left) view in omega arith);
        turns = (let z = ap (of_view turns_left) view in omega arith);
        sizes = (let z = ap (of_view chunk_sizes) view in let a = ap (sum_by (λ (k : Chunk). k.size)) is in let b =
            sum_by-cons (λ (k : Chunk). k.size) k₀ chunks in let d = sum_by-cons (λ (k : Chunk). k.size) k₁ chunks in omega arith);
        numbers = λ j. (let g : Chunk → ℕ = λ k. cond (k.number == j) 1 0 in let z = ap (of_view (numbered j)) view in let a =
            ap (sum_by g) is in let b = sum_by-cons g k₀ chunks in let d = sum_by-cons g k₁ chunks in let u : g k₁ ≡ g k₀ =
            ap (λ (x : ℕ). cond (x == j) 1 0) number_is in omega arith);
        fresh = λ j ne. zeros (found == j);
        good = subst (IsGoodView (k.history ++ e ∷ [])) (sym view) (let old = k.tokens id v at in let its =
            subst (All IsGoodChunk) is old.0.chunks in (
              record {
                own_steps = steps_more k.history e v.own old.0 refl;
                observed = (good_longer k.history e v.own old.0).observed;
                chunks = All-cons IsGoodChunk k₁ chunks (good_before (All-head IsGoodChunk k₀ chunks its))
                    (All-tail IsGoodChunk k₀ chunks its);
              },
              good_longer k.history e v.offer old.1,
            ));
        known = subst (λ (y : View). All (IsKnown start) y.known) (sym view)
            (known_more start m v.known fall_there (k.known id v at));
        peak = λ j h. (let o = get_or-set_other s.words (held_word m) (peak_word j) (found - amount) 0 (λ q. omega arith) in
            let z = no_peak j (length k.history) (held_word m) found (SubtractHeld amount) (λ q. omega arith) in omega arith);
        peak_bounded = λ j h. (let z = no_peak j (length k.history) (held_word m) found (SubtractHeld amount) (λ q. omega arith) in
            omega arith);
      }))
    where
      zeros : (b : Bool) → ◌≡◌ {A = ℕ} (cond b 0 0) 0
      zeros true = refl
      zeros false = refl

-- a charge goes down
pub falls_allowed : (slots id : ℕ) (me : Me Said View) (n size m amount : ℕ) (k₀ : Chunk) (chunks : List Chunk) (rest : List Claim) →
    me.0.own.chunks ≡ k₀ ∷ chunks → k₀.charges ≡ claim_at n (Down size m amount) ∷ rest
    → Allows (IsSoundTable me.0.start) slots id me (held_word m) (λ n. (n + (2 ^ 64 - amount)) % 2 ^ 64)
    (Falls (step slots (held_word m) amount 0 none) me)
falls_allowed slots id me n size m amount k₀ chunks rest is down s k _ at _ =
    let found : ℕ = slice_index s.words (held_word m) in
    let e = entry (length k.history) (held_word m) (SubtractHeld amount) found in
    let tree = me.0.start.tree in
    let f = node tree m in
    let w = stepping (falling m f) (knowing m f me.0) e in
    let d = claim_at n (Down size m amount) in
    let k₁ = charged_as k₀ (settled (fallen m f found d) rest) in
    let view : w ≡ fell me.0 m f e (k₁ ∷ chunks) = λ j. fell me.0 m f e (chunks_fallen f found j) in
    let l = claims_out (rows_of tree 0 s.words) s.views id me.0 (d ∷ ((rest ++ charges_of chunks) ++ charges_of me.0.offer.chunks)) at
    (same_path (its_charges me.0) (d ∷ ((rest ++ charges_of chunks) ++ charges_of me.0.offer.chunks)) (first_charges me.0 k₀ chunks is
    ∙ ap (λ (x : List Claim). (x ++ charges_of chunks) ++ charges_of me.0.offer.chunks) down)) k.accounts in
    let good = good_fallen f found in
    let there = fall_there me.0.start s s.homes id me.0 w k at n size m amount k₀ k₁ chunks rest is good refl refl refl view l in (
      w,
      keeps,
      tt,
      fall_kept me.0.start s s.homes id me.0 w k at n size m amount k₀ k₁ chunks rest is good refl refl refl view l,
      (
        at_level (SubtractHeld amount) falling m found me.0 w (record {
          fixed = f;
          made = (length k.history, refl);
          after_parent = comes_after me.0.start s k m there;
        }),
        refl,
        fall_covered me.0.start s s.homes id me.0 w k at n size m amount k₀ k₁ chunks rest is good refl refl refl view l,
        fall_small me.0.start s s.homes id me.0 w k at n size m amount k₀ k₁ chunks rest is good refl refl refl view l,
      ),
    )
  where
    chunks_fallen : (f : Fixed) (found : ℕ) →
        first_chunk (λ k. charged_as k (falling_charges m f found k.charges)) me.0.own.chunks
        ≡ charged_as k₀ (settled (fallen m f found (claim_at n (Down size m amount))) rest) ∷ chunks
    chunks_fallen f found = ap (first_chunk (λ (k : Chunk). charged_as k (falling_charges m f found k.charges))) is
        ∙ ap (λ (x : List Claim). charged_as k₀ (falling_charges m f found x) ∷ chunks) down

    good_fallen : (f : Fixed) (found : ℕ) → IsGoodChunk k₀ →
        IsGoodChunk (charged_as k₀ (settled (fallen m f found (claim_at n (Down size m amount))) rest))
    good_fallen f found g =
        let q = subst (All (λ (x : Claim). size_of x.phase ≤ k₀.size)) down g.whole in
        let r = settled_good f found n size m amount k₀.size rest (All-head (λ (x : Claim). size_of x.phase ≤ k₀.size)
        (claim_at n (Down size m amount)) rest q) (let a = ap length down in let b = g.few in omega arith)
        (All-tail (λ (x : Claim). size_of x.phase ≤ k₀.size) (claim_at n (Down size m amount)) rest q) in
        record { few = r.0; whole = r.1 }

-- a charge that can turn round
pub turned_is : (m size : ℕ) (phase : Phase) → CanTurnRound size phase → turned (claim_at m phase) ≡ claim_at m (Down size m size)
turned_is m size (Held s forced steps) e = ap (λ (x : ℕ). claim_at m (Down x m x)) (sym e)
turned_is m size (Failed s forced steps) e = ap (λ (x : ℕ). claim_at m (Down x m x)) (sym e)
turned_is m size Free e = elim e [ ]
turned_is m size In e = elim e [ ]
turned_is m size (Up _ _ _ _ _) e = elim e [ ]
turned_is m size (Down _ _ _) e = elim e [ ]
turned_is m size Bounced e = elim e [ ]

-- its size
turned_size : (m size k : ℕ) (phase : Phase) → CanTurnRound size phase → size_of phase ≤ k → size ≤ k
turned_size m size k (Held s forced steps) e h = omega arith
turned_size m size k (Failed s forced steps) e h = omega arith
turned_size m size k Free e h = elim e [ ]
turned_size m size k In e h = elim e [ ]
turned_size m size k (Up _ _ _ _ _) e h = elim e [ ]
turned_size m size k (Down _ _ _) e h = elim e [ ]
turned_size m size k Bounced e h = elim e [ ]

-- a charge turns round and goes down
pub turns_allowed : (slots id : ℕ) (me : Me Said View) (m size : ℕ) (phase : Phase) (k₀ : Chunk) (chunks : List Chunk)
    (rest : List Claim) → me.0.own.chunks ≡ k₀ ∷ chunks → to_front (held_word m) k₀.charges ≡ claim_at m phase ∷ rest →
    CanTurnRound size phase
    → Allows (IsSoundTable me.0.start) slots id me (held_word m) (λ n. (n + (2 ^ 64 - size)) % 2 ^ 64)
    (Turns (step slots (held_word m) size 0 none) me)
turns_allowed slots id me m size phase k₀ chunks rest is front can s k _ at _ =
    let found : ℕ = slice_index s.words (held_word m) in
    let e = entry (length k.history) (held_word m) (SubtractHeld size) found in
    let tree = me.0.start.tree in
    let f = node tree m in
    let w = stepping (turning m f) (knowing m f me.0) e in
    let d = claim_at m (Down size m size) in
    let k₁ = charged_as k₀ (settled (fallen m f found d) rest) in
    let o = others s.views id in
    let all_rest : List Claim = (rest ++ charges_of chunks) ++ charges_of me.0.offer.chunks in
    let view : w ≡ fell me.0 m f e (k₁ ∷ chunks) = λ j. fell me.0 m f e (chunks_turned f found j) in
    let l = turn_fixed (rows_of tree 0 s.words) m size (all_rest ++ o) phase can
    (claims_out (rows_of tree 0 s.words) s.views id me.0 (claim_at m phase ∷ all_rest) at
    (same_then (its_charges me.0) ((k₀.charges ++ charges_of chunks) ++ charges_of me.0.offer.chunks) (claim_at m phase ∷ all_rest)
    (same_path (its_charges me.0) ((k₀.charges ++ charges_of chunks) ++ charges_of me.0.offer.chunks) (first_charges me.0 k₀ chunks is))
    (same_before (k₀.charges ++ charges_of chunks) (claim_at m phase ∷ (rest ++ charges_of chunks)) (charges_of me.0.offer.chunks)
    (same_before k₀.charges (claim_at m phase ∷ rest) (charges_of chunks) in_front))) k.accounts) in
    let good = good_turned f found in
    let there = fall_there me.0.start s s.homes id me.0 w k at m size m size k₀ k₁ chunks rest is good refl refl refl view l in (
      w,
      keeps,
      tt,
      fall_kept me.0.start s s.homes id me.0 w k at m size m size k₀ k₁ chunks rest is good refl refl refl view l,
      (
        at_level (SubtractHeld size) turning m found me.0 w (record {
          fixed = f;
          made = (length k.history, refl);
          after_parent = comes_after me.0.start s k m there;
        }),
        refl,
        fall_covered me.0.start s s.homes id me.0 w k at m size m size k₀ k₁ chunks rest is good refl refl refl view l,
        fall_small me.0.start s s.homes id me.0 w k at m size m size k₀ k₁ chunks rest is good refl refl refl view l,
      ),
    )
  where
    in_front : SameClaims k₀.charges (claim_at m phase ∷ rest)
    in_front = same_then k₀.charges (to_front (held_word m) k₀.charges) (claim_at m phase ∷ rest) (front_same (held_word m) k₀.charges)
        (same_path (to_front (held_word m) k₀.charges) (claim_at m phase ∷ rest) front)

    chunks_turned : (f : Fixed) (found : ℕ) →
        first_chunk (λ k. charged_as k (turning_charges m f found (to_front (held_word m) k.charges))) me.0.own.chunks
        ≡ charged_as k₀ (settled (fallen m f found (claim_at m (Down size m size))) rest) ∷ chunks
    chunks_turned f found =
        ap (first_chunk (λ (k : Chunk). charged_as k (turning_charges m f found (to_front (held_word m) k.charges)))) is
        ∙ ap (λ (x : List Claim). charged_as k₀ (turning_charges m f found x) ∷ chunks) front
        ∙ ap (λ (x : Claim). charged_as k₀ (settled (fallen m f found x) rest) ∷ chunks) (turned_is m size phase can)

    good_turned : (f : Fixed) (found : ℕ) → IsGoodChunk k₀ →
        IsGoodChunk (charged_as k₀ (settled (fallen m f found (claim_at m (Down size m size))) rest))
    good_turned f found g =
        let q = same_all k₀.charges (claim_at m phase ∷ rest) in_front (λ (x : Claim). size_of x.phase ≤ k₀.size) g.whole in
        let h = All-head (λ (x : Claim). size_of x.phase ≤ k₀.size) (claim_at m phase) rest q in
        let r = settled_good f found m size m size k₀.size rest (turned_size m size k₀.size phase can h) (let a = ap length front in
        let b = g.few in let d = front_length (held_word m) k₀.charges in omega arith)
        (All-tail (λ (x : Claim). size_of x.phase ≤ k₀.size) (claim_at m phase) rest q) in
        record { few = r.0; whole = r.1 }

-- a chunk without charges is forgotten
pub forgets_allowed : (slots id i : ℕ) (me : Me Said View) (k₀ : Chunk) (chunks : List Chunk) → me.0.own.chunks ≡ k₀ ∷ chunks →
    k₀.charges ≡ []
    → Allows (IsSoundTable me.0.start) slots id me i (λ n. n) (Forgets (step slots i 0 0 none) me)
forgets_allowed slots id i me k₀ chunks is empty s k _ at _ =
    let act = ForgetChunk (first_size me.0.own.chunks) in
    let e = entry (length k.history) i act (slice_index s.words i) in
    let w = stepping parting me.0 e in
    let a : w.own.chunks ≡ chunks = ap other_chunks is in
    let old = k.tokens id me.0 at in let its = subst (All IsGoodChunk) is old.0.chunks in
    let owed : IsLoad me.0.start s s.homes id me.0 w k at i act = record {
      quiet = quiet_forget (first_size me.0.own.chunks);
      claims = same_path (its_charges me.0) (its_charges w) (first_charges me.0 k₀ chunks is
          ∙ ap (λ (x : List Claim). (x ++ charges_of chunks) ++ charges_of me.0.offer.chunks) empty
          ∙ ap (λ (x : List Chunk). charges_of x ++ charges_of me.0.offer.chunks) (sym a));
      made = λ f. (let q = sum_by_push f me.0.own.own_steps e in omega arith);
      bytes = omega arith;
      turns = omega arith;
      sizes = (let g : Chunk → ℕ = λ k. k.size in let f = ap first_size is in let p = ap (sum_by g) a in let q = ap (sum_by g) is in
          let r = sum_by-cons g k₀ chunks in omega arith);
      numbers = λ m. (let g : Chunk → ℕ = λ k. cond (k.number == m) 1 0 in let p = ap (sum_by g) a in let q = ap (sum_by g) is in let r =
          sum_by-cons g k₀ chunks in omega arith);
      good = (
        record {
          own_steps = steps_more k.history e me.0.own old.0 refl;
          observed = (good_longer k.history e me.0.own old.0).observed;
          chunks = subst (All IsGoodChunk) (sym a) (All-tail IsGoodChunk k₀ chunks its);
        },
        good_longer k.history e me.0.offer old.1,
      );
      known = k.known id me.0 at;
    } in (
      w,
      keeps,
      tt,
      load_kept me.0.start s s.homes id me.0 w k at i act owed,
      ((length k.history, refl), refl, known_after me.0.start s s.homes id me.0 w k at i act owed refl),
    )
