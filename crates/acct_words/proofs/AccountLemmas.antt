-- The account of the words and the views after a step of one token.
use Rattle.std.proofs.Common.{◌≡◌, ℕ, ◌+◌, ◌<◌, ◌≤◌, List, [], ◌∷◌, ◌++◌, length, set, slice_index, refl, sym, ap, ◌∙◌, subst, arith}
use Rattle.std.proofs.Common.{sum_by, sum, Bool, true, false, cond, ◌==◌, Option, Some, None, eq-eqb, ◌-◌}
use mathlib.Core.Option.{some}
use lib.ListN.{get_elem?}
use Rattle.std.specs.Prelude.{is_none}
use Rattle.acct_core.specs.Phases.{is_in, pending_subtraction, size_of}
use Rattle.std.proofs.lemmas.List.Elements.{All-head}
use Rattle.std.proofs.lemmas.List.Sums.{sum-map, sum_by-cons}
use Rattle.mem_num.specs.declared.bounds.TheConstants.{MAX_RESERVATION}
use Rattle.mem_model.specs.Reservation.{beyond_reservation}
use Rattle.acct_core.specs.Claims.{Claim, account, claim_at}
use Rattle.acct_core.specs.declared.event.Event.{Event}
use Rattle.acct_core.specs.declared.event.Event.TheVariants.{Up as EventUp, Down as EventDown}
use Rattle.acct_core.specs.declared.level_step.LevelStep.{LevelStep}
use Rattle.acct_core.specs.Phases.Phase.{Up, Down}
use Rattle.acct_core.specs.declared.row.Row.{Row}
use Rattle.acct_core.specs.Bounds.{open_reservation}
use Rattle.acct_core.specs.Effects.{Effect, effect_of, claim_number, level_of, passed, goes_on, goes_back, step_at, told_step}
use Rattle.acct_core.specs.Lawful.{IsLawfulFixedTree}
use Rattle.acct_core.specs.NodeTree.{IsOpen}
use Rattle.acct_core.specs.Rows.{row, shapes}
use Rattle.acct_core.proofs.BoundLemmas.{bounded}
use Rattle.acct_core.proofs.CoverLemmas.{covered}
use Rattle.acct_core.proofs.FitsLemmas.{ClaimFits}
use Rattle.acct_core.specs.SameClaims.{SameClaims}
use Rattle.acct_core.specs.FixedTrees.{settled}
use Rattle.acct_core.proofs.HeadLemmas.{head_fixed}
use Rattle.acct_core.proofs.SameClaimsLemmas.{same_all, same_fixed, same_then, same_before}
use Rattle.acct_core.proofs.FixedTreeLemmas.{held_law, in_less, first_rise}
use Rattle.acct_core.proofs.LineLemmas.{made_in, reaches_open}
use Rattle.acct_words.specs.declared.fixed.Fixed.{Fixed}
use Rattle.acct_words.specs.Views.{View}
use Rattle.acct_words.specs.Places.{held_word, limit_word, word_count}
use Rattle.acct_words.specs.Rows.{node, row_of, rows_of, claims_of, shown, ComesAfterParent}
use Rattle.acct_words.specs.Moves.{found_row, risen, fallen}
use Rattle.acct_words.specs.Rule.{reservations}
use Rattle.acct_words.proofs.RowLemmas.{rows_of-length, rows_of-at, rows_of-set}
use Rattle.acct_words.proofs.ClaimLemmas.{its_charges, others, taken_out, put_in}

-- other claims stand before those of the other views
pub claims_out : (rows : List Row) (views : List View) (id : ℕ) (v : View) (claims : List Claim) → get_elem? views id ≡ some v →
    SameClaims (its_charges v) claims
    → IsLawfulFixedTree (account rows (claims_of views)) → IsLawfulFixedTree (account rows (claims ++ others views id))
claims_out rows views id v claims at same l =
    let o = others views id in
    same_fixed rows (claims_of views) (claims ++ o) (same_then (claims_of views) (its_charges v ++ o) (claims ++ o)
    (taken_out views id v at) (same_before (its_charges v) claims o same)) l

-- and go back
pub claims_in : (rows : List Row) (views : List View) (id : ℕ) (v w : View) (claims : List Claim) → get_elem? views id ≡ some v →
    SameClaims claims (its_charges w)
    → IsLawfulFixedTree (account rows (claims ++ others views id)) → IsLawfulFixedTree (account rows (claims_of (set views id w)))
claims_in rows views id v w claims at same l =
    let o = others views id in
    same_fixed rows (claims ++ o) (claims_of (set views id w)) (same_then (claims ++ o) (its_charges w ++ o) (claims_of (set views id w))
    (same_before claims (its_charges w) o same) (put_in views id v w at)) l

-- an event of a claim of one view
pub event_moves : (rows : List Row) (views : List View) (id : ℕ) (v w : View) → get_elem? views id ≡ some v →
    (c : Claim) (rest : List Claim) → SameClaims (its_charges v) (c ∷ rest)
    → (event : Event) (effect : Effect) → claim_number event ≡ 0 → effect_of event c (row rows (level_of event c)) ≡ Some effect →
    SameClaims (effect.claim ∷ rest) (its_charges w)
    → IsLawfulFixedTree (account rows (claims_of views)) →
    IsLawfulFixedTree (account (set rows (level_of event c) effect.row) (claims_of (set views id w)))
event_moves rows views id v w at c rest before event effect first is after l =
    let o = others views id in
    let l₁ = same_fixed rows (claims_of views) ((c ∷ rest) ++ o) (same_then (claims_of views) (its_charges v ++ o) ((c ∷ rest) ++ o)
    (taken_out views id v at) (same_before (its_charges v) (c ∷ rest) o before)) l in
    let l₂ = head_fixed rows c (rest ++ o) event effect first is l₁ in
    same_fixed (set rows (level_of event c) effect.row) ((effect.claim ∷ rest) ++ o) (claims_of (set views id w))
    (same_then ((effect.claim ∷ rest) ++ o) (its_charges w ++ o) (claims_of (set views id w)) (same_before (effect.claim ∷ rest)
    (its_charges w) o after) (put_in views id v w at)) l₂

-- other claims of one view, in whatever order
pub claims_move : (rows : List Row) (views : List View) (id : ℕ) (v w : View) → get_elem? views id ≡ some v →
    SameClaims (its_charges v) (its_charges w)
    → IsLawfulFixedTree (account rows (claims_of views)) → IsLawfulFixedTree (account rows (claims_of (set views id w)))
claims_move rows views id v w at same l =
    let o = others views id in
    same_fixed rows (claims_of views) (claims_of (set views id w)) (same_then (claims_of views) (its_charges v ++ o)
    (claims_of (set views id w)) (taken_out views id v at)
    (same_then (its_charges v ++ o) (its_charges w ++ o) (claims_of (set views id w)) (same_before (its_charges v) (its_charges w) o same)
    (put_in views id v w at))) l

-- the reservations of the rows are those of the tree
pub rows_of-reservations : (tree : List Fixed) (n : ℕ) (words : List ℕ) → sum_by open_reservation (rows_of tree n words)
    ≡ sum (reservations tree)
rows_of-reservations [] n words = refl
rows_of-reservations (f ∷ tree) n words =
    let a = sum_by-cons open_reservation (row_of n f (slice_index words (held_word n)) (slice_index words (limit_word n)))
    (rows_of tree (n + 1) words) in
    let b = sum-map (λ (g : Fixed). g.reservation) (f ∷ tree) in let c = sum-map (λ (g : Fixed). g.reservation) tree in
    let d = sum_by-cons (λ (g : Fixed). g.reservation) f tree in let e = rows_of-reservations tree (n + 1) words in omega arith

-- what the words say of the row of n
module _ (tree : List Fixed) (words : List ℕ) (limits : (n : ℕ) → n < length tree →
    slice_index words (limit_word n) ≡ (node tree n).limit) (m : ℕ) (there : m < length tree) where
  abbrev held : ℕ
  held = slice_index words (held_word m)

  -- it is the row that was found
  pub row_found : row (rows_of tree 0 words) m ≡ found_row m (node tree m) held
  row_found = rows_of-at tree 0 m m words there (omega arith) ∙ ap (row_of m (node tree m) held) (limits m there)

  -- with another held number
  pub row_written : (x : ℕ) → held_word m < length words → rows_of tree 0 (set words (held_word m) x) ≡ set (rows_of tree 0 words) m
      (found_row m (node tree m) x)
  row_written x inside = rows_of-set tree 0 m m x words (omega arith) there inside
      ∙ ap (λ (l : ℕ). set (rows_of tree 0 words) m (row_of m (node tree m) x l)) (limits m there)

  -- it is open
  pub row_open : IsOpen (shapes (rows_of tree 0 words)) m
  row_open = ap (λ (r : Row). r.shape.is_open) row_found

  -- and comes after its parent
  pub row_after : (claims : List Claim) → IsLawfulFixedTree (account (rows_of tree 0 words) claims) → ComesAfterParent m (node tree m)
  row_after claims l p e = l.balanced.tree.smaller m p (ap (λ (r : Row). r.shape.parent) row_found ∙ e)

-- a claim that goes up adds at an allocator of the tree
pub rises_there : (tree : List Fixed) (words : List ℕ) (claims : List Claim) (n size m amount : ℕ) (forced : Bool)
    (steps : List LevelStep) (rest : List Claim) → SameClaims claims (claim_at n (Up size m amount forced steps) ∷ rest)
    → IsLawfulFixedTree (account (rows_of tree 0 words) claims) → m < length tree
rises_there tree words claims n size m amount forced steps rest same l =
    let rows = rows_of tree 0 words in
    let h = held_law rows claims l in
    let f = All-head (λ (x : Claim). ClaimFits (shapes rows) x.node x.under x.phase) (claim_at n (Up size m amount forced steps)) rest
    (same_all claims (claim_at n (Up size m amount forced steps) ∷ rest) same
    (λ (x : Claim). ClaimFits (shapes rows) x.node x.under x.phase) h.claims) in
    rw (← rows_of-length tree 0 words) (made_in rows m (h.tree.made m (reaches_open h.tree f.2 f.0)))

-- what a claim that goes up makes of its row and of itself
abbrev pub rise_effect : List Fixed → ℕ → ℕ → ℕ → ℕ → ℕ → Bool → List LevelStep → Effect
rise_effect tree held n size m amount forced steps =
    let r = found_row m (node tree m) held in
    let further = passed r.shape.parent (beyond_reservation r.shape.reservation r.held (r.held + amount)) in
    record {
      told = told_step (step_at m r amount) (is_none further);
      row = found_row m (node tree m) (held + amount);
      claim =
          claim_at n (goes_on further size forced (steps ++ step_at m r amount ∷ []));
    }

module _ (tree : List Fixed) (words : List ℕ) (views : List View) (id : ℕ) (v w : View) (at : get_elem? views id ≡ some v)
    (limits : (n : ℕ) → n < length tree → slice_index words (limit_word n) ≡ (node tree n).limit) (wide : length words
    ≡ word_count (length tree))
    (m amount : ℕ) (there : m < length tree) where
  abbrev now : ℕ
  now = slice_index words (held_word m)

  abbrev rows : List Row
  rows = rows_of tree 0 words

  -- the effect of the step
  is_rise : (n size : ℕ) (forced : Bool) (steps : List LevelStep) → effect_of (EventUp 0) (claim_at n (Up size m amount forced steps))
      (row rows m) ≡ Some (rise_effect tree now n size m amount forced steps)
  is_rise n size forced steps = subst (λ (r : Row). effect_of (EventUp 0) (claim_at n (Up size m amount forced steps)) r
      ≡ Some (rise_effect tree now n size m amount forced steps)) (sym (row_found tree words limits m there)) refl

  -- the rows after it
  rows_risen : rows_of tree 0 (set words (held_word m) (now + amount)) ≡ set rows m (found_row m (node tree m) (now + amount))
  rows_risen = row_written tree words limits m there (now + amount) (omega arith)

  -- an addition of what a claim has pending
  pub rise_moves : (n size : ℕ) (forced : Bool) (steps : List LevelStep) (rest : List Claim) →
      SameClaims (its_charges v) (claim_at n (Up size m amount forced steps) ∷ rest)
      → SameClaims (risen m (node tree m) now (claim_at n (Up size m amount forced steps)) ∷ rest) (its_charges w)
      → IsLawfulFixedTree (shown tree words views) →
      IsLawfulFixedTree (shown tree (set words (held_word m) (now + amount)) (set views id w))
  rise_moves n size forced steps rest before after l =
      subst (λ (r : List Row). IsLawfulFixedTree (account r (claims_of (set views id w)))) (sym rows_risen)
      (event_moves rows views id v w at (claim_at n (Up size m amount forced steps)) rest before (EventUp 0)
      (rise_effect tree now n size m amount forced steps) refl (is_rise n size forced steps) after l)

  -- the first step of a request, which adds its whole size at its node
  pub begin_moves : (forced : Bool) (rest : List Claim) → 1 ≤ amount → amount ≤ MAX_RESERVATION → SameClaims (its_charges v) rest
      → SameClaims (risen m (node tree m) now (claim_at m (Up amount m amount forced [])) ∷ rest) (its_charges w)
      → IsLawfulFixedTree (shown tree words views) →
      IsLawfulFixedTree (shown tree (set words (held_word m) (now + amount)) (set views id w))
  begin_moves forced rest some_size small before after l =
      let o = others views id in
      let eff = rise_effect tree now m amount m amount forced [] in
      subst (λ (r : List Row). IsLawfulFixedTree (account r (claims_of (set views id w)))) (sym rows_risen)
      (claims_in (set rows m eff.row) views id v w (eff.claim ∷ rest) at after
      (first_rise rows m amount (rest ++ o) forced eff (row_open tree words limits m there) some_size small (is_rise m amount forced [])
      (claims_out rows views id v rest at before l)))

-- a held word is at most the sizes of all claims and the reservations
pub held_bounded : (tree : List Fixed) (words : List ℕ) (views : List View) (m : ℕ) → m < length tree →
    IsLawfulFixedTree (shown tree words views)
    → slice_index words (held_word m) ≤ sum_by (λ c. size_of c.phase) (claims_of views) + sum (reservations tree)
held_bounded tree words views m there l =
    let b = bounded (shown tree words views) (held_law (rows_of tree 0 words) (claims_of views) l) m in
    let e : (row (rows_of tree 0 words) m).held ≡ slice_index words (held_word m) =
    ap (λ (r : Row). r.held) (rows_of-at tree 0 m m words there (omega arith)) in
    let f = rows_of-reservations tree 0 words in omega arith

-- what a claim that goes down makes of its row and of itself
abbrev pub fall_effect : List Fixed → ℕ → ℕ → ℕ → ℕ → ℕ → Effect
fall_effect tree held n size m amount =
    let r = found_row m (node tree m) held in
    let further = passed r.shape.parent (beyond_reservation r.shape.reservation (r.held - amount) r.held) in
    record {
      told = told_step (step_at m r amount) (is_none further);
      row = found_row m (node tree m) (held - amount);
      claim =
          claim_at n (goes_back further size);
    }

-- a charge that was released all the way, before other claims
settled_before : (c : Claim) (rest o : List Claim) → settled c (rest ++ o) ≡ settled c rest ++ o
settled_before c rest o = elim (is_in c.phase) as (λ b. cond b (rest ++ o) (c ∷ (rest ++ o)) ≡ cond b rest (c ∷ rest) ++ o)
    [ true ↦ refl | false ↦ refl ]

module _ (tree : List Fixed) (words : List ℕ) (limits : (n : ℕ) → n < length tree →
    slice_index words (limit_word n) ≡ (node tree n).limit) (wide : length words ≡ word_count (length tree))
    (n size m amount : ℕ) (o : List Claim) (l : IsLawfulFixedTree (account (rows_of tree 0 words) (claim_at n (Down size m amount) ∷ o)))
  where
    abbrev all_rows : List Row
    all_rows = rows_of tree 0 words

    abbrev held_now : ℕ
    held_now = slice_index words (held_word m)

    -- the level is one of the tree
    pub falls_there : m < length tree
    falls_there =
        let h = held_law all_rows (claim_at n (Down size m amount) ∷ o) l in
        let f = All-head (λ (x : Claim). ClaimFits (shapes all_rows) x.node x.under x.phase) (claim_at n (Down size m amount)) o h.claims in
        rw (← rows_of-length tree 0 words) (made_in all_rows m (h.tree.made m (reaches_open h.tree f.2 f.0)))

    -- it holds what is subtracted
    pub falls_covered : amount ≤ held_now
    falls_covered =
        let h = held_law all_rows (claim_at n (Down size m amount) ∷ o) l in
        let a = covered (account all_rows (claim_at n (Down size m amount) ∷ o)) h m (row_open tree words limits m falls_there) in
        let b = sum_by-cons (λ (x : Claim). pending_subtraction m x.phase) (claim_at n (Down size m amount)) o in
        let e : ◌≡◌ {A = ℕ} (cond (m == m) amount 0) amount = rw (eq-eqb m m refl) refl in
        let r = ap (λ (x : Row). x.held) (row_found tree words limits m falls_there) in omega arith

    -- the account after the subtraction
    pub fall_fixed : IsLawfulFixedTree (account (rows_of tree 0 (set words (held_word m) (held_now - amount)))
        (settled (fallen m (node tree m) held_now (claim_at n (Down size m amount))) o))
    fall_fixed =
        subst
        (λ (r : List Row). IsLawfulFixedTree (account r (settled (fallen m (node tree m) held_now (claim_at n (Down size m amount))) o)))
        (sym (row_written tree words limits m falls_there (held_now - amount) (let q = falls_there in omega arith)))
        (by (passed (found_row m (node tree m) held_now).shape.parent
        (beyond_reservation (found_row m (node tree m) held_now).shape.reservation (held_now - amount) held_now))
        (head_fixed all_rows (claim_at n (Down size m amount)) o (EventDown 0) (fall_effect tree held_now n size m amount) refl
        (subst (λ (r : Row). effect_of (EventDown 0) (claim_at n (Down size m amount)) r ≡ Some (fall_effect tree held_now n size m amount))
        (sym (row_found tree words limits m falls_there)) refl) l))
      where
        by : (further : Option (ℕ × ℕ)) →
            IsLawfulFixedTree (account (set all_rows m (found_row m (node tree m) (held_now - amount)))
            (claim_at n (goes_back further size) ∷ o))
            → IsLawfulFixedTree (account (set all_rows m (found_row m (node tree m) (held_now - amount)))
            (settled (claim_at n (goes_back further size)) o))
        by None k = in_less (set all_rows m (found_row m (node tree m) (held_now - amount))) n o k
        by (Some p) k = k

-- a subtraction of what a charge has pending
pub fall_moves : (tree : List Fixed) (words : List ℕ) (views : List View) (id : ℕ) (v w : View) → get_elem? views id ≡ some v
    → ((n : ℕ) → n < length tree → slice_index words (limit_word n) ≡ (node tree n).limit) → length words ≡ word_count (length tree)
    → (n size m amount : ℕ) (rest : List Claim) →
    IsLawfulFixedTree (account (rows_of tree 0 words) (claim_at n (Down size m amount) ∷ (rest ++ others views id)))
    → SameClaims (settled (fallen m (node tree m) (slice_index words (held_word m)) (claim_at n (Down size m amount))) rest) (its_charges w)
    → IsLawfulFixedTree (shown tree (set words (held_word m) (slice_index words (held_word m) - amount)) (set views id w))
fall_moves tree words views id v w at limits wide n size m amount rest l after =
    let c = fallen m (node tree m) (slice_index words (held_word m)) (claim_at n (Down size m amount)) in
    let rows = rows_of tree 0 (set words (held_word m) (slice_index words (held_word m) - amount)) in
    claims_in rows views id v w (settled c rest) at after
    (subst (λ (k : List Claim). IsLawfulFixedTree (account rows k)) (settled_before c rest (others views id))
    (fall_fixed tree words limits wide n size m amount (rest ++ others views id) l))
