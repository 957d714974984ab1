-- What each kind of step owes the rule.
use Rattle.std.proofs.Common.{◌≡◌, ℕ, ◌+◌, ◌%◌, ◌^◌, ◌<◌, ◌≤◌, Bool, true, false, not, cond, ◌&&◌, ◌==◌, List, [], ◌∷◌, ◌++◌, length}
use Rattle.std.proofs.Common.{slice_index, refl, sym, ap, ◌∙◌, subst, arith, sum_by, All, Option, Some, None}
use Rattle.mem_num.specs.declared.bounds.TheConstants.{MAX_RESERVATION}
use mathlib.Core.Option.{some, none}
use lib.ListN.{get_elem?}
use Rattle.std.proofs.lemmas.List.Elements.{All-head, All-tail, All-nil, All-cons, All-push}
use Rattle.std.proofs.lemmas.List.Sums.{sum_by-cons, sum_by_push}
use Rattle.atomic_table.specs.Table.{State, Me, Allows, step, keeps}
use Rattle.atomic_table.proofs.Lists.{at_last}
use Rattle.acct_core.specs.Claims.{Claim, claim_at}
use Rattle.acct_core.specs.declared.level_step.LevelStep.{LevelStep}
use Rattle.acct_core.specs.Phases.Phase.{Up, Held, Failed}
use Rattle.acct_core.specs.Effects.{passed, goes_on, step_at}
use Rattle.acct_core.specs.Phases.{any_past, size_of}
use Rattle.mem_model.specs.Reservation.{beyond_reservation}
use Rattle.acct_words.specs.Entries.StepKind.{BeginCharge, AddHeld}
use Rattle.acct_words.specs.Entries.{StepKind, Entry, InHistory}
use Rattle.acct_words.specs.declared.fixed.Fixed.{Fixed}
use Rattle.acct_words.specs.declared.rule.Said.{Said}
use Rattle.acct_words.specs.Views.{Start, Chunk, Body, View}
use Rattle.acct_words.specs.Places.{held_word}
use Rattle.acct_words.specs.Rows.{node, charges_of, claims_of, ComesAfterParent}
use Rattle.acct_words.specs.Moves.{found_row, risen, charged_as, first_chunk, first_charge, beginning, rising}
use Rattle.acct_words.specs.Rule.{IsGoodChunk, IsGoodBody, IsSoundTable}
use Rattle.acct_words.specs.Plays.{entry, stepping, knowing, StepsAt, Begins, Rises}
use Rattle.acct_core.specs.SameClaims.{SameClaims}
use Rattle.acct_core.proofs.SameClaimsLemmas.{same_then, same_before, same_path}
use Rattle.acct_words.proofs.ClaimLemmas.{its_charges, others, taken_out}
use Rattle.acct_words.proofs.RowLemmas.{limits_of}
use Rattle.acct_words.proofs.AccountLemmas.{begin_moves, rise_moves, rises_there, row_after}
use Rattle.acct_words.proofs.KeptLemmas.{in_longer, good_longer, known_more}
use Rattle.acct_words.proofs.BoundLemmas.{IsAddition, addition_small, addition_kept}

-- a claim that goes up keeps its size
pub size_risen : (f : Fixed) (found n size m amount : ℕ) (forced : Bool) (steps : List LevelStep) →
    size_of (risen m f found (claim_at n (Up size m amount forced steps))).phase ≡ size
size_risen f found n size m amount forced steps =
    go (passed (found_row m f found).shape.parent (beyond_reservation f.reservation found (found + amount)))
    (steps ++ step_at m (found_row m f found) amount ∷ [])
  where
    go : (o : Option (ℕ × ℕ)) (all : List LevelStep) → size_of (goes_on o size forced all) ≡ size
    go (Some pair) all = refl
    go None all = elim (not forced && any_past all) as (λ b. size_of (cond b (Failed size forced all) (Held size forced all))
        ≡ size) [ true ↦ refl | false ↦ refl ]

-- the steps of a good body with one more
pub steps_more : (history : List Entry) (e : Entry) (b : Body) → IsGoodBody history b → e.name ≡ length history →
    All (InHistory (history ++ e ∷ [])) (b.own_steps ++ e ∷ [])
steps_more history e b g name = All-push (InHistory (history ++ e ∷ [])) b.own_steps e (in_longer history e b.own_steps g.own_steps)
    (at_last history e e.name (sym name))

-- the charges of a view whose first chunk is this
pub first_charges : (v : View) (k : Chunk) (chunks : List Chunk) → v.own.chunks ≡ k ∷ chunks →
    its_charges v ≡ (k.charges ++ charges_of chunks) ++ charges_of v.offer.chunks
first_charges v k chunks e = ap (λ (l : List Chunk). charges_of l ++ charges_of v.offer.chunks) e

-- a chunk with charges of at most its size
good_chunk : (number size : ℕ) (c : Claim) → size_of c.phase ≤ size →
    IsGoodChunk (record { number = number; size = size; charges = c ∷ [] })
good_chunk number size c le = record {
  few = omega arith;
  whole = All-cons (λ (x : Claim). size_of x.phase ≤ size) c [] le
      (All-nil (λ (x : Claim). size_of x.phase ≤ size));
}

-- a level that is told by its held word
pub at_level : (act : StepKind) (make : ℕ → Fixed → Body → Entry → Body) (m found : ℕ) (v w : View) → StepsAt act make m found v w →
    (level : ℕ) → held_word m ≡ held_word level → StepsAt act make level found v w
at_level act make m found v w made level same = subst (λ (l : ℕ). StepsAt act make l found v w) level_is made
  where
    level_is : m ≡ level
    level_is = omega arith

-- an allocator of the table comes after its parent
pub comes_after : (start : Start) (s : State Said View) (k : IsSoundTable start s) (m : ℕ) → m < length start.tree →
    ComesAfterParent m (node start.tree m)
comes_after start s k m there =
    row_after start.tree s.words (limits_of start.tree s.words k.layout.fixed) m there (claims_of s.views) k.accounts

-- a charge begins
module _ (slots id : ℕ) (me : Me Said View) (m size : ℕ) (k₀ : Chunk) (chunks : List Chunk) (is : me.0.own.chunks ≡ k₀ ∷ chunks)
    (empty : k₀.charges ≡ [])
    (some_size : 1 ≤ size) (small : size ≤ MAX_RESERVATION) (paid : size ≤ me.0.own.bytes) (there : m < length me.0.start.tree)
    (s : State Said View) (k : IsSoundTable me.0.start s) (at : get_elem? s.views id ≡ some me.0) where
  abbrev found : ℕ
  found = slice_index s.words (held_word m)

  abbrev e : Entry
  e = entry (length k.history) (held_word m) (BeginCharge size) found

  abbrev f : Fixed
  f = node me.0.start.tree m

  abbrev w : View
  w = stepping (beginning size m f) (knowing m f me.0) e

  abbrev c : Claim
  c = risen m f found (claim_at m (Up size m size false []))

  abbrev k₁ : Chunk
  k₁ = record { number = k₀.number; size = size; charges = c ∷ [] }

  chunks_after : w.own.chunks ≡ k₁ ∷ chunks
  chunks_after = ap (first_chunk (λ (k : Chunk). record { number = k.number; size = size; charges = c ∷ [] })) is

  begin_addition : IsAddition me.0.start s s.homes id me.0 w k at m size (BeginCharge size) there (λ n. refl) refl refl
  begin_addition = record {
    lawful = begin_moves me.0.start.tree s.words s.views id me.0 w at (limits_of me.0.start.tree s.words k.layout.fixed)
        k.layout.wide m size there false
        (charges_of chunks ++ charges_of me.0.offer.chunks) some_size small
        (same_path (its_charges me.0) (charges_of chunks ++ charges_of me.0.offer.chunks) (first_charges me.0 k₀ chunks is
        ∙ ap (λ (l : List Claim). (l ++ charges_of chunks) ++ charges_of me.0.offer.chunks) empty))
        (same_path (c ∷ (charges_of chunks ++ charges_of me.0.offer.chunks)) (its_charges w) (sym (first_charges w k₁ chunks chunks_after)))
        k.accounts;
    made = λ f. (let q = sum_by_push f me.0.own.own_steps e in omega arith);
    bytes = omega arith;
    turns = omega arith;
    sizes = (let a = ap (sum_by (λ (k : Chunk). k.size)) chunks_after in let b = sum_by-cons (λ (k : Chunk). k.size) k₁ chunks in let d =
        ap (sum_by (λ (k : Chunk). k.size)) is in let f = sum_by-cons (λ (k : Chunk). k.size) k₀ chunks in omega arith);
    numbers = λ n. (let g : Chunk → ℕ = λ k. cond (k.number == n) 1 0 in let a = ap (sum_by g) chunks_after in let b =
        sum_by-cons g k₁ chunks in let d = ap (sum_by g) is in let f = sum_by-cons g k₀ chunks in omega arith);
    good = (let old = k.tokens id me.0 at in (
      record {
        own_steps = steps_more k.history e me.0.own old.0 refl;
        observed = (good_longer k.history e me.0.own old.0).observed;
        chunks = subst (All IsGoodChunk) (sym chunks_after) (All-cons IsGoodChunk k₁ chunks (good_chunk k₀.number size c (let z =
            size_risen f found m size m size false [] in omega arith))
            (All-tail IsGoodChunk k₀ chunks (subst (All IsGoodChunk) is old.0.chunks)));
      },
      good_longer k.history e me.0.offer old.1,
    ));
    known = known_more me.0.start m me.0.known there (k.known id me.0 at);
  }

pub begins_allowed : (slots id : ℕ) (me : Me Said View) (m size : ℕ) (k₀ : Chunk) (chunks : List Chunk) → me.0.own.chunks ≡ k₀ ∷ chunks →
    k₀.charges ≡ [] → 1 ≤ size → size ≤ MAX_RESERVATION → size ≤ me.0.own.bytes → m < length me.0.start.tree
    → Allows (IsSoundTable me.0.start) slots id me (held_word m) (λ n. (n + size) % 2 ^ 64)
    (Begins (step slots (held_word m) size 0 none) me)
begins_allowed slots id me m size k₀ chunks is empty some_size small paid there s k _ at _ =
    let b = begin_addition slots id me m size k₀ chunks is empty some_size small paid there s k at in
    let v = w slots id me m size k₀ chunks is empty some_size small paid there s k at in (
      v,
      keeps,
      tt,
      addition_kept me.0.start s s.homes id me.0 v k at m size (BeginCharge size) there (λ n. refl) refl refl b,
      (
        at_level (BeginCharge size) (beginning size) m (slice_index s.words (held_word m)) me.0 v (record {
          fixed = node me.0.start.tree m;
          made = (length k.history, refl);
          after_parent = comes_after me.0.start s k m there;
        }),
        refl,
        addition_small me.0.start s s.homes id me.0 v k at m size (BeginCharge size) there
            (λ n. refl) refl refl b,
      ),
    )

-- a charge goes up
module _ (slots id : ℕ) (me : Me Said View) (n size m amount : ℕ) (forced : Bool) (steps : List LevelStep) (k₀ : Chunk)
    (chunks : List Chunk) (rest : List Claim) (is : me.0.own.chunks ≡ k₀ ∷ chunks)
    (up : k₀.charges ≡ claim_at n (Up size m amount forced steps) ∷ rest) (s : State Said View) (k : IsSoundTable me.0.start s)
    (at : get_elem? s.views id ≡ some me.0) where
  abbrev level : ℕ
  level = slice_index s.words (held_word m)

  abbrev step_made : Entry
  step_made = entry (length k.history) (held_word m) (AddHeld amount) level

  abbrev its : Fixed
  its = node me.0.start.tree m

  abbrev risen_view : View
  risen_view = stepping (rising m its) (knowing m its me.0) step_made

  abbrev before : Claim
  before = claim_at n (Up size m amount forced steps)

  abbrev after : Claim
  after = risen m its level before

  abbrev k₂ : Chunk
  k₂ = charged_as k₀ (after ∷ rest)

  abbrev all_rest : List Claim
  all_rest = (rest ++ charges_of chunks) ++ charges_of me.0.offer.chunks

  chunks_risen : risen_view.own.chunks ≡ k₂ ∷ chunks
  chunks_risen = ap (first_chunk (λ (k : Chunk). charged_as k (first_charge (risen m its level) k.charges))) is
      ∙ ap (λ (l : List Claim). charged_as k₀ (first_charge (risen m its level) l) ∷ chunks) up

  same_before_it : SameClaims (its_charges me.0) (before ∷ all_rest)
  same_before_it = same_path (its_charges me.0) (before ∷ all_rest) (first_charges me.0 k₀ chunks is
      ∙ ap (λ (l : List Claim). (l ++ charges_of chunks) ++ charges_of me.0.offer.chunks) up)

  pub level_there : m < length me.0.start.tree
  level_there = rises_there me.0.start.tree s.words (claims_of s.views) n size m amount forced steps (all_rest ++ others s.views id)
      (same_then (claims_of s.views) (its_charges me.0 ++ others s.views id) (before ∷ (all_rest ++ others s.views id))
      (taken_out s.views id me.0 at)
      (same_before (its_charges me.0) (before ∷ all_rest) (others s.views id) same_before_it)) k.accounts

  good_risen : IsGoodChunk k₀ → IsGoodChunk k₂
  good_risen g = let q = subst (All (λ (x : Claim). size_of x.phase ≤ k₀.size)) up g.whole in record {
    few = (let f = ap length up in let h = g.few in omega arith);
    whole = All-cons (λ (x : Claim). size_of x.phase ≤ k₀.size) after rest
        (let z = size_risen its level n size m amount forced steps in let y =
        All-head (λ (x : Claim). size_of x.phase ≤ k₀.size) before rest q in omega arith)
        (All-tail (λ (x : Claim). size_of x.phase ≤ k₀.size) before rest q);
  }

  rise_addition : IsAddition me.0.start s s.homes id me.0 risen_view k at m amount (AddHeld amount) level_there (λ n. refl) refl refl
  rise_addition = record {
    lawful = rise_moves me.0.start.tree s.words s.views id me.0 risen_view at
        (limits_of me.0.start.tree s.words k.layout.fixed) k.layout.wide m amount level_there n size
        forced steps all_rest same_before_it
        (same_path (after ∷ all_rest) (its_charges risen_view) (sym (first_charges risen_view k₂ chunks chunks_risen))) k.accounts;
    made = λ f. (let q = sum_by_push f me.0.own.own_steps step_made in omega arith);
    bytes = omega arith;
    turns = omega arith;
    sizes = (let a = ap (sum_by (λ (k : Chunk). k.size)) chunks_risen in let b = sum_by-cons (λ (k : Chunk). k.size) k₂ chunks in let d =
        ap (sum_by (λ (k : Chunk). k.size)) is in let f = sum_by-cons (λ (k : Chunk). k.size) k₀ chunks in omega arith);
    numbers = λ n. (let g : Chunk → ℕ = λ k. cond (k.number == n) 1 0 in let a = ap (sum_by g) chunks_risen in let b =
        sum_by-cons g k₂ chunks in let d = ap (sum_by g) is in let f = sum_by-cons g k₀ chunks in omega arith);
    good = (let old = k.tokens id me.0 at in let all = subst (All IsGoodChunk) is old.0.chunks in (
      record {
        own_steps = steps_more k.history step_made me.0.own old.0 refl;
        observed = (good_longer k.history step_made me.0.own old.0).observed;
        chunks = subst (All IsGoodChunk) (sym chunks_risen)
            (All-cons IsGoodChunk k₂ chunks (good_risen (All-head IsGoodChunk k₀ chunks all)) (All-tail IsGoodChunk k₀ chunks all));
      },
      good_longer k.history step_made me.0.offer old.1,
    ));
    known = known_more me.0.start m me.0.known level_there (k.known id me.0 at);
  }

pub rises_allowed : (slots id : ℕ) (me : Me Said View) (n size m amount : ℕ) (forced : Bool) (steps : List LevelStep) (k₀ : Chunk)
    (chunks : List Chunk) (rest : List Claim) → me.0.own.chunks ≡ k₀ ∷ chunks
    → k₀.charges ≡ claim_at n (Up size m amount forced steps) ∷ rest → Allows (IsSoundTable me.0.start) slots id me (held_word m)
    (λ n. (n + amount) % 2 ^ 64) (Rises (step slots (held_word m) amount 0 none) me)
rises_allowed slots id me n size m amount forced steps k₀ chunks rest is up s k _ at _ =
    let b = rise_addition slots id me n size m amount forced steps k₀ chunks rest is up s k at in
    let there = level_there slots id me n size m amount forced steps k₀ chunks rest is up s k at in
    let v = risen_view slots id me n size m amount forced steps k₀ chunks rest is up s k at in (
      v,
      keeps,
      tt,
      addition_kept me.0.start s s.homes id me.0 v k at m amount (AddHeld amount) there (λ n. refl) refl refl b,
      (
        at_level (AddHeld amount) rising m (slice_index s.words (held_word m)) me.0 v (record {
          fixed = node me.0.start.tree m;
          made = (length k.history, refl);
          after_parent = comes_after me.0.start s k m there;
        }),
        refl,
        addition_small me.0.start s s.homes id me.0 v k at m amount (AddHeld amount) there
            (λ n. refl) refl refl b,
      ),
    )
