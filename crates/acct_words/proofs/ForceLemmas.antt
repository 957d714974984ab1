-- What the first step of a force owes the rule.
use Rattle.std.proofs.Common.{◌≡◌, ℕ, ◌+◌, ◌%◌, ◌^◌, ◌<◌, ◌≤◌, true, cond, ◌==◌, List, [], ◌∷◌, ◌++◌, length, slice_index, refl, sym, ap}
use Rattle.std.proofs.Common.{subst, arith, sum_by, All}
use Rattle.mem_num.specs.declared.bounds.TheConstants.{MAX_RESERVATION}
use mathlib.Core.Option.{some, none}
use lib.ListN.{get_elem?}
use Rattle.std.proofs.lemmas.List.Elements.{All-head, All-tail, All-cons}
use Rattle.std.proofs.lemmas.List.Sums.{sum_by-cons, sum_by_push}
use Rattle.atomic_table.specs.Table.{State, Me, Allows, step, keeps}
use Rattle.acct_core.specs.Claims.{Claim, claim_at}
use Rattle.acct_core.specs.Phases.Phase.{Up}
use Rattle.acct_core.specs.Phases.{size_of}
use Rattle.acct_words.specs.Entries.StepKind.{AddHeld}
use Rattle.acct_words.specs.Entries.{Entry}
use Rattle.acct_words.specs.declared.fixed.Fixed.{Fixed}
use Rattle.acct_words.specs.declared.rule.Said.{Said}
use Rattle.acct_words.specs.Views.{Chunk, View}
use Rattle.acct_words.specs.Places.{held_word}
use Rattle.acct_words.specs.Rows.{node, charges_of}
use Rattle.acct_words.specs.Moves.{risen, charged_as, first_chunk, forcing}
use Rattle.acct_words.specs.Rule.{IsGoodChunk, IsSoundTable}
use Rattle.acct_words.specs.Plays.{entry, stepping, knowing, Forces}
use Rattle.acct_core.proofs.SameClaimsLemmas.{same_path}
use Rattle.acct_words.proofs.ClaimLemmas.{its_charges}
use Rattle.acct_words.proofs.RowLemmas.{limits_of}
use Rattle.acct_words.proofs.AccountLemmas.{begin_moves}
use Rattle.acct_words.proofs.KeptLemmas.{good_longer, known_more}
use Rattle.acct_words.proofs.StepLemmas.{size_risen, steps_more, first_charges, at_level, comes_after}
use Rattle.acct_words.proofs.BoundLemmas.{IsAddition, addition_small, addition_kept}

-- a chunk's size is forced onto m
module _ (slots id : ℕ) (me : Me Said View) (m size : ℕ) (k₀ : Chunk) (chunks : List Chunk) (is : me.0.own.chunks ≡ k₀ ∷ chunks)
    (one : length k₀.charges ≤ 1) (size_is : k₀.size ≡ size)
    (some_size : 1 ≤ size) (small : size ≤ MAX_RESERVATION) (there : m < length me.0.start.tree) (s : State Said View)
    (k : IsSoundTable me.0.start s) (at : get_elem? s.views id ≡ some me.0) where
  abbrev found : ℕ
  found = slice_index s.words (held_word m)

  abbrev e : Entry
  e = entry (length k.history) (held_word m) (AddHeld size) found

  abbrev f : Fixed
  f = node me.0.start.tree m

  abbrev w : View
  w = stepping (forcing size m f) (knowing m f me.0) e

  abbrev c : Claim
  c = risen m f found (claim_at m (Up size m size true []))

  abbrev k₁ : Chunk
  k₁ = charged_as k₀ (c ∷ k₀.charges)

  abbrev all_rest : List Claim
  all_rest = (k₀.charges ++ charges_of chunks) ++ charges_of me.0.offer.chunks

  chunks_after : w.own.chunks ≡ k₁ ∷ chunks
  chunks_after = ap (first_chunk (λ (k : Chunk). charged_as k (c ∷ k.charges))) is

  good_after : IsGoodChunk k₀ → IsGoodChunk k₁
  good_after g = record {
    few = omega arith;
    whole = All-cons (λ (x : Claim). size_of x.phase ≤ k₀.size) c k₀.charges (let z =
        size_risen f found m size m size true [] in omega arith) g.whole;
  }

  force_addition : IsAddition me.0.start s s.homes id me.0 w k at m size (AddHeld size) there (λ n. refl) refl refl
  force_addition = record {
    lawful = begin_moves me.0.start.tree s.words s.views id me.0 w at (limits_of me.0.start.tree s.words k.layout.fixed)
        k.layout.wide m size there true all_rest some_size
        small
        (same_path (its_charges me.0) all_rest (first_charges me.0 k₀ chunks is))
        (same_path (c ∷ all_rest) (its_charges w) (sym (first_charges w k₁ chunks chunks_after)))
        k.accounts;
    made = λ f. (let q = sum_by_push f me.0.own.own_steps e in omega arith);
    bytes = omega arith;
    turns = omega arith;
    sizes = (let a = ap (sum_by (λ (k : Chunk). k.size)) chunks_after in let b = sum_by-cons (λ (k : Chunk). k.size) k₁ chunks in let d =
        ap (sum_by (λ (k : Chunk). k.size)) is in let f = sum_by-cons (λ (k : Chunk). k.size) k₀ chunks in omega arith);
    numbers = λ n. (let g : Chunk → ℕ = λ k. cond (k.number == n) 1 0 in let a = ap (sum_by g) chunks_after in let b =
        sum_by-cons g k₁ chunks in let d = ap (sum_by g) is in let f = sum_by-cons g k₀ chunks in omega arith);
    good = (let old = k.tokens id me.0 at in let its = subst (All IsGoodChunk) is old.0.chunks in (
      record {
        own_steps = steps_more k.history e me.0.own old.0 refl;
        observed = (good_longer k.history e me.0.own old.0).observed;
        chunks = subst (All IsGoodChunk) (sym chunks_after)
            (All-cons IsGoodChunk k₁ chunks (good_after (All-head IsGoodChunk k₀ chunks its)) (All-tail IsGoodChunk k₀ chunks its));
      },
      good_longer k.history e me.0.offer old.1,
    ));
    known = known_more me.0.start m me.0.known there (k.known id me.0 at);
  }

pub forces_allowed : (slots id : ℕ) (me : Me Said View) (m size : ℕ) (k₀ : Chunk) (chunks : List Chunk) → me.0.own.chunks ≡ k₀ ∷ chunks →
    length k₀.charges ≤ 1 → k₀.size ≡ size → 1 ≤ size → size ≤ MAX_RESERVATION → m < length me.0.start.tree
    → Allows (IsSoundTable me.0.start) slots id me (held_word m) (λ n. (n + size) % 2 ^ 64)
    (Forces (step slots (held_word m) size 0 none) me)
forces_allowed slots id me m size k₀ chunks is one size_is some_size small there s k _ at _ =
    let b = force_addition slots id me m size k₀ chunks is one size_is some_size small there s k at in
    let v = w slots id me m size k₀ chunks is one size_is some_size small there s k at in (
      v,
      keeps,
      tt,
      addition_kept me.0.start s s.homes id me.0 v k at m size (AddHeld size) there (λ n. refl) refl refl b,
      (
        at_level (AddHeld size) (forcing size) m (slice_index s.words (held_word m)) me.0 v (record {
          fixed = node me.0.start.tree m;
          made = (length k.history, refl);
          after_parent = comes_after me.0.start s k m there;
        }),
        refl,
        addition_small me.0.start s s.homes id me.0 v k at m size (AddHeld size) there
            (λ n. refl) refl refl b,
      ),
    )
