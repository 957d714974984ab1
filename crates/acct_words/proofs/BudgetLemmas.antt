-- Budgets that are cut and counted.
use Rattle.std.proofs.Common.{◌≡◌, ℕ, ◌≤◌, [], ◌∷◌, ◌++◌, length, set, slice_index, refl, ap, subst, arith, eqb}
use mathlib.Core.Option.{some, none}
use prog.Atomic.{either}
use Rattle.std.proofs.lemmas.List.Elements.{All-nil}
use Rattle.std.proofs.lemmas.List.Sums.{sum_by_push}
use Rattle.atomic_table.specs.Table.{Me, Allows, step, keeps}
use Rattle.atomic_table.proofs.Lists.{exchanged}
use Rattle.acct_words.specs.Entries.StepKind.{LoadWord}
use Rattle.acct_words.specs.declared.rule.Said.{Said}
use Rattle.acct_words.specs.Views.{Body, View}
use Rattle.acct_words.specs.Entries.{InHistory}
use Rattle.acct_words.specs.Bodies.{nothing, of_view, made, bytes_left, turns_left}
use Rattle.acct_words.specs.Rows.{charges_of}
use Rattle.acct_words.specs.Moves.{reading}
use Rattle.acct_words.specs.Rule.{IsGoodChunk, IsSoundTable}
use Rattle.acct_words.specs.Plays.{entry, stepping, Counts, Pays, paying_view}
use Rattle.acct_words.proofs.ViewLemmas.{at_most}
use Rattle.acct_core.proofs.SameClaimsLemmas.{same_path}
use Rattle.acct_words.proofs.ClaimLemmas.{its_charges}
use Rattle.acct_words.proofs.KeptLemmas.{good_longer}
use Rattle.acct_words.proofs.StepLemmas.{steps_more}
use Rattle.acct_words.proofs.LoadLemmas.{quiet_load, load_kept, reading_owed}

-- a load that reads the budget
pub counts_allowed : (slots id i : ℕ) (me : Me Said View) → Allows (IsSoundTable me.0.start) slots id me i (λ n. n)
    (Counts (step slots i 0 0 none) me)
counts_allowed slots id i me s k _ at _ =
    let w = stepping reading me.0 (entry (length k.history) i LoadWord (slice_index s.words i)) in (
      w,
      keeps,
      tt,
      load_kept me.0.start s s.homes id me.0 w k at i LoadWord (reading_owed me.0.start s id me.0 k at i),
      (
        (length k.history, refl),
        refl,
        (let a = at_most (of_view bytes_left) s.views id me.0 at in let b = k.budget.bytes in let c = k.layout.small.bytes in omega arith),
        (let a = at_most (of_view turns_left) s.views id me.0 at in let b = k.budget.turns in let c = k.layout.small.turns in omega arith),
      ),
    )

-- a part of the budget is offered; the word stays as it is
pub pays_allowed : (slots id i : ℕ) (me : Me Said View) (said : Said) → me.0.offer ≡ nothing → said.bytes ≤ me.0.own.bytes →
    said.turns ≤ me.0.own.turns
    → Allows (IsSoundTable me.0.start) slots id me i (λ n. either (eqb n 0) 0 n) (Pays (step slots i 0 0 (some said)) me)
pays_allowed slots id i me said none_offered bytes turns s k _ at _ =
    let n : ℕ = slice_index s.words i in
    let e = entry (length k.history) i LoadWord n in
    let w = paying_view me.0 said.bytes said.turns (length k.history) i n in
    let old = k.tokens id me.0 at in
    let kept = load_kept me.0.start s s.homes id me.0 w k at i LoadWord (record {
      quiet = quiet_load;
      claims = same_path (its_charges me.0) (its_charges w) (ap (λ (b : Body). charges_of me.0.own.chunks ++ charges_of b.chunks)
          none_offered);
      made = λ f. (let q = sum_by_push f me.0.own.own_steps e in let z = ap (made f) none_offered in omega arith);
      bytes = omega arith;
      turns = omega arith;
      sizes = omega arith;
      numbers = λ m. omega arith;
      good = (
        record {
          own_steps = steps_more k.history e me.0.own old.0 refl;
          observed = (good_longer k.history e me.0.own old.0).observed;
          chunks = old.0.chunks;
        },
        record {
          own_steps = All-nil (InHistory (k.history ++ e ∷ []));
          observed = All-nil (InHistory (k.history ++ e ∷ []));
          chunks =
              All-nil IsGoodChunk;
        },
      );
      known = k.known id me.0 at;
    }) in (
      w,
      keeps,
      tt,
      exchanged n 0 0 (λ (m : ℕ). IsSoundTable me.0.start (record { words = set s.words i m; homes = s.homes; views = set s.views id w }))
          (λ hit. subst (λ (m : ℕ). IsSoundTable me.0.start (record {
            words = set s.words i m;
            homes = s.homes;
            views =
                set s.views id w;
          })) hit kept) (λ miss. kept),
      (length k.history, refl),
    )
