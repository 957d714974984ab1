-- Peaks are read and raised.
use Rattle.std.proofs.Common.{◌≡◌, ℕ, ◌<◌, ◌≤◌, ◌≢◌, max, Bool, true, false, cond, ◌==◌, List, [], ◌∷◌, ◌++◌, length, set, map, slice_index}
use Rattle.std.proofs.Common.{refl, sym, ap, subst, arith, All, ⊎_elim, eq-eqb, get_or-set_same, get_or-set_other}
use mathlib.Core.Option.{some, none}
use lib.ListN.{get_elem?}
use Rattle.std.proofs.lemmas.Bool.{cases_eq}
use Rattle.std.proofs.lemmas.List.Elements.{All-head, All-weaker}
use Rattle.std.proofs.lemmas.List.Sums.{sum-map, sum_by_push}
use Rattle.atomic_table.specs.Table.{State, Me, Allows, step, keeps}
use Rattle.mem_model.specs.WorstCase.{worst_case}
use Rattle.acct_core.specs.Claims.{account}
use Rattle.acct_core.specs.Lawful.{IsLawfulFixedTree}
use Rattle.acct_core.proofs.SameClaimsLemmas.{same_self, All-right}
use Rattle.acct_words.specs.Entries.StepKind.{LoadWord, RaisePeak}
use Rattle.acct_words.specs.Entries.{Entry, InHistory, begun, peak_shown}
use Rattle.acct_words.specs.declared.rule.Said.{Said}
use Rattle.acct_words.specs.Views.{Start, View}
use Rattle.acct_words.specs.Places.{number_word, peak_word}
use Rattle.acct_words.specs.Rows.{claims_of, rows_of}
use Rattle.acct_words.specs.Moves.{reading}
use Rattle.acct_words.specs.Rule.{IsBounded, IsSoundTable, KnowsHistory, reservations}
use Rattle.acct_words.specs.Plays.{HasReached, TellsPeak, Raises, ReadsPeak, entry, stepping}
use Rattle.acct_words.proofs.ViewLemmas.{all_there}
use Rattle.acct_words.proofs.RowLemmas.{rows_of-peak, fixed_in-other}
use Rattle.acct_words.proofs.ClaimLemmas.{its_charges}
use Rattle.acct_words.proofs.AccountLemmas.{claims_move}
use Rattle.acct_words.proofs.KeptLemmas.{step_legal, step_kept, good_longer, no_peak}
use Rattle.acct_words.proofs.StepLemmas.{steps_more}
use Rattle.acct_words.proofs.LoadLemmas.{load_step, load_kept, reading_owed}

-- a peak is read
pub peak_allowed : (slots id : ℕ) (me : Me Said View) (m : ℕ) → m < length me.0.start.tree →
    Allows (IsSoundTable me.0.start) slots id me (peak_word m) (λ n. n) (ReadsPeak (step slots (peak_word m) 0 0 none) me)
peak_allowed slots id me m there s k _ at _ =
    let found : ℕ = slice_index s.words (peak_word m) in
    let e = entry (length k.history) (peak_word m) LoadWord found in
    let w = stepping reading me.0 e in
    let owed = reading_owed me.0.start s id me.0 k at (peak_word m) in
    let old = k.tokens id me.0 at in
    let p = k.peaks.bounded m there in
    let x = sum-map begun k.history in
    let known : KnowsHistory w = record {
      history = k.history ++ e ∷ [];
      legal = step_legal me.0.start s s.homes id me.0 w k at (peak_word m) found LoadWord
          (load_step me.0.start s s.homes id me.0 w k at (peak_word m) LoadWord owed);
      own_steps = owed.good.0.own_steps;
      observed = owed.good.0.observed;
    } in
    let within : found ≤ worst_case (map begun (k.history ++ e ∷ [])) (reservations me.0.start.tree) =
    (let q = sum-map begun (k.history ++ e ∷ []) in let r = sum_by_push begun k.history e in omega arith) in
    let shown : (steps : List Entry) → All (InHistory k.history) steps → All (λ (y : Entry). peak_shown m y ≤ found) steps =
    λ steps h. All-weaker (InHistory k.history) (λ (y : Entry). peak_shown m y ≤ found)
    (λ y i. all_there (λ (z : Entry). peak_shown m z ≤ found) k.history y.name y (k.peaks.reached m there) i) steps h in
    let tells : TellsPeak m found me.0 w = record {
      small = (let b = k.steps.legal.bytes in let q = k.layout.small.bytes in let u = k.layout.small.reservations in omega arith);
      bound = record { known = known; bound = within };
      own_steps = shown me.0.own.own_steps old.0.own_steps;
      observed = shown me.0.own.observed old.0.observed;
    } in (
      w,
      keeps,
      tt,
      load_kept me.0.start s s.homes id me.0 w k at (peak_word m) LoadWord owed,
      (
        (length k.history, refl),
        refl,
        λ level same. subst (λ (l : ℕ). TellsPeak l found me.0 w) (same_level level same) tells,
      ),
    )
  where
    same_level : (level : ℕ) → peak_word m ≡ peak_word level → m ≡ level
    same_level level same = omega arith

-- what an addition of a token's own led to is within the worst case
reached_bounded : (start : Start) (s : State Said View) (k : IsSoundTable start s) (id : ℕ) (v : View) (to : ℕ) →
    get_elem? s.views id ≡ some v → HasReached to v → to ≤ worst_case (map begun k.history) (reservations start.tree)
reached_bounded start s k id v to at h =
    let i = All-head (InHistory k.history) h.addition h.later (All-right (InHistory k.history) h.before (h.addition ∷ h.later)
    (subst (All (InHistory k.history)) h.made (k.tokens id v at).0.own_steps)) in
    let b = all_there (IsBounded start.tree k.history) k.history h.addition.name h.addition k.steps.legal.bounded i in
    let r = h.reaches in omega arith

-- and so a peak may be raised to it
pub raise_allowed : (slots id : ℕ) (me : Me Said View) (m to : ℕ) → m < length me.0.start.tree → HasReached to me.0 →
    Allows (IsSoundTable me.0.start) slots id me (peak_word m) (λ n. max n to) (Raises (step slots (peak_word m) to 0 none) me)
raise_allowed slots id me m to there reaches s k _ at _ =
    let n : ℕ = slice_index s.words (peak_word m) in
    let e = entry (length k.history) (peak_word m) (RaisePeak to) n in
    let w = stepping reading me.0 e in
    let old = k.tokens id me.0 at in
    let bound = reached_bounded me.0.start s k id me.0 to at reaches in
    let x = sum-map begun k.history in
    let p = k.peaks.bounded m there in
    let room : peak_word m < length s.words = (let q = k.layout.wide in omega arith) in
    let kept = step_kept me.0.start s s.homes id me.0 w k at (peak_word m) (max n to) (RaisePeak to) (record {
      lawful = subst (λ r. IsLawfulFixedTree (account r (claims_of (set s.views id w))))
          (sym (rows_of-peak me.0.start.tree 0 m (max n to) s.words))
          (claims_move (rows_of me.0.start.tree 0 s.words) s.views id me.0 w at (same_self (its_charges me.0)) k.accounts);
      fixed = λ j h. fixed_in-other j (peak_word m) (max n to) s.words (λ q. omega arith) (λ q. omega arith) (λ q. omega arith);
      next = (let o = get_or-set_other s.words (peak_word m) number_word (max n to) 0 (λ q. omega arith) in omega arith);
      bounded = omega arith;
      made = λ f. (let q = sum_by_push f me.0.own.own_steps e in omega arith);
      bytes = omega arith;
      turns = omega arith;
      sizes = omega arith;
      numbers = λ j. omega arith;
      fresh = λ j ne. zeros (n == j);
      good = (
        record {
          own_steps = steps_more k.history e me.0.own old.0 refl;
          observed = (good_longer k.history e me.0.own old.0).observed;
          chunks = old.0.chunks;
        },
        good_longer k.history e me.0.offer old.1,
      );
      known = k.known id me.0 at;
      peak = λ j h. ⊎_elim (here j (length k.history) s.words room) (elsewhere j (length k.history) s.words) (cases_eq m j);
      peak_bounded = λ j h. ⊎_elim
          (λ (same : m ≡ j). (let a = shown_here j (length k.history) n same in omega arith))
          (λ (ne : m ≢ j). (let a = no_peak j (length k.history) (peak_word m) n (RaisePeak to) (λ q. ne (omega arith)) in omega arith))
          (cases_eq m j);
    }) in (
      w,
      keeps,
      tt,
      kept,
      ((length k.history, refl), refl),
    )
  where
    zeros : (b : Bool) → ◌≡◌ {A = ℕ} (cond b 0 0) 0
    zeros true = refl
    zeros false = refl

    shown_here : (j name n : ℕ) → m ≡ j → peak_shown j (entry name (peak_word m) (RaisePeak to) n) ≡ max n to
    shown_here j name n same = rw (eq-eqb (peak_word m) (peak_word j) (omega arith)) refl

    here : (j name : ℕ) (words : List ℕ) → peak_word m < length words → m ≡ j →
        slice_index (set words (peak_word m) (max (slice_index words (peak_word m)) to)) (peak_word j)
        ≡ max (slice_index words (peak_word j)) (peak_shown j (entry name (peak_word m) (RaisePeak to) (slice_index words (peak_word m))))
    here j name words room same =
        let g = get_or-set_same words (peak_word m) (max (slice_index words (peak_word m)) to) 0 room in
        let a = shown_here j name (slice_index words (peak_word m)) same in
        let b = ap (λ (i : ℕ). slice_index words (peak_word i)) same in
        let c = ap (λ (i : ℕ). slice_index (set words (peak_word m) (max (slice_index words (peak_word m)) to)) (peak_word i)) same in
        omega arith

    elsewhere : (j name : ℕ) (words : List ℕ) → m ≢ j →
        slice_index (set words (peak_word m) (max (slice_index words (peak_word m)) to)) (peak_word j)
        ≡ max (slice_index words (peak_word j)) (peak_shown j (entry name (peak_word m) (RaisePeak to) (slice_index words (peak_word m))))
    elsewhere j name words ne =
        let g = get_or-set_other words (peak_word m) (peak_word j) (max (slice_index words (peak_word m)) to) 0 (λ q. ne (omega arith)) in
        let a = no_peak j name (peak_word m) (slice_index words (peak_word m)) (RaisePeak to) (λ q. ne (omega arith)) in omega arith
