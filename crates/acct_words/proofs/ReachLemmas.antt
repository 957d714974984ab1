-- Peaks have reached what was charged.
use Rattle.std.proofs.Common.{◌≡◌, ℕ, ◌+◌, ◌≤◌, max, Bool, true, false, not, ◌||◌, List, [], ◌∷◌, ◌++◌, Option, Some, None}
use Rattle.std.proofs.Common.{refl, sym, ap, ◌∙◌, subst, arith, All, ◌⊎◌, ⊎_elim, inl, inr, eq-eqb}
use Rattle.std.proofs.lemmas.Bool.{le-ltb, true≢false}
use Rattle.std.proofs.lemmas.List.Elements.{All-head, All-tail}
use Rattle.std.proofs.lemmas.List.Folds.{list_any-append}
use Rattle.acct_core.specs.declared.level_step.LevelStep.{LevelStep}
use Rattle.acct_core.specs.Phases.{is_past, any_past}
use Rattle.acct_core.proofs.SameClaimsLemmas.{All-left, All-right}
use Rattle.acct_words.specs.Entries.{Entry, raised_to, peak_shown}
use Rattle.acct_words.specs.Places.{peak_word}
use Rattle.acct_words.specs.Climbs.{Climbs, IsRaise, is_due, level_step}
use Rattle.acct_words.specs.Climbs.Climbs.{begins, adds}
use Rattle.acct_words.specs.Climbs.IsRaise.{none, still, raised}
use Rattle.acct_words.specs.Tokens.{History}
use Rattle.acct_words.specs.CallHistories.{HasCharged, HasForced, StaysWithinLimit}

-- a list with one more isn't empty
one_is_some : (steps : List LevelStep) (step : LevelStep) → steps ++ step ∷ [] ≡ [] → ⊥
one_is_some [] step e = absurd cc
one_is_some (s ∷ steps) step e = absurd cc

-- a way up without a step asks its allocator for all
next_at_first : {at size : ℕ} {forced : Bool} {entries : List Entry} {steps : List LevelStep} {next : Option (ℕ × ℕ)} →
    Climbs at size forced entries steps next → steps ≡ [] → next ≡ Some (at, size)
next_at_first begins e = refl
next_at_first (adds {steps = steps} {level = level} {amount = amount} fixed addition limit reservation parent raise climb is due) e =
    absurd (one_is_some steps (level_step level fixed amount addition.found) e)

-- where all steps stayed within their limits, so did the first ones
due_before : (forced : Bool) (steps : List LevelStep) (step : LevelStep) → is_due forced (steps ++ step ∷ []) ≡ true →
    is_due forced steps ≡ true
due_before forced steps step e = by forced (any_past steps) (any_past (step ∷ []))
    (ap (λ (b : Bool). forced || not b) (sym (list_any-append is_past steps (step ∷ []))) ∙ e)
  where
    by : (f a b : Bool) → (f || not (a || b)) ≡ true → (f || not a) ≡ true
    by true a b e = refl
    by false false b e = refl
    by false true b e = e

module _ (at peak : ℕ) where
  -- the entry shows no more than the peak
  abbrev IsBelow : Entry → Type 0
  IsBelow entry = peak_shown at entry ≤ peak

  -- a peak that was due has been reached
  raise_reached : (to : ℕ) {due : Bool} {raise : List Entry} → IsRaise at to due raise → due ≡ true → All IsBelow raise → to ≤ peak
  raise_reached to none e h = absurd (true≢false (sym e))
  raise_reached to (still load is reached) e h =
      let b = All-head IsBelow load [] h in
      let s : peak_shown at load ≡ max load.found (raised_to load.kind) = rw (eq-eqb load.word (peak_word at) is.word_is) refl in
      omega arith
  raise_reached to (raised load raise is word kind) e h =
      let b = All-head IsBelow raise [] (All-tail IsBelow load (raise ∷ []) h) in
      let s : peak_shown at raise ≡ max raise.found (raised_to raise.kind) = rw (eq-eqb raise.word (peak_word at) word) refl in
      let r : raised_to raise.kind ≡ to = ap raised_to kind in omega arith

  -- the first level's peak has reached the size
  first_reached : (size : ℕ) {forced : Bool} {entries : List Entry} {steps : List LevelStep} {next : Option (ℕ × ℕ)} →
      Climbs at size forced entries steps next → is_due forced steps ≡ true → All IsBelow entries → (steps ≡ []) ⊎ (size ≤ peak)
  first_reached size begins e h = inl refl
  first_reached size {forced = forced} (adds {entries = entries} {steps = steps} {level = level} {amount = amount} fixed addition limit
      reservation parent raise climb is due) e h =
      let rest : List Entry = addition ∷ limit ∷ reservation ∷ parent ∷ raise in
      let step = level_step level fixed amount addition.found in
      let below = All-right IsBelow entries rest h in
      let raised_ones = All-tail IsBelow parent raise (All-tail IsBelow reservation (parent ∷ raise)
      (All-tail IsBelow limit (reservation ∷ parent ∷ raise) (All-tail IsBelow addition (limit ∷ reservation ∷ parent ∷ raise) below))) in
      ⊎_elim
      (λ (none_before : steps ≡ []). inr (here level amount addition.found raise (next_at_first climb none_before) due e raised_ones))
      (λ (r : size ≤ peak). inr r)
      (first_reached size climb (due_before forced steps step e) (All-left IsBelow entries rest h))
    where
      level_in : Option (ℕ × ℕ) → ℕ
      level_in None = 0
      level_in (Some p) = p.0

      amount_in : Option (ℕ × ℕ) → ℕ
      amount_in None = 0
      amount_in (Some p) = p.1

      here : (level amount found : ℕ) (raise : List Entry) {due : Bool} →
          ◌≡◌ {A = Option (ℕ × ℕ)} (Some (level, amount)) (Some (at, size)) →
          IsRaise level (found + amount) due raise → due ≡ true → All IsBelow raise → size ≤ peak
      here level amount found raise {due} first is e h =
          let l : level ≡ at = ap level_in first in
          let a : amount ≡ size = ap amount_in first in
          let r = raise_reached (found + amount) (subst (λ (n : ℕ). IsRaise n (found + amount) due raise) l is) e h in omega arith

  -- all the way up
  whole_reached : (size : ℕ) {forced : Bool} {entries : List Entry} {steps : List LevelStep} → Climbs at size forced entries steps None →
      is_due forced steps ≡ true → All IsBelow entries → size ≤ peak
  whole_reached size {forced} {entries} {steps} climb e h = ⊎_elim
      (λ (none_made : steps ≡ []). absurd (none_some (next_at_first climb none_made)))
      (λ (r : size ≤ peak). r)
      (first_reached size climb e h)
    where
      none_some : ◌≡◌ {A = Option (ℕ × ℕ)} None (Some (at, size)) → ⊥
      none_some e = absurd cc

-- where each step stayed within its limit, none went past it
none_went_past : (steps : List LevelStep) → All StaysWithinLimit steps → any_past steps ≡ false
none_went_past [] h = refl
none_went_past (s ∷ steps) h =
    let a = All-head StaysWithinLimit s steps h in
    let p : is_past s ≡ false = le-ltb s.limit (s.old + s.amount) a in
    ap (λ (b : Bool). b || any_past steps) p ∙ none_went_past steps (All-tail StaysWithinLimit s steps h)

-- after a charge whoever knows its steps knows that the peak has reached its size
pub charge_reached : (at size number : ℕ) (old new : History) → HasCharged at size number old new →
    (peak : ℕ) → All (λ entry. peak_shown at entry ≤ peak) new.own → size ≤ peak
charge_reached at size number old new h peak below =
    let P : Entry → Type 0 = λ entry. peak_shown at entry ≤ peak in
    let all = subst (All P) h.made.own below in
    let made = All-right P old.own (h.draw ∷ (h.up ++ h.pause ∷ [])) all in
    let up = All-left P h.up (h.pause ∷ []) (All-tail P h.draw (h.up ++ h.pause ∷ []) made) in
    whole_reached at peak size h.climb (ap not (none_went_past h.steps h.within)) up

-- and after a force
pub force_reached : (at size : ℕ) (old new : History) (within : Bool) → HasForced at size old new within →
    (peak : ℕ) → All (λ entry. peak_shown at entry ≤ peak) new.own → size ≤ peak
force_reached at size old new within h peak below =
    let P : Entry → Type 0 = λ entry. peak_shown at entry ≤ peak in
    let up = All-right P old.own h.up (subst (All P) h.made.own below) in
    whole_reached at peak size h.climb refl up
