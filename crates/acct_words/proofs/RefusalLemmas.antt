-- A refusal stays within the worst case of what was asked for.
use Rattle.std.proofs.Common.{◌≡◌, ℕ, ◌+◌, ◌≤◌, Bool, true, false, cond, List, [], ◌∷◌, ◌++◌, map, All, Option, Some, None}
use Rattle.std.proofs.Common.{ap, subst, arith}
use Rattle.std.proofs.lemmas.List.Elements.{All-head, All-tail, All-nil, All-push}
use Rattle.mem_num.specs.declared.full.Full.{Full}
use Rattle.mem_model.specs.WorstCase.{worst_case}
use Rattle.acct_core.specs.declared.level_step.LevelStep.{LevelStep}
use Rattle.acct_core.proofs.SameClaimsLemmas.{All-left, All-right}
use Rattle.acct_core.specs.Phases.{is_past}
use Rattle.acct_words.specs.Entries.{StepKind, Entry, InHistory, begun, reached}
use Rattle.acct_words.specs.Entries.StepKind.{LoadWord, DrawChunkNumber, BeginCharge, AddHeld, SubtractHeld, ForgetChunk, RaisePeak}
use Rattle.acct_words.specs.declared.fixed.Fixed.{Fixed}
use Rattle.acct_words.specs.Views.{View}
use Rattle.acct_words.specs.Rule.{reservations, IsBounded, KnowsHistory, KnowsWorstCase}
use Rattle.acct_words.specs.Climbs.{Climbs, amount_of, level_step, refusal_of, full_at}
use Rattle.acct_words.specs.Climbs.Climbs.{begins, adds}
use Rattle.acct_words.specs.Charges.{draw_entry, forget_entry, ViewRefuses}
use Rattle.acct_words.proofs.ViewLemmas.{all_there}

-- what an addition leads to
reached_is : (act : StepKind) (found amount : ℕ) → amount_of act ≡ Some amount → reached act found ≡ found + amount
reached_is (BeginCharge size) found amount e = ap (λ (o : Option ℕ). found + or_zero o) e
  where
    or_zero : Option ℕ → ℕ
    or_zero None = 0
    or_zero (Some n) = n
reached_is (AddHeld size) found amount e = ap (λ (o : Option ℕ). found + or_zero o) e
  where
    or_zero : Option ℕ → ℕ
    or_zero None = 0
    or_zero (Some n) = n
reached_is LoadWord found amount e = absurd cc
reached_is DrawChunkNumber found amount e = absurd cc
reached_is (SubtractHeld size) found amount e = absurd cc
reached_is (ForgetChunk size) found amount e = absurd cc
reached_is (RaisePeak to) found amount e = absurd cc

module _ (tree : List Fixed) (history : List Entry) (bounded : All (IsBounded tree history) history) where
  abbrev IsWithin : LevelStep → Type 0
  IsWithin step = step.old + step.amount ≤ worst_case (map begun history) (reservations tree)

  -- each step of a way up is within the worst case
  steps_within : {at size : ℕ} {forced : Bool} {entries : List Entry} {steps : List LevelStep} {next : Option (ℕ × ℕ)} →
      Climbs at size forced entries steps next → All (InHistory history) entries → All IsWithin steps
  steps_within begins h = All-nil IsWithin
  steps_within (adds {entries = entries} {steps = steps} {level = level} {amount = amount} fixed addition limit reservation parent raise
      climb is due) h =
      let more : List Entry = addition ∷ limit ∷ reservation ∷ parent ∷ raise in
      All-push IsWithin steps (level_step level fixed amount addition.found)
      (steps_within climb (All-left (InHistory history) entries more h))
      (let a = all_there (IsBounded tree history) history addition.name addition bounded (All-head (InHistory history) addition
      (limit ∷ reservation ∷ parent ∷ raise) (All-right (InHistory history) entries more h)) in
      let r = reached_is addition.kind addition.found amount is.added in omega arith)

  -- and so is the refusal
  refusal_within : (at : ℕ) (steps : List LevelStep) (full : Full) → All IsWithin steps → refusal_of at steps ≡ Some full →
      full.held + full.amount ≤ worst_case (map begun history) (reservations tree)
  refusal_within at [] full h e = absurd cc
  refusal_within at (s ∷ steps) full h e = by (is_past s) (refusal_within at steps full (All-tail IsWithin s steps h)) e
    where
      full_sum : Option Full → ℕ
      full_sum None = 0
      full_sum (Some f) = f.held + f.amount

      by : (b : Bool) → (refusal_of at steps ≡ Some full → full.held + full.amount ≤ worst_case (map begun history) (reservations tree)) →
          cond b (Some (full_at at s)) (refusal_of at steps) ≡ Some full
          → full.held + full.amount ≤ worst_case (map begun history) (reservations tree)
      by true later g = let a = ap full_sum g in let i = All-head IsWithin s steps h in omega arith
      by false later g = later g

-- a refused charge
pub refused_within : (at size : ℕ) (v w : View) (full : Full) → ViewRefuses at size v w full → KnowsHistory w →
    KnowsWorstCase w (full.held + full.amount)
refused_within at size v w full r k = record {
  known = k;
  bound = refusal_within w.start.tree k.history k.legal.bounded at r.steps full
      (steps_within w.start.tree k.history k.legal.bounded r.climb its_entries) r.refusal;
}
  where
    its_entries : All (InHistory k.history) r.entries
    its_entries =
        let P = InHistory k.history in
        let all : List Entry =
        draw_entry r.draw_name r.number ∷ (r.entries ++ (r.taken_back ++ forget_entry r.last_name size r.last_found ∷ [])) in
        All-left P r.entries (r.taken_back ++ forget_entry r.last_name size r.last_found ∷ []) (All-tail P (draw_entry r.draw_name r.number)
        (r.entries ++ (r.taken_back ++ forget_entry r.last_name size r.last_found ∷ []))
        (All-right P v.own.own_steps all (subst (λ (x : View). All P x.own.own_steps) r.token k.own_steps)))
