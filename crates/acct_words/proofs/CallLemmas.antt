-- What the calls owe at their steps.
use Rattle.std.proofs.Common.{◌≡◌, ℕ, ◌+◌, ◌%◌, ◌^◌, ◌<◌, ◌≤◌, ◌-◌, max, length, eqb, sym, subst}
use Rattle.mem_num.specs.declared.bounds.TheConstants.{MAX_RESERVATION}
use mathlib.Core.Option.{none, some}
use prog.Atomic.{either}
use Rattle.atomic_table.specs.Table.{Me, Allows, step}
use Rattle.acct_words.specs.Views.{Start, View}
use Rattle.acct_words.specs.declared.rule.Said.{Said}
use Rattle.acct_words.specs.Places.{number_word, held_word, peak_word}
use Rattle.acct_words.specs.Bodies.{nothing}
use Rattle.acct_words.specs.Rule.{IsSoundTable}
use Rattle.acct_words.specs.Plays.{HasReached, Draws, Begins, Forces, Rises, Reads, ReadsPeak, Raises, Looks, Meets, Parts, Turns, Falls, Forgets, Counts, Pays}
use Rattle.acct_words.specs.Calls.{HasChunk, HasEmptyChunk, HasRoom, GoesUp, TurnsBack, GoesDown}
use Rattle.acct_words.proofs.StepLemmas.{begins_allowed, rises_allowed}
use Rattle.acct_words.proofs.BudgetLemmas.{counts_allowed, pays_allowed}
use Rattle.acct_words.proofs.ForceLemmas.{forces_allowed}
use Rattle.acct_words.proofs.HeldLemmas.{looks_allowed, meets_allowed}
use Rattle.acct_words.proofs.PeakLemmas.{peak_allowed, raise_allowed}
use Rattle.acct_words.proofs.FallLemmas.{falls_allowed, turns_allowed, forgets_allowed}
use Rattle.acct_words.proofs.LoadLemmas.{draws_allowed, reads_allowed, parts_allowed}

module _ (start : Start) (slots id : ℕ) (me : Me Said View) (same : me.0.start ≡ start) where
  -- a draw
  pub draw_owes : 1 ≤ me.0.own.turns → Allows (IsSoundTable start) slots id me number_word (λ n. (n + 1) % 2 ^ 64)
      (Draws (step slots number_word 1 0 none) me)
  draw_owes turn = subst (λ (x : Start). Allows (IsSoundTable x) slots id me number_word (λ n. (n + 1) % 2 ^ 64)
      (Draws (step slots number_word 1 0 none) me)) same (draws_allowed slots id me turn)

  -- the beginning of a charge
  pub begin_owes : (m size : ℕ) → m < length start.tree → HasEmptyChunk me.0 → 1 ≤ size → size ≤ MAX_RESERVATION → size ≤ me.0.own.bytes
      → Allows (IsSoundTable start) slots id me (held_word m) (λ n. (n + size) % 2 ^ 64) (Begins (step slots (held_word m) size 0 none) me)
  begin_owes m size there c some_size small paid =
      subst (λ (x : Start). Allows (IsSoundTable x) slots id me (held_word m) (λ n. (n + size) % 2 ^ 64)
      (Begins (step slots (held_word m) size 0 none) me)) same
      (begins_allowed slots id me m size c.chunk c.others c.is c.empty some_size small paid (subst (λ (x : Start). m < length x.tree)
      (sym same) there))

  -- an addition further up
  pub rise_owes : (m amount : ℕ) → GoesUp m amount me.0 →
      Allows (IsSoundTable start) slots id me (held_word m) (λ n. (n + amount) % 2 ^ 64) (Rises (step slots (held_word m) amount 0 none) me)
  rise_owes m amount c = subst (λ (x : Start). Allows (IsSoundTable x) slots id me (held_word m) (λ n. (n + amount) % 2 ^ 64)
      (Rises (step slots (held_word m) amount 0 none) me)) same
      (rises_allowed slots id me c.at c.size m amount c.forced c.steps c.chunk c.others c.rest c.is c.up)

  -- the reading of what is fixed of a level
  pub read_owes : (i : ℕ) → Allows (IsSoundTable start) slots id me i (λ n. n) (Reads (step slots i 0 0 none) me)
  read_owes i = subst (λ (x : Start). Allows (IsSoundTable x) slots id me i (λ n. n) (Reads (step slots i 0 0 none) me)) same
      (reads_allowed slots id i me)

  -- the reading of a held number by which a level is known
  pub meet_owes : (m : ℕ) → m < length start.tree → Allows (IsSoundTable start) slots id me (held_word m) (λ n. n)
      (Meets (step slots (held_word m) 0 0 none) me)
  meet_owes m there = subst (λ (x : Start). Allows (IsSoundTable x) slots id me (held_word m) (λ n. n)
      (Meets (step slots (held_word m) 0 0 none) me)) same
      (meets_allowed slots id me m (subst (λ (x : Start). m < length x.tree) (sym same) there))

  -- the reading of a peak
  pub peak_owes : (m : ℕ) → m < length start.tree → Allows (IsSoundTable start) slots id me (peak_word m) (λ n. n)
      (ReadsPeak (step slots (peak_word m) 0 0 none) me)
  peak_owes m there = subst (λ (x : Start). Allows (IsSoundTable x) slots id me (peak_word m) (λ n. n)
      (ReadsPeak (step slots (peak_word m) 0 0 none) me)) same
      (peak_allowed slots id me m (subst (λ (x : Start). m < length x.tree) (sym same) there))

  -- the raising of a peak
  pub raise_owes : (m to : ℕ) → m < length start.tree → HasReached to me.0 →
      Allows (IsSoundTable start) slots id me (peak_word m) (λ n. max n to) (Raises (step slots (peak_word m) to 0 none) me)
  raise_owes m to there reaches = subst (λ (x : Start). Allows (IsSoundTable x) slots id me (peak_word m) (λ n. max n to)
      (Raises (step slots (peak_word m) to 0 none) me)) same
      (raise_allowed slots id me m to (subst (λ (x : Start). m < length x.tree) (sym same) there) reaches)

  -- the reading of a held number
  pub look_owes : (m : ℕ) → m < length start.tree → Allows (IsSoundTable start) slots id me (held_word m) (λ n. n)
      (Looks (step slots (held_word m) 0 0 none) me)
  look_owes m there = subst (λ (x : Start). Allows (IsSoundTable x) slots id me (held_word m) (λ n. n)
      (Looks (step slots (held_word m) 0 0 none) me)) same
      (looks_allowed slots id me m (subst (λ (x : Start). m < length x.tree) (sym same) there))

  -- the offer of a chunk
  pub part_owes : (i : ℕ) → HasChunk me.0 → me.0.offer ≡ nothing →
      Allows (IsSoundTable start) slots id me i (λ n. n) (Parts (step slots i 0 0 none) me)
  part_owes i c whole = subst (λ (x : Start). Allows (IsSoundTable x) slots id me i (λ n. n) (Parts (step slots i 0 0 none) me)) same
      (parts_allowed slots id i me c.chunk c.others c.is whole)

  -- a release's first subtraction
  pub turn_owes : (m size : ℕ) → TurnsBack m size me.0 →
      Allows (IsSoundTable start) slots id me (held_word m) (λ n. (n + (2 ^ 64 - size)) % 2 ^ 64)
      (Turns (step slots (held_word m) size 0 none) me)
  turn_owes m size c = subst (λ (x : Start). Allows (IsSoundTable x) slots id me (held_word m) (λ n. (n + (2 ^ 64 - size)) % 2 ^ 64)
      (Turns (step slots (held_word m) size 0 none) me)) same
      (turns_allowed slots id me m size c.phase c.chunk c.others c.rest c.is c.front c.turns)

  -- a subtraction further up
  pub fall_owes : (m amount : ℕ) → GoesDown m amount me.0 →
      Allows (IsSoundTable start) slots id me (held_word m) (λ n. (n + (2 ^ 64 - amount)) % 2 ^ 64)
      (Falls (step slots (held_word m) amount 0 none) me)
  fall_owes m amount c = subst (λ (x : Start). Allows (IsSoundTable x) slots id me (held_word m) (λ n. (n + (2 ^ 64 - amount)) % 2 ^ 64)
      (Falls (step slots (held_word m) amount 0 none) me)) same
      (falls_allowed slots id me c.at c.size m amount c.chunk c.others c.rest c.is c.down)

  -- a chunk without charges is forgotten
  pub forget_owes : (i : ℕ) → HasEmptyChunk me.0 → Allows (IsSoundTable start) slots id me i (λ n. n) (Forgets (step slots i 0 0 none) me)
  forget_owes i c = subst (λ (x : Start). Allows (IsSoundTable x) slots id me i (λ n. n) (Forgets (step slots i 0 0 none) me)) same
      (forgets_allowed slots id i me c.chunk c.others c.is c.empty)

  -- a load that reads the budget
  pub count_owes : (i : ℕ) → Allows (IsSoundTable start) slots id me i (λ n. n) (Counts (step slots i 0 0 none) me)
  count_owes i = subst (λ (x : Start). Allows (IsSoundTable x) slots id me i (λ n. n) (Counts (step slots i 0 0 none) me)) same
      (counts_allowed slots id i me)

  -- the offer of a part of the budget
  pub pay_owes : (i : ℕ) (said : Said) → me.0.offer ≡ nothing → said.bytes ≤ me.0.own.bytes → said.turns ≤ me.0.own.turns →
      Allows (IsSoundTable start) slots id me i (λ n. either (eqb n 0) 0 n) (Pays (step slots i 0 0 (some said)) me)
  pay_owes i said whole bytes turns = subst (λ (x : Start). Allows (IsSoundTable x) slots id me i (λ n. either (eqb n 0) 0 n)
      (Pays (step slots i 0 0 (some said)) me)) same (pays_allowed slots id i me said whole bytes turns)

  -- the beginning of a force
  pub force_owes : (m size : ℕ) → m < length start.tree → HasRoom size me.0 → 1 ≤ size → size ≤ MAX_RESERVATION →
      Allows (IsSoundTable start) slots id me (held_word m) (λ n. (n + size) % 2 ^ 64) (Forces (step slots (held_word m) size 0 none) me)
  force_owes m size there c some_size small =
      subst (λ (x : Start). Allows (IsSoundTable x) slots id me (held_word m) (λ n. (n + size) % 2 ^ 64)
      (Forces (step slots (held_word m) size 0 none) me)) same
      (forces_allowed slots id me m size c.chunk c.others c.is c.one c.size_is some_size small (subst (λ (x : Start). m < length x.tree)
      (sym same) there))
