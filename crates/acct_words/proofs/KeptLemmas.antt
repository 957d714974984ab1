-- The rule after a step that stands in the history.
use Rattle.std.proofs.Common.{◌≡◌, ℕ, ◌+◌, ◌*◌, ◌<◌, ◌≤◌, ◌≢◌, List, [], ◌∷◌, ◌++◌, length, set, slice_index, refl, sym, ap, ◌∙◌, subst, arith, Some, ne_eqb}
use Rattle.std.proofs.Common.{max, sum_by, sum, All, ⊎_elim, length-set, eqb, eq-eqb, Bool, true, false, cond}
use mathlib.Core.Option as option
use mathlib.Core.Option.{some}
use lib.ListN.{get_elem?}
use Rattle.std.proofs.lemmas.Bool.{cases_eq}
use Rattle.std.proofs.lemmas.Option.{same_Some}
use Rattle.std.proofs.lemmas.List.Elements.{All-append, All-cons, All-head, All-tail, All-nil, All-push, All-weaker}
use Rattle.std.proofs.lemmas.List.Sums.{sum-map, sum_by_push}
use Rattle.atomic_table.specs.Table.{State}
use Rattle.atomic_table.proofs.Lists.{at_set, at_longer}
use Rattle.acct_core.specs.Lawful.{IsLawfulFixedTree}
use Rattle.acct_words.specs.Entries.{StepKind, Entry, size_begun, size_forgotten, reached, draw_count, begun, forgotten, drawn, drew, raised_to, peak_shown}
use Rattle.acct_words.specs.Entries.{InHistory}
use Rattle.acct_words.specs.Entries.StepKind.{LoadWord, DrawChunkNumber, BeginCharge, AddHeld, SubtractHeld, ForgetChunk, RaisePeak}
use Rattle.acct_words.specs.declared.fixed.Fixed.{Fixed}
use Rattle.acct_words.specs.Views.{Start, Known, Body, View}
use Rattle.acct_words.specs.declared.rule.Said.{Said}
use Rattle.acct_words.specs.Places.{number_word, peak_word}
use Rattle.acct_words.specs.Bodies.{nothing, plus, of_view, made, bytes_left, turns_left, chunk_sizes, numbered}
use Rattle.acct_words.specs.Rows.{node, fixed_in, shown}
use Rattle.acct_words.specs.Rule.{reservations, IsBounded, IsNumbered, IsHistory, IsGoodChunk, IsGoodBody, IsGoodView, IsKnown, KeepsPeaks, IsSoundTable}
use Rattle.acct_words.specs.Plays.{entry, known_at}
use Rattle.acct_words.proofs.ViewLemmas.{total_set}

-- steps of a history stand in a longer one
pub in_longer : (history : List Entry) (e : Entry) (steps : List Entry) → All (InHistory history) steps →
    All (InHistory (history ++ e ∷ [])) steps
in_longer history e steps h = All-weaker (InHistory history) (InHistory (history ++ e ∷ []))
    (λ x i. at_longer history (e ∷ []) x.name x i) steps h

-- a good body stays good
pub good_longer : (history : List Entry) (e : Entry) (b : Body) → IsGoodBody history b → IsGoodBody (history ++ e ∷ []) b
good_longer history e b g = record {
  own_steps = in_longer history e b.own_steps g.own_steps;
  observed =
      in_longer history e b.observed g.observed;
  chunks = g.chunks;
}

-- nothing is good
pub good_nothing : (history : List Entry) → IsGoodBody history nothing
good_nothing history = record {
  own_steps = All-nil (InHistory history);
  observed = All-nil (InHistory history);
  chunks =
      All-nil IsGoodChunk;
}

-- two good bodies together are good
pub good_plus : (history : List Entry) (a b : Body) → IsGoodBody history a → IsGoodBody history b → IsGoodBody history (plus a b)
good_plus history a b g h = record {
  own_steps = All-append (InHistory history) a.own_steps b.own_steps g.own_steps h.own_steps;
  observed = All-append (InHistory history) a.observed b.observed g.observed h.observed;
  chunks = All-append IsGoodChunk a.chunks b.chunks g.chunks h.chunks;
}

-- a bound stays a bound in a longer history
bounded_longer : (tree : List Fixed) (history : List Entry) (e x : Entry) → IsBounded tree history x → IsBounded tree (history ++ e ∷ []) x
bounded_longer tree history e x h =
    let a = sum-map begun history in let b = sum-map begun (history ++ e ∷ []) in let c = sum_by_push begun history e in omega arith

-- a step on the word i, which found n and left the new number there
module _ (start : Start) (s : State Said View) (homes : List (option.Option Said)) (id : ℕ) (v w : View) (k : IsSoundTable start s)
    (at : get_elem? s.views id ≡ some v) (i new : ℕ) (act : StepKind) where
  abbrev n : ℕ
  n = slice_index s.words i

  abbrev e : Entry
  e = entry (length k.history) i act n

  abbrev history : List Entry
  history = k.history ++ e ∷ []

  abbrev after : State Said View
  after = record { words = set s.words i new; homes = homes; views = set s.views id w }

  -- what a step owes
  pub record IsStep : Type 0 where
    pub lawful : IsLawfulFixedTree (shown start.tree (set s.words i new) (set s.views id w))
    pub fixed : (m : ℕ) → m < length start.tree → fixed_in m (set s.words i new) ≡ fixed_in m s.words
    pub next : slice_index (set s.words i new) number_word ≡ slice_index s.words number_word + draw_count act
    pub bounded : reached act n ≤ 2 * (sum_by begun k.history + size_begun act) + sum (reservations start.tree)
    pub made : (f : Entry → ℕ) → of_view (made f) w ≡ of_view (made f) v + f e
    pub bytes : of_view bytes_left w + size_begun act ≤ of_view bytes_left v
    pub turns : of_view turns_left w + draw_count act ≤ of_view turns_left v
    pub sizes : of_view chunk_sizes w + size_forgotten act ≤ of_view chunk_sizes v + size_begun act
    pub numbers : (m : ℕ) → of_view (numbered m) w ≤ of_view (numbered m) v + drew m e
    pub fresh : (m : ℕ) → m ≢ slice_index s.words number_word → drew m e ≡ 0
    pub good : IsGoodView history w
    pub known : All (IsKnown start) w.known
    pub peak : (m : ℕ) → m < length start.tree →
        slice_index (set s.words i new) (peak_word m) ≡ max (slice_index s.words (peak_word m)) (peak_shown m e)
    pub peak_bounded : (m : ℕ) → m < length start.tree →
        peak_shown m e ≤ 2 * (sum_by begun k.history + size_begun act) + sum (reservations start.tree)

  module _ (c : IsStep) where
    -- at most one entry draws a number
    drawn_once : (m : ℕ) → drew m e ≤ 1
    drawn_once m = le (eqb n m) act
      where
        le : (b : Bool) (a : StepKind) → cond b (draw_count a) 0 ≤ 1
        le false a = omega arith
        le true LoadWord = omega arith
        le true DrawChunkNumber = omega arith
        le true (BeginCharge x) = omega arith
        le true (AddHeld x) = omega arith
        le true (SubtractHeld x) = omega arith
        le true (ForgetChunk x) = omega arith
        le true (RaisePeak x) = omega arith

    -- a draw finds the next number
    draws_next : draw_count act ≡ 1 → n ≡ slice_index s.words number_word
    draws_next d = ⊎_elim (λ (same : ◌≡◌ {A = ℕ} n (slice_index s.words number_word)). same)
        (λ (ne : ◌≡◌ {A = ℕ} n (slice_index s.words number_word) → ⊥). let z = c.fresh n ne in let y : drew n e ≡ draw_count act =
        rw (eq-eqb n n refl) refl in absurd (omega arith))
        (cases_eq n (slice_index s.words number_word))

    -- each drawn number is one of the first so many
    numbered_longer : All (IsNumbered history) history
    numbered_longer = All-push (IsNumbered history) k.history e
        (All-weaker (IsNumbered k.history) (IsNumbered history) (λ x h d. (let a = h d in let q = sum_by_push drawn k.history e in
        (a.0, omega arith))) k.history k.steps.legal.drawn)
        (λ d. (let a = draws_next d in let b = k.numbers.next in let q = sum_by_push drawn k.history e in (omega arith, omega arith)))

    -- the history with the step is one that the table can have
    pub step_legal : IsHistory start history
    step_legal = record {
      bounded = All-push (IsBounded start.tree history) k.history e
          (All-weaker (IsBounded start.tree k.history) (IsBounded start.tree history) (λ x. bounded_longer start.tree k.history e x)
          k.history k.steps.legal.bounded)
          (let a = sum-map begun history in let b = sum_by_push begun k.history e in let d = c.bounded in omega arith);
      bytes = (let t = total_set bytes_left s.views id v w at in let q = sum_by_push begun k.history e in let p = k.budget.bytes in
          let r = c.bytes in omega arith);
      turns = (let t = total_set turns_left s.views id v w at in let q = sum_by_push drawn k.history e in let p = k.budget.turns in
          let r = c.turns in omega arith);
      drawn = numbered_longer;
      numbers = λ m. (let q = sum_by_push (drew m) k.history e in let p = k.steps.legal.numbers m in ⊎_elim
          (λ (same : ◌≡◌ {A = ℕ} m (slice_index s.words number_word)). let z = k.numbers.fresh m (omega arith) in let o = drawn_once m in
          omega arith)
          (λ (ne : ◌≡◌ {A = ℕ} m (slice_index s.words number_word) → ⊥). let z = c.fresh m ne in omega arith)
          (cases_eq m (slice_index s.words number_word)));
    }

    -- no peak falls, and none goes past the worst case
    peaks_kept : KeepsPeaks start history after.words
    peaks_kept = record {
      reached = λ m h. All-push (λ (x : Entry). peak_shown m x ≤ slice_index (set s.words i new) (peak_word m)) k.history e
          (All-weaker (λ (x : Entry). peak_shown m x ≤ slice_index s.words (peak_word m))
          (λ (x : Entry). peak_shown m x ≤ slice_index (set s.words i new) (peak_word m)) (λ x q. (let a = c.peak m h in omega arith))
          k.history (k.peaks.reached m h))
          (let a = c.peak m h in omega arith);
      bounded = λ m h. (let a = c.peak m h in let b = c.peak_bounded m h in let p = k.peaks.bounded m h in
          let x = sum-map begun k.history in let y = sum-map begun history in let z = sum_by_push begun k.history e in omega arith);
    }

    -- and the rule is kept
    pub step_kept : IsSoundTable start after
    step_kept = record {
      history = history;
      layout = record {
        small = k.layout.small;
        wide = length-set s.words i new ∙ k.layout.wide;
        fixed = λ m h. c.fixed m h ∙ k.layout.fixed m h;
      };
      accounts = c.lawful;
      steps = record {
        placed = λ f. (let t = total_set (made f) s.views id v w at in let p = k.steps.placed f in let q =
            sum_by_push f k.history e in let r = c.made f in omega arith);
        legal = step_legal;
      };
      tokens = λ j x g. ⊎_elim
          (λ q. subst (IsGoodView history) q.1 c.good)
          (λ q. (let o = k.tokens j x q.1 in (good_longer k.history e x.own o.0, good_longer k.history e x.offer o.1)))
          (at_set s.views id j w x g);
      known = λ j x g. ⊎_elim (λ q. subst (λ (y : View). All (IsKnown start) y.known) q.1 c.known) (λ q. k.known j x q.1)
          (at_set s.views id j w x g);
      budget = record {
        bytes = (let t = total_set bytes_left s.views id v w at in let q = sum_by_push begun k.history e in let p = k.budget.bytes in
            let r = c.bytes in omega arith);
        turns = (let t = total_set turns_left s.views id v w at in let q = sum_by_push drawn k.history e in let p = k.budget.turns in
            let r = c.turns in omega arith);
        sizes = (let t = total_set chunk_sizes s.views id v w at in let q = sum_by_push begun k.history e in let u =
            sum_by_push forgotten k.history e in let p = k.budget.sizes in let r = c.sizes in omega arith);
      };
      numbers = record {
        next = (let p = k.numbers.next in let q = sum_by_push drawn k.history e in let r = c.next in omega arith);
        drawn = λ m. (let t = total_set (numbered m) s.views id v w at in let q = sum_by_push (drew m) k.history e in let p =
            k.numbers.drawn m in let r = c.numbers m in omega arith);
        fresh = λ m h. (let q = sum_by_push (drew m) k.history e in let r = c.next in let d = drawn_once m in ⊎_elim
            (λ (same : ◌≡◌ {A = ℕ} m (slice_index s.words number_word)). let z = k.numbers.fresh m (omega arith) in let y =
            no_draw m same h in omega arith)
            (λ (ne : ◌≡◌ {A = ℕ} m (slice_index s.words number_word) → ⊥). let z = c.fresh m ne in let y =
            k.numbers.fresh m (omega arith) in omega arith)
            (cases_eq m (slice_index s.words number_word)));
      };
      peaks = peaks_kept;
    }
      where
        -- where the next number is still m, the step drew none
        no_draw : (m : ℕ) → m ≡ slice_index s.words number_word → slice_index (set s.words i new) number_word ≤ m → drew m e ≡ 0
        no_draw m same h = let r = c.next in none (eqb n m) act (omega arith)
          where
            none : (b : Bool) (a : StepKind) → draw_count a ≡ 0 → cond b (draw_count a) 0 ≡ 0
            none false a z = refl
            none true a z = z

-- what a token knows stays so where it learns what is fixed of one allocator more
pub known_more : (start : Start) (m : ℕ) (known : List Known) → m < length start.tree → All (IsKnown start) known →
    All (IsKnown start) (record { level = m; fixed = node start.tree m } ∷ known)
known_more start m known there h = All-cons (IsKnown start) (record { level = m; fixed = node start.tree m }) known
    (record { inside = there; fixed = refl }) h

-- and what it knows of a level is so
pub known_is : (start : Start) (level : ℕ) (fixed : Fixed) (known : List Known) → All (IsKnown start) known →
    known_at level known ≡ Some fixed → (level < length start.tree) × (node start.tree level ≡ fixed)
known_is start level fixed [] h e = absurd cc
known_is start level fixed (q ∷ known) h e = ⊎_elim
    (λ (same : q.level ≡ level). (
    let its = All-head (IsKnown start) q known h in
    let f : Some q.fixed ≡ Some fixed = subst (λ (b : Bool). cond b (Some q.fixed) (known_at level known) ≡ Some fixed)
    (eq-eqb q.level level same) e in (
      subst (λ (n : ℕ). n < length start.tree) same its.inside,
      ap (λ (n : ℕ). node start.tree n) (sym same) ∙ its.fixed ∙ same_Some q.fixed fixed f,
    )))
    (λ (ne : q.level ≢ level). known_is start level fixed known (All-tail (IsKnown start) q known h)
    (subst (λ (b : Bool). cond b (Some q.fixed) (known_at level known) ≡ Some fixed) (ne_eqb q.level level ne) e))
    (cases_eq q.level level)

-- a step on a word that isn't a peak shows nothing of it
pub no_peak : (m name w found : ℕ) (act : StepKind) → w ≢ peak_word m → peak_shown m (entry name w act found) ≡ 0
no_peak m name w found act ne = rw (ne_eqb w (peak_word m) ne) refl

-- a load shows what its word has
pub peak_loaded : (words : List ℕ) (m name i : ℕ) (act : StepKind) → raised_to act ≡ 0 →
    peak_shown m (entry name i act (slice_index words i)) ≤ slice_index words (peak_word m)
peak_loaded words m name i act none = ⊎_elim
    (λ (same : i ≡ peak_word m). rw (eq-eqb i (peak_word m) same) (let a = ap (slice_index words) same in omega arith))
    (λ (ne : i ≢ peak_word m). let z = no_peak m name i (slice_index words i) act ne in omega arith)
    (cases_eq i (peak_word m))
