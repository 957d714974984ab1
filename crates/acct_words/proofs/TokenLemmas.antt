-- What the calls make of tokens, as their callers see them.
use Rattle.std.proofs.Common.{◌≡◌, ◌≢◌, ℕ, ◌+◌, ◌<◌, ◌≤◌, Bool, true, false, cond, ◌||◌, ◌==◌, List, [], ◌∷◌, ◌++◌, map, All, Option}
use Rattle.std.proofs.Common.{Some, None, refl, sym, ap, ◌∙◌, subst, arith, eq-eqb, ne_eqb, ⊎_elim}
use Rattle.std.specs.Prelude.{is_none, IsTrue}
use Rattle.std.proofs.lemmas.Bool.{cases_eq, cases_lt, lt-ltb, le-ltb}
use Rattle.std.proofs.lemmas.List.{append_assoc, append-nil}
use Rattle.std.proofs.lemmas.List.Elements.{All-cons, All-head, All-tail, All-nil}
use Rattle.atomic_table.specs.Seated.{TableId}
use Rattle.atomic_table.specs.Table.{Me}
use Rattle.mem_num.specs.declared.full.Full.{Full}
use Rattle.acct_core.specs.declared.level_step.LevelStep.{LevelStep}
use Rattle.acct_core.specs.Claims.{Claim, claim_at}
use Rattle.acct_core.specs.Phases.{Phase, is_past, any_past}
use Rattle.acct_core.specs.Phases.Phase.{Free, In, Up, Held, Failed, Down, Bounced}
use Rattle.acct_core.specs.FixedTrees.{CanTurnRound}
use Rattle.acct_words.specs.declared.budget.Budget.{Budget}
use Rattle.acct_words.specs.declared.rule.Said.{Said}
use Rattle.acct_words.specs.Entries.{Entry, StepKind}
use Rattle.acct_words.specs.Entries.StepKind.{LoadWord, ForgetChunk}
use Rattle.acct_words.specs.Views.{Chunk, View}
use Rattle.acct_words.specs.Places.{still_word, held_word}
use Rattle.acct_words.specs.Bodies.{nothing, both}
use Rattle.acct_words.specs.Moves.{behind, to_front, first_chunk, reading, parting}
use Rattle.acct_words.specs.Plays.{Steps, entry, stepping, first_size}
use Rattle.acct_words.specs.Calls.{HasEmptyChunk, TurnsBack}
use Rattle.acct_words.specs.Climbs.{IsForced, refusal_of, full_at}
use Rattle.acct_words.specs.Falls.{IsReleased, rest_of, released}
use Rattle.acct_words.specs.Charges.{draw_entry, still_entry, ViewCharges, ViewRefuses, forget_entry}
use Rattle.acct_words.specs.Tokens.{History, CallerToken, ChunkToken, history_of, is_charged, without, charges_in}
use Rattle.acct_words.specs.Tokens.{charged_in, IsHeldAs, IsChargeOf, HasOneChunk}
use Rattle.acct_words.proofs.ClimbLemmas.{refusal_none}
use Rattle.acct_words.specs.CallHistories.{StaysWithinLimit, HasCharged, HasBeenRefused, HasForced, HasDischarged, TakesIn, HasLoaded}

-- what is shown of a view's history is shown of the caller token that has the view
pub of_caller : (P : History → Type 0) (id : TableId) (v : View) (budget : Budget) (token : CallerToken) →
    ◌≡◌ {A = CallerToken} (record { table = record { id = id; start = v.start }; history = history_of v; budget = budget }) token →
    P (history_of v) → P token.history
of_caller P id v budget token is h = subst (λ (t : CallerToken). P t.history) is h

-- and of a chunk token
pub of_chunk : (P : History → Type 0) (id : TableId) (v : View) (number size : ℕ) (token : ChunkToken) →
    ◌≡◌ {A = ChunkToken} (record {
      table = record { id = id; start = v.start };
      history = history_of v;
      number = number;
      size = size;
      charged = charged_in v;
    }) token → P (history_of v) → P token.history
of_chunk P id v number size token is h = subst (λ (t : ChunkToken). P t.history) is h

-- where no step went past its limit, each is within it
all_within : (steps : List LevelStep) → any_past steps ≡ false → All StaysWithinLimit steps
all_within [] e = All-nil StaysWithinLimit
all_within (s ∷ steps) e = ⊎_elim
    (λ (h : s.limit < s.old + s.amount). (let p : is_past s ≡ true = lt-ltb s.limit (s.old + s.amount) h in let q : true ≡ false =
    sym (ap (λ (b : Bool). b || any_past steps) p) ∙ e in absurd cc))
    (λ (h : s.old + s.amount ≤ s.limit). All-cons StaysWithinLimit s steps h (all_within steps (by (is_past s) e)))
    (cases_lt s.limit (s.old + s.amount))
  where
    by : (b : Bool) → b || any_past steps ≡ false → any_past steps ≡ false
    by false f = f
    by true f = absurd cc

-- a refusal's level went past its limit
pub refusal_past : (at : ℕ) (steps : List LevelStep) (full : Full) → refusal_of at steps ≡ Some full → full.limit < full.held + full.amount
refusal_past at [] full e = absurd cc
refusal_past at (s ∷ steps) full e = ⊎_elim
    (λ (h : s.limit < s.old + s.amount). (
    let p : is_past s ≡ true = lt-ltb s.limit (s.old + s.amount) h in
    let q = ap gap (subst (λ (b : Bool). cond b (Some (full_at at s)) (refusal_of at steps) ≡ Some full) p e) in
    let r = ap limit_of (subst (λ (b : Bool). cond b (Some (full_at at s)) (refusal_of at steps) ≡ Some full) p e) in omega arith))
    (λ (h : s.old + s.amount ≤ s.limit). (
    let p : is_past s ≡ false = le-ltb s.limit (s.old + s.amount) h in
    refusal_past at steps full (subst (λ (b : Bool). cond b (Some (full_at at s)) (refusal_of at steps) ≡ Some full) p e)))
    (cases_lt s.limit (s.old + s.amount))
  where
    gap : Option Full → ℕ
    gap None = 0
    gap (Some f) = f.held + f.amount

    limit_of : Option Full → ℕ
    limit_of None = 0
    limit_of (Some f) = f.limit

-- a charge, as the caller's history shows it
pub charged_history : (at size : ℕ) (v w : View) (number : ℕ) (new : View) → ViewCharges at size v w number new →
    HasCharged at size number (history_of v) (history_of w)
charged_history at size v w number new h = record {
  draw = draw_entry h.draw_name number;
  up = h.entries;
  pause = still_entry h.last_name h.last_found;
  steps = h.steps;
  drew = record { word = refl; kind = refl; found = refl };
  climb = h.climb;
  begins = h.begins;
  within = all_within h.steps h.within;
  paused = record { word = refl; kind_is = refl };
  made = record { own = ap (λ (y : View). y.own.own_steps) h.token; observed = ap (λ (y : View). y.own.observed) h.token };
}

-- a refusal
pub refused_history : (at size : ℕ) (v w : View) (full : Full) → ViewRefuses at size v w full →
    HasBeenRefused at size (history_of v) (history_of w) full
refused_history at size v w full h = record {
  number = h.number;
  draw = draw_entry h.draw_name h.number;
  up = h.entries;
  down = h.taken_back;
  pause = forget_entry h.last_name size h.last_found;
  steps = h.steps;
  drew = record { word = refl; kind = refl; found = refl };
  climb = h.climb;
  begins = h.begins;
  refusal = h.refusal;
  descent = h.descent;
  forgot = record { word = refl; kind_is = refl };
  made = record { own = ap (λ (y : View). y.own.own_steps) h.token; observed = ap (λ (y : View). y.own.observed) h.token };
}

-- a load of a word
pub loaded_history : (word found : ℕ) (v w : View) → Steps LoadWord reading word found v w →
    HasLoaded word found (history_of v) (history_of w)
loaded_history word found v w s = record {
  load = entry s.0 word LoadWord found;
  word_is = refl;
  kind = refl;
  returned = refl;
  made = record { own = ap (λ (y : View). y.own.own_steps) s.1; observed = ap (λ (y : View). y.own.observed) s.1 };
}

-- a force
pub forced_history : (at size : ℕ) (v w : View) (full : Option Full) (answer : Bool) (steps : List LevelStep) →
    IsForced at size v w steps None →
    full ≡ refusal_of at steps → answer ≡ is_none full → HasForced at size (history_of v) (history_of w) answer
forced_history at size v w full answer steps h f a = record {
  up = h.climbed.entries;
  steps = steps;
  climb = h.climbed.climb;
  begins = h.climbed.begins;
  answer = a ∙ ap (λ (o : Option Full). is_none o) f ∙ refusal_none at steps;
  made = record { own = ap (λ (y : View). y.own.own_steps) h.climbed.view; observed = ap (λ (y : View). y.own.observed) h.climbed.view };
}

-- a release
pub discharged_history : (at size : ℕ) (v w : View) (entries : List Entry) → IsReleased at size v w entries None →
    HasDischarged at size (history_of v) (history_of w)
discharged_history at size v w entries h = record {
  down = entries;
  descent = h.descent;
  made = record { own = ap (λ (y : View). y.own.own_steps) h.view; observed = ap (λ (y : View). y.own.observed) h.view };
}

-- what a chunk is charged at an allocator comes to the front
pub record ComesFirst (at size : ℕ) (charges : List Claim) : Type 0 where
  pub phase : Phase
  pub rest : List Claim
  pub front : to_front (held_word at) charges ≡ claim_at at phase ∷ rest
  pub held : IsHeldAs size phase
  pub others : map (λ (c : Claim). c.node) rest ≡ without at (map (λ (c : Claim). c.node) charges)
  pub good : All (IsChargeOf size) rest

comes_first : (at size : ℕ) (charges : List Claim) → All (IsChargeOf size) charges →
    IsTrue (is_charged at (map (λ (c : Claim). c.node) charges)) → ComesFirst at size charges
comes_first at size [] h t = absurd cc
comes_first at size (c ∷ charges) h t = ⊎_elim here (λ ne. more ne (comes_first at size charges later (rest_true (ne_eqb c.node at ne))))
    (cases_eq c.node at)
  where
    its : IsChargeOf size c
    its = All-head (IsChargeOf size) c charges h

    later : All (IsChargeOf size) charges
    later = All-tail (IsChargeOf size) c charges h

    here : c.node ≡ at → ComesFirst at size (c ∷ charges)
    here e = record {
      phase = c.phase;
      rest = charges;
      front = rw (eq-eqb (held_word c.node) (held_word at) (omega arith)) (λ j. record {
        node = e j;
        under = its.bare j;
        phase =
            c.phase;
      } ∷ charges);
      held = its.held;
      others = rw (eq-eqb c.node at e) refl;
      good = later;
    }

    more : c.node ≢ at → ComesFirst at size charges → ComesFirst at size (c ∷ charges)
    more ne f = record {
      phase = f.phase;
      rest = c ∷ f.rest;
      front = rw (ne_eqb (held_word c.node) (held_word at) (λ e. ne (omega arith))) (ap (λ (l : List Claim). behind c l) f.front);
      held = f.held;
      others = rw (ne_eqb c.node at ne) (ap (λ (l : List ℕ). c.node ∷ l) f.others);
      good = All-cons (IsChargeOf size) c f.rest its f.good;
    }

    rest_true : (c.node == at) ≡ false → IsTrue (is_charged at (map (λ (x : Claim). x.node) charges))
    rest_true e = subst (λ (b : Bool). IsTrue (b || is_charged at (map (λ (x : Claim). x.node) charges))) e t

-- a held charge can turn round
held_turns : (size : ℕ) (phase : Phase) → IsHeldAs size phase → CanTurnRound size phase
held_turns size (Held s forced steps) e = e
held_turns size (Failed s forced steps) e = elim e [ ]
held_turns size Free e = elim e [ ]
held_turns size In e = elim e [ ]
held_turns size (Up _ _ _ _ _) e = elim e [ ]
held_turns size (Down _ _ _) e = elim e [ ]
held_turns size Bounced e = elim e [ ]

module _ (at : ℕ) (me : Me Said View) (number size : ℕ) (one : HasOneChunk me number size)
    (charged : IsTrue (is_charged at (charged_in me.0))) where
  -- the chunk's charge there
  abbrev first : ComesFirst at size (charges_in me.0.own.chunks)
  first = comes_first at size (charges_in me.0.own.chunks) one.charges charged

  -- it can be released
  pub can_turn_back : TurnsBack at size me.0
  can_turn_back = record {
    chunk = record { number = number; size = size; charges = charges_in me.0.own.chunks };
    others = [];
    is = one.chunk;
    phase = first.phase;
    rest = first.rest;
    front = first.front;
    turns = held_turns size first.phase first.held;
  }

  module _ (after : Me Said View) (entries : List Entry) (released_by : IsReleased at size me.0 after.0 entries None) (slots : after.1
      ≡ me.1) where
    -- the charges that are left
    left_charges : charges_in after.0.own.chunks ≡ first.rest
    left_charges = ap (λ (y : View). charges_in y.own.chunks) released_by.view
        ∙ ap (λ (l : List Chunk). charges_in (first_chunk (released at size None) l)) one.chunk
        ∙ ap (λ (l : List Claim). rest_of l) first.front

    -- the chunk is charged at the others
    pub left_charged : charged_in after.0 ≡ without at (charged_in me.0)
    left_charged = ap (map (λ (c : Claim). c.node)) left_charges ∙ first.others

    -- and its token is at rest
    pub left_one : HasOneChunk after number size
    left_one = record {
      whole = ap (λ (y : View). y.offer) released_by.view ∙ one.whole;
      slots = slots ∙ one.slots;
      bytes = ap (λ (y : View). y.own.bytes) released_by.view ∙ one.bytes;
      turns = ap (λ (y : View). y.own.turns) released_by.view ∙ one.turns;
      chunk = ap (λ (y : View). y.own.chunks) released_by.view
          ∙ ap (λ (l : List Chunk). first_chunk (released at size None) l) one.chunk
          ∙ (λ j. record { number = number; size = size; charges = (ap (λ (l : List Claim). rest_of l) first.front ∙ sym left_charges) j }
          ∷ []);
      charges = subst (All (IsChargeOf size)) (sym left_charges) first.good;
      fits = one.fits;
    }

-- what a token is after it took in another
pub joined_history : (kind : StepKind) (v w x : View) (found : ℕ) → w.offer ≡ nothing →
    Steps kind reading still_word found (both v w) x → TakesIn kind (history_of v) (history_of w) (history_of x)
joined_history kind v w x found whole s = record {
  pause = entry s.0 still_word kind found;
  paused = record { word = refl; kind_is = refl };
  own = ap (λ (y : View). y.own.own_steps) s.1 ∙ together v.own.own_steps w.own.own_steps (w.offer.own_steps)
      (entry s.0 still_word kind found ∷ []) (ap (λ (b : _). b.own_steps) whole);
  observed = ap (λ (y : View). y.own.observed) s.1 ∙ ap (λ (l : List Entry). v.own.observed ++ (w.own.observed ++ l))
      (ap (λ (b : _). b.observed) whole)
      ∙ ap (λ (l : List Entry). v.own.observed ++ l) (append-nil w.own.observed);
}
  where
    together : (a b c d : List Entry) → c ≡ [] → (a ++ (b ++ c)) ++ d ≡ a ++ (b ++ d)
    together a b c d e = ap (λ (l : List Entry). (a ++ (b ++ l)) ++ d) e ∙ ap (λ (l : List Entry). (a ++ l) ++ d) (append-nil b)
        ∙ append_assoc a b d

-- the same where the chunk that came with it, of this size, is forgotten
pub retired_history : (v w x : View) (found size : ℕ) → w.offer ≡ nothing → first_size (both v w).own.chunks ≡ size →
    Steps (ForgetChunk (first_size (both v w).own.chunks)) parting still_word found (both v w) x →
    TakesIn (ForgetChunk size) (history_of v) (history_of w) (history_of x)
retired_history v w x found size whole is s =
    let kind = ForgetChunk (first_size (both v w).own.chunks) in
    let h = joined_history kind v w (stepping reading (both v w) (entry s.0 still_word kind found)) found whole (s.0, refl) in
    subst (λ (n : ℕ). TakesIn (ForgetChunk n) (history_of v) (history_of w) (history_of x)) is (record {
      pause = h.pause;
      paused = h.paused;
      own = ap (λ (y : View). y.own.own_steps) s.1 ∙ h.own;
      observed = ap (λ (y : View). y.own.observed) s.1 ∙ h.observed;
    })

-- the size of the chunk that comes with a token
pub joined_size : (v : View) (other : Me Said View) (number size : ℕ) → v.own.chunks ≡ [] → HasOneChunk other number size →
    first_size (both v other.0).own.chunks ≡ size
joined_size v other number size none one = ap first_size (λ j. none j ++ (one.chunk j ++ (one.whole j).chunks))

-- a token with that of a chunk that is charged nowhere
pub joined_empty : (v : View) (other : Me Said View) (number size : ℕ) → v.own.chunks ≡ [] → HasOneChunk other number size →
    charged_in other.0 ≡ [] →
    HasEmptyChunk (both v other.0)
joined_empty v other number size none one bare = record {
  chunk = record { number = number; size = size; charges = charges_in other.0.own.chunks };
  others = [];
  is = λ j. none j ++ (one.chunk j ++ (one.whole j).chunks);
  empty = no_charges (charges_in other.0.own.chunks) bare;
}
  where
    no_charges : (charges : List Claim) → map (λ (c : Claim). c.node) charges ≡ [] → charges ≡ []
    no_charges [] e = refl
    no_charges (c ∷ charges) e = absurd cc
