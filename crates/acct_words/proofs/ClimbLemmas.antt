-- One level more of a request's way up.
use Rattle.std.proofs.Common.{zero, suc, ◌≡◌, ℕ, ◌+◌, ◌-◌, ◌<◌, ◌≤◌, List, [], ◌∷◌, ◌++◌, Bool, true, false, not, ◌&&◌, ◌||◌, cond, is_none, is_some, Option, Some, None, refl}
use Rattle.std.proofs.Common.{sym, ap, ◌∙◌, subst, arith, sum_by, eq-eqb}
use Rattle.std.proofs.lemmas.List.{append-nil}
use Rattle.std.proofs.lemmas.List.Folds.{list_any-append}
use Rattle.std.proofs.lemmas.List.Sums.{sum_by-append, sum_by-cons}
use Rattle.mem_num.specs.declared.full.Full.{Full}
use Rattle.acct_core.specs.Claims.{Claim, claim_at}
use Rattle.acct_core.specs.declared.level_step.LevelStep.{LevelStep}
use Rattle.acct_core.specs.Phases.Phase.{Up}
use Rattle.acct_core.specs.Effects.{passed, goes_on}
use Rattle.acct_core.specs.Phases.{is_past, any_past}
use Rattle.acct_words.specs.Entries.StepKind.{LoadWord, BeginCharge, AddHeld, RaisePeak}
use Rattle.acct_words.specs.Entries.{StepKind, Entry, begun, reached, size_begun}
use Rattle.acct_words.specs.declared.fixed.Fixed.{Fixed}
use Rattle.acct_words.specs.declared.level.Above.{Above}
use Rattle.acct_words.specs.Views.{Chunk, Known, Body, View}
use Rattle.acct_words.specs.Places.{held_word, limit_word, peak_word, reservation_word, parent_word}
use Rattle.acct_words.specs.Rows.{parent_of, ComesAfterParent}
use Rattle.acct_words.specs.Moves.{charged_as, beginning, forcing, rising, reading, first_chunk}
use Rattle.acct_words.specs.Plays.{HasReached, KnowsLevel, Steps, StepsAt, TellsFixed, entry, stepping, knowing, known_at}
use Rattle.atomic_table.specs.declared.shared.Shared.{Shared}
use Rattle.atomic_table.specs.declared.shared.Seat.{Seat}
use Rattle.acct_words.specs.declared.rule.Said.{Said}
use Rattle.acct_words.specs.declared.rule.AccountsRule.{AccountsRule}
use Rattle.acct_words.specs.declared.fixed.Opening.{Opening}
use Rattle.acct_words.specs.Calls.{IsOf, GoesUp, HasRoom, HasEmptyChunk}
use Rattle.acct_words.specs.Climbs.{HasClimbed, IsRaise, EndsLevel, GoesUpLevel, ReadsAbove, ReadsLevel, IsAbove, IsCharged, IsForced, IsGoing, GoesOn, IsInTree}
use Rattle.acct_words.specs.Climbs.{level_step, is_due, showing, above_read, level_read, next_asked, full_at, first_of, refusal_of}
use Rattle.acct_words.specs.Climbs.Climbs.{begins, adds}
use Rattle.acct_words.specs.Climbs.IsRaise.{none, still, raised}

-- four entries and others more
four_more : (xs ys : List Entry) (a b c d : Entry) (rs : List Entry) →
    (((((xs ++ ys) ++ a ∷ []) ++ b ∷ []) ++ c ∷ []) ++ d ∷ []) ++ rs ≡ xs ++ (ys ++ a ∷ b ∷ c ∷ d ∷ rs)
four_more [] [] a b c d rs = refl
four_more [] (y ∷ ys) a b c d rs = ap (λ (l : List Entry). y ∷ l) (four_more [] ys a b c d rs)
four_more (x ∷ xs) ys a b c d rs = ap (λ (l : List Entry). x ∷ l) (four_more xs ys a b c d rs)

-- four entries and others
four_of : (xs : List Entry) (a b c d : Entry) (rs : List Entry) →
    ((((xs ++ a ∷ []) ++ b ∷ []) ++ c ∷ []) ++ d ∷ []) ++ rs ≡ xs ++ a ∷ b ∷ c ∷ d ∷ rs
four_of [] a b c d rs = refl
four_of (x ∷ xs) a b c d rs = ap (λ (l : List Entry). x ∷ l) (four_of xs a b c d rs)

-- a step behind others
one_between : (xs : List Entry) (e : Entry) (ys zs : List Entry) → (xs ++ e ∷ ys) ++ zs ≡ xs ++ e ∷ (ys ++ zs)
one_between [] e ys zs = refl
one_between (x ∷ xs) e ys zs = ap (λ (l : List Entry). x ∷ l) (one_between xs e ys zs)

-- what four entries and others begin
four_begin : (a b c d : Entry) (rs : List Entry) →
    sum_by begun (a ∷ b ∷ c ∷ d ∷ rs) ≡ begun a + (begun b + (begun c + (begun d + sum_by begun rs)))
four_begin a b c d rs =
    let w = sum_by-cons begun a (b ∷ c ∷ d ∷ rs) in
    let x = sum_by-cons begun b (c ∷ d ∷ rs) in
    let y = sum_by-cons begun c (d ∷ rs) in
    let z = sum_by-cons begun d rs in omega arith

-- the raising of a peak begins nothing
pub raise_begins : {level to : ℕ} {due : Bool} {raise : List Entry} → IsRaise level to due raise → sum_by begun raise ≡ 0
raise_begins none = refl
raise_begins (still load is reached) = let a = sum_by-cons begun load [] in let b = ap size_begun is.kind in omega arith
raise_begins (raised load raise is word kind) =
    let a = sum_by-cons begun load (raise ∷ []) in let b = sum_by-cons begun raise [] in
    let c = ap size_begun is.kind in let d = ap size_begun kind in omega arith

-- no refusal, no step past its limit
pub refusal_none : (at : ℕ) (steps : List LevelStep) → is_none (refusal_of at steps) ≡ not (any_past steps)
refusal_none at [] = refl
refusal_none at (s ∷ steps) = by (is_past s) (refusal_none at steps)
  where
    by : (b : Bool) → is_none (refusal_of at steps) ≡ not (any_past steps) →
        is_none (cond b (Some (full_at at s)) (refusal_of at steps)) ≡ not (b || any_past steps)
    by true rest = refl
    by false rest = rest

-- whether there is none, by whether there is some
pub none_is : (full : Option Full) (answer : Bool) → is_some full ≡ not answer → answer ≡ is_none full
none_is None true e = refl
none_is None false e = absurd cc
none_is (Some f) true e = absurd cc
none_is (Some f) false e = refl

-- when a peak is due after one step more
due_is : (forced clean : Bool) (steps : List LevelStep) (step : LevelStep) → clean ≡ not (any_past steps) →
    (forced || (clean && not (is_past step))) ≡ is_due forced (steps ++ step ∷ [])
due_is forced clean steps step e = ap (λ (c : Bool). forced || (c && not (is_past step))) e
    ∙ by forced (any_past steps) (is_past step)
    ∙ ap (λ (b : Bool). forced || not b) (sym (list_any-append is_past steps (step ∷ [])))
  where
    by : (f a p : Bool) → (f || (not a && not p)) ≡ (f || not (a || (p || false)))
    by true a p = refl
    by false true p = refl
    by false false true = refl
    by false false false = refl

-- a token knows the level at which it has just made a step
pub knows_level : (act : StepKind) (make : ℕ → Fixed → Body → Entry → Body) (level found : ℕ) (v w : View)
    (s : StepsAt act make level found v w) → known_at level w.known ≡ Some s.fixed
knows_level act make level found v w s = ap (λ (y : View). known_at level y.known) s.made.1
    ∙ ap (λ (b : Bool). cond b (Some s.fixed) (known_at level v.known)) (eq-eqb level level refl)

-- what is fixed of a level is read, its limit first
pub level_is_read : (level limit : ℕ) (above : Above) (v w x : View) → Steps LoadWord reading (limit_word level) limit v w →
    TellsFixed (limit_word level) limit v → ((fixed : Fixed) → known_at level w.known ≡ Some fixed → ReadsAbove level above w x fixed) →
    (fixed : Fixed) → known_at level v.known ≡ Some fixed → ReadsLevel level limit above v x fixed
level_is_read level limit above v w x s tells reads fixed e =
    let l = tells.limit level refl fixed e in
    let r = reads fixed (ap (λ (y : View). known_at level y.known) s.1 ∙ e) in
    record {
      first_name = s.0;
      second_name = r.second_name;
      third_name = r.third_name;
      view = r.view ∙ ap (above_read level fixed r.second_name r.third_name) s.1
          ∙ (λ j. above_read level fixed r.second_name r.third_name (stepping reading v (entry s.0 (limit_word level) LoadWord (l j))));
      limit_is = l;
      above_is = r.above_is;
    }

-- a token that made an addition has reached what it led to
pub has_reached : (act : StepKind) (make : ℕ → Fixed → Body → Entry → Body) (level found to : ℕ) (v w : View) →
    ((f : Fixed) (b : Body) (e : Entry) → (make level f b e).own_steps ≡ b.own_steps ++ e ∷ []) → reached act found ≡ to →
    StepsAt act make level found v w → HasReached to w
has_reached act make level found to v w steps is s =
    let e = entry s.made.0 (held_word level) act found in
    record {
      before = v.own.own_steps;
      addition = e;
      later = [];
      made = ap (λ (y : View). y.own.own_steps) s.made.1 ∙ steps s.fixed v.own e;
      reaches = is;
    }

-- and still has with more steps
pub reached_later : (to : ℕ) (v w : View) (more : List Entry) → HasReached to v → w.own.own_steps ≡ v.own.own_steps ++ more →
    HasReached to w
reached_later to v w more h e = record {
  before = h.before;
  addition = h.addition;
  later = h.later ++ more;
  made = e ∙ ap (λ (l : List Entry). l ++ more) h.made ∙ one_between h.before h.addition h.later more;
  reaches = h.reaches;
}

-- as after the loads of what is fixed of a level
pub reached_read : (to level limit : ℕ) (above : Above) (v w : View) → HasReached to v → KnowsLevel level v →
    ((fixed : Fixed) → known_at level v.known ≡ Some fixed → ReadsLevel level limit above v w fixed) → HasReached to w
reached_read to level limit above v w h known reads =
    let r = reads known.fixed known.is in
    let b = entry r.first_name (limit_word level) LoadWord known.fixed.limit in
    let c = entry r.second_name (reservation_word level) LoadWord known.fixed.reservation in
    let d = entry r.third_name (parent_word level) LoadWord known.fixed.parent.0 in
    reached_later to v w (b ∷ c ∷ d ∷ []) h (ap (λ (y : View). y.own.own_steps) r.view ∙ three_of v.own.own_steps b c d)
  where
    three_of : (xs : List Entry) (a b c : Entry) → ((xs ++ a ∷ []) ++ b ∷ []) ++ c ∷ [] ≡ xs ++ a ∷ b ∷ c ∷ []
    three_of [] a b c = refl
    three_of (x ∷ xs) a b c = ap (λ (l : List Entry). x ∷ l) (three_of xs a b c)

-- the token is of its table still
pub still_of : (words : Shared Said View Opening AccountsRule) (token new : Seat Said View) (level limit : ℕ) (above : Above) →
    IsOf words token →
    new.table_id ≡ token.table_id → KnowsLevel level token.me.0 →
    ((fixed : Fixed) → known_at level token.me.0.known ≡ Some fixed → ReadsLevel level limit above token.me.0 new.me.0 fixed) →
    IsOf words new
still_of words token new level limit above t same known reads = record {
  table = same ∙ t.table;
  start = ap (λ (y : View). y.start) (reads known.fixed known.is).view ∙ t.start;
  wide = t.wide;
  few = t.few;
}

-- a peak was below this, and is raised
pub peak_raised : (level to peak found : ℕ) (due : Bool) (v w x : View) → due ≡ true →
    Steps LoadWord reading (peak_word level) peak v w → Steps (RaisePeak to) reading (peak_word level) found w x →
    (raise : List Entry) × IsRaise level to due raise × (x ≡ showing v raise)
peak_raised level to peak found due v w x e s t =
    let a = entry s.0 (peak_word level) LoadWord peak in
    let b = entry t.0 (peak_word level) (RaisePeak to) found in (
      a ∷ b ∷ [],
      subst (λ (d : Bool). IsRaise level to d (a ∷ b ∷ [])) (sym e)
          (raised a b (record { word_is = refl; kind = refl; returned = refl }) refl refl),
      t.1 ∙ ap (λ (y : View). stepping reading y b) s.1
          ∙ (λ j. record v { own = record (v.own) { own_steps = two_of v.own.own_steps a b j } }),
    )
  where
    two_of : (xs : List Entry) (a b : Entry) → (xs ++ a ∷ []) ++ b ∷ [] ≡ xs ++ a ∷ b ∷ []
    two_of [] a b = refl
    two_of (x ∷ xs) a b = ap (λ (l : List Entry). x ∷ l) (two_of xs a b)

-- it was there already
pub peak_still : (level to peak : ℕ) (due : Bool) (v w : View) → due ≡ true → Steps LoadWord reading (peak_word level) peak v w →
    to ≤ peak → (raise : List Entry) × IsRaise level to due raise × (w ≡ showing v raise)
peak_still level to peak due v w e s h =
    let a = entry s.0 (peak_word level) LoadWord peak in (
      a ∷ [],
      subst (λ (d : Bool). IsRaise level to d (a ∷ [])) (sym e)
          (still a (record { word_is = refl; kind = refl; returned = refl }) h),
      s.1,
    )

-- it isn't due
pub peak_not_due : (level to : ℕ) (due : Bool) (v : View) → due ≡ false →
    (raise : List Entry) × IsRaise level to due raise × (v ≡ showing v raise)
peak_not_due level to due v e = (
  [],
  subst (λ (d : Bool). IsRaise level to d []) (sym e) none,
  (λ j. record v { own = record (v.own) { own_steps = sym (append-nil v.own.own_steps) j } }),
)

-- a level ends, with its loads and its peak
pub level_ends : (at level amount found limit : ℕ) (above : Above) (forced clean due : Bool) (v w x : View) (full : Option Full)
    (next : Option (ℕ × ℕ)) →
    ((fixed : Fixed) → known_at level v.known ≡ Some fixed → ReadsLevel level limit above v w fixed) →
    ((step : LevelStep) → step ≡ record { level = level; old = found; amount = amount; limit = limit } → full ≡ refusal_of at (step ∷ [])) →
    due ≡ (forced || (clean && is_none full)) →
    (raise : List Entry) × IsRaise level (found + amount) due raise × (x ≡ showing w raise) →
    ((fixed : Fixed) → IsAbove above fixed → next ≡ next_asked level fixed amount found) →
    (fixed : Fixed) → known_at level v.known ≡ Some fixed → EndsLevel at level amount found forced clean v x fixed full next
level_ends at level amount found limit above forced clean due v w x full next reads refused due_here (raise, raise_is, view) further f e =
    let r = reads f e in
    let step = level_step level f amount found in
    let full_is = refused step (λ j. record { level = level; old = found; amount = amount; limit = sym r.limit_is j }) in
    record {
      first_name = r.first_name;
      second_name = r.second_name;
      third_name = r.third_name;
      raise = raise;
      raise_is = subst (λ (b : Bool). IsRaise level (found + amount) b raise)
          (due_here ∙ ap (λ (b : Bool). forced || (clean && b)) (ap (λ (o : Option Full). is_none o) full_is ∙ by (is_past step)))
          raise_is;
      view = view ∙ (λ j. showing (r.view j) raise);
      full_is = full_is;
      next_is = further f r.above_is;
    }
  where
    by : (b : Bool) → is_none (cond b (Some (full_at at (level_step level f amount found))) None) ≡ not b
    by true = refl
    by false = refl

-- an addition at a level, with what ends the level
pub level_gone : (at level amount : ℕ) (act : StepKind) (make : ℕ → Fixed → Body → Entry → Body) (forced clean : Bool) (found : ℕ)
    (v w x : View) (full : Option Full) (next : Option (ℕ × ℕ)) → StepsAt act make level found v w →
    ((fixed : Fixed) → known_at level w.known ≡ Some fixed → EndsLevel at level amount found forced clean w x fixed full next) →
    GoesUpLevel at act make forced clean level amount v x full next
level_gone at level amount act make forced clean found v w x full next s ends =
    let r = ends s.fixed (knows_level act make level found v w s) in
    record {
      fixed = s.fixed;
      found = found;
      name = s.made.0;
      first_name = r.first_name;
      second_name = r.second_name;
      third_name = r.third_name;
      raise = r.raise;
      raise_is = r.raise_is;
      view = r.view ∙ ap (λ (y : View). showing (level_read level s.fixed r.first_name r.second_name r.third_name y) r.raise) s.made.1;
      after_parent = s.after_parent;
      full_is = r.full_is;
      next_is = r.next_is;
    }

-- a charge has begun
climb_begins : (at size : ℕ) (v w : View) (full : Option Full) (next : Option (ℕ × ℕ)) (chunk : Chunk) (others : List Chunk) →
    v.own.chunks ≡ chunk ∷ others → (h : GoesUpLevel at (BeginCharge size) (beginning size) false true at size v w full next)
    → HasClimbed at size false (record { number = chunk.number; size = size; charges = [] }) [] others (v.own.bytes - size) v.own.turns v
    w (level_step at h.fixed size h.found ∷ []) next
climb_begins at size v w full next chunk others is h =
    let f = h.fixed in
    let a = entry h.name (held_word at) (BeginCharge size) h.found in
    let b = entry h.first_name (limit_word at) LoadWord f.limit in
    let c = entry h.second_name (reservation_word at) LoadWord f.reservation in
    let d = entry h.third_name (parent_word at) LoadWord f.parent.0 in
    let known : List Known = record { level = at; fixed = f } ∷ v.known in
    subst (HasClimbed at size false (record { number = chunk.number; size = size; charges = [] }) [] others (v.own.bytes - size)
    v.own.turns v w (level_step at f size h.found ∷ [])) (sym h.next_is) (record {
      entries = a ∷ b ∷ c ∷ d ∷ h.raise;
      climb = adds f a b c d h.raise begins (record {
        held = refl;
        added = refl;
        limit_is = record { word_is = refl; kind = refl; returned = refl };
        reservation_is = record { word_is = refl; kind = refl; returned = refl };
        parent_is = record { word_is = refl; kind = refl; returned = refl };
      }) (subst (λ (b : Bool). IsRaise at (h.found + size) b h.raise)
          (due_is false true [] (level_step at f size h.found) refl) h.raise_is);
      begins = (let x = four_begin a b c d h.raise in let y = raise_begins h.raise_is in omega arith);
      known = known;
      view = h.view ∙ (λ j. record v {
        known = known;
        own = record (v.own) {
          own_steps = four_of v.own.own_steps a b c d h.raise j;
          bytes = v.own.bytes - size;
          chunks = first_chunk (λ (k : Chunk). record {
            number = k.number;
            size = size;
            charges = claim_at at (goes_on (next_asked at f size h.found) size false (level_step at f size h.found ∷ [])) ∷ [];
          }) (is j);
        };
      });
    })

-- a force has begun
climb_forces : (at size : ℕ) (v w : View) (full : Option Full) (next : Option (ℕ × ℕ)) (chunk : Chunk) (others : List Chunk) →
    v.own.chunks ≡ chunk ∷ others → (h : GoesUpLevel at (AddHeld size) (forcing size) true true at size v w full next)
    → HasClimbed at size true chunk chunk.charges others v.own.bytes v.own.turns v w (level_step at h.fixed size h.found ∷ []) next
climb_forces at size v w full next chunk others is h =
    let f = h.fixed in
    let a = entry h.name (held_word at) (AddHeld size) h.found in
    let b = entry h.first_name (limit_word at) LoadWord f.limit in
    let c = entry h.second_name (reservation_word at) LoadWord f.reservation in
    let d = entry h.third_name (parent_word at) LoadWord f.parent.0 in
    let known : List Known = record { level = at; fixed = f } ∷ v.known in
    subst (HasClimbed at size true chunk chunk.charges others v.own.bytes v.own.turns v w (level_step at f size h.found ∷ []))
    (sym h.next_is) (record {
      entries = a ∷ b ∷ c ∷ d ∷ h.raise;
      climb = adds f a b c d h.raise begins (record {
        held = refl;
        added = refl;
        limit_is = record { word_is = refl; kind = refl; returned = refl };
        reservation_is = record { word_is = refl; kind = refl; returned = refl };
        parent_is = record { word_is = refl; kind = refl; returned = refl };
      }) (subst (λ (b : Bool). IsRaise at (h.found + size) b h.raise)
          (due_is true true [] (level_step at f size h.found) refl) h.raise_is);
      begins = (let x = four_begin a b c d h.raise in let y = raise_begins h.raise_is in omega arith);
      known = known;
      view = h.view ∙ (λ j. record v {
        known = known;
        own = record (v.own) {
          own_steps = four_of v.own.own_steps a b c d h.raise j;
          chunks = first_chunk (λ (k : Chunk). charged_as k (claim_at at (goes_on (next_asked at f size h.found) size true
              (level_step at f size h.found ∷ [])) ∷ k.charges)) (is j);
        };
      });
    })

-- a request has gone up one level more
climb_goes_on : (at size : ℕ) (forced clean : Bool) (chunk : Chunk) (rest : List Claim) (others : List Chunk) (bytes turns : ℕ)
    (v w x : View) (steps : List LevelStep) (m amount : ℕ) (full : Option Full) (next : Option (ℕ × ℕ)) → clean ≡ not (any_past steps)
    → HasClimbed at size forced chunk rest others bytes turns v w steps (Some (m, amount)) →
    (h : GoesUpLevel at (AddHeld amount) rising forced clean m amount w x full next)
    → HasClimbed at size forced chunk rest others bytes turns v x (steps ++ level_step m h.fixed amount h.found ∷ []) next
climb_goes_on at size forced clean chunk rest others bytes turns v w x steps m amount full next clean_is c h =
    let f = h.fixed in
    let a = entry h.name (held_word m) (AddHeld amount) h.found in
    let b = entry h.first_name (limit_word m) LoadWord f.limit in
    let r = entry h.second_name (reservation_word m) LoadWord f.reservation in
    let p = entry h.third_name (parent_word m) LoadWord f.parent.0 in
    let known : List Known = record { level = m; fixed = f } ∷ c.known in
    subst (HasClimbed at size forced chunk rest others bytes turns v x (steps ++ level_step m f amount h.found ∷ [])) (sym h.next_is)
    (record {
      entries = c.entries ++ a ∷ b ∷ r ∷ p ∷ h.raise;
      climb = adds f a b r p h.raise c.climb (record {
        held = refl;
        added = refl;
        limit_is = record { word_is = refl; kind = refl; returned = refl };
        reservation_is = record { word_is = refl; kind = refl; returned = refl };
        parent_is = record { word_is = refl; kind = refl; returned = refl };
      }) (subst (λ (b : Bool). IsRaise m (h.found + amount) b h.raise)
          (due_is forced clean steps (level_step m f amount h.found) clean_is) h.raise_is);
      begins = (let o = c.begins in let q = sum_by-append begun c.entries (a ∷ b ∷ r ∷ p ∷ h.raise) in
          let y = four_begin a b r p h.raise in let z = raise_begins h.raise_is in omega arith);
      known = known;
      view = h.view ∙ (λ j. showing (level_read m f h.first_name h.second_name h.third_name
          (stepping (rising m f) (knowing m f (c.view j)) a)) h.raise)
          ∙ (λ j. record v {
            known = known;
            own = record (v.own) {
              own_steps = four_more v.own.own_steps c.entries a b r p h.raise j;
              bytes = bytes;
              turns = turns;
              chunks = charged_as chunk
                  (claim_at at (goes_on (next_asked m f amount h.found) size forced (steps ++ level_step m f amount h.found ∷ [])) ∷
                  rest) ∷ others;
            };
          });
    })

-- the refusal after one step more
pub refusal_more : (at : ℕ) (steps : List LevelStep) (step : LevelStep) → refusal_of at (steps ++ step ∷ [])
    ≡ first_of (refusal_of at steps) (refusal_of at (step ∷ []))
refusal_more at [] step = refl
refusal_more at (s ∷ steps) step = by (is_past s) (refusal_more at steps step)
  where
    by : (b : Bool) → refusal_of at (steps ++ step ∷ []) ≡ first_of (refusal_of at steps) (refusal_of at (step ∷ []))
        → cond b (Some (full_at at s)) (refusal_of at (steps ++ step ∷ []))
        ≡ first_of (cond b (Some (full_at at s)) (refusal_of at steps)) (refusal_of at (step ∷ []))
    by true e = refl
    by false e = e

-- the number that there is, or 0
abbrev or_zero : Option (ℕ × ℕ) → ℕ
or_zero None = 0
or_zero (Some p) = p.0

-- what is passed on goes to the parent
pub passed_below : (level : ℕ) (fixed : Fixed) (n : ℕ) → ComesAfterParent level fixed → (p : ℕ × ℕ) →
    passed (parent_of level fixed) n ≡ Some p → p.0 < level
passed_below level fixed n after p e = go (parent_of level fixed) n refl e
  where
    go : (o : Option ℕ) (n : ℕ) → parent_of level fixed ≡ o → passed o n ≡ Some p → p.0 < level
    go (Some q) (suc n) is r = let l = after q is in let z : q ≡ p.0 = ap or_zero r in omega arith
    go (Some q) zero is r = absurd cc
    go None n is r = absurd cc

-- so the next level is one of the tree
pub passed_in_tree : (count level : ℕ) (fixed : Fixed) (n : ℕ) → ComesAfterParent level fixed → level < count →
    IsInTree count (passed (parent_of level fixed) n)
passed_in_tree count level fixed n after there = go (passed (parent_of level fixed) n) refl
  where
    go : (o : Option (ℕ × ℕ)) → passed (parent_of level fixed) n ≡ o → IsInTree count o
    go None e = tt
    go (Some p) e = let l = passed_below level fixed n after p e in omega arith

-- as after an addition
pub asked_in_tree : (count at level amount : ℕ) (act : StepKind) (make : ℕ → Fixed → Body → Entry → Body) (forced clean : Bool)
    (v w : View) (full : Option Full) (next : Option (ℕ × ℕ)) → GoesUpLevel at act make forced clean level amount v w full next →
    level < count → IsInTree count next
asked_in_tree count at level amount act make forced clean v w full next h there =
    subst (IsInTree count) (sym h.next_is) (passed_in_tree count level h.fixed _ h.after_parent there)

-- a charge has begun, and this is the refusal so far
pub charge_begins : (at size : ℕ) (v w : View) (full : Option Full) (next : Option (ℕ × ℕ)) → HasEmptyChunk v →
    GoesUpLevel at (BeginCharge size) (beginning size) false true at size v w full next →
    (steps : List LevelStep) × IsCharged at size v w steps next × (full ≡ refusal_of at steps)
charge_begins at size v w full next c h = (
  level_step at h.fixed size h.found ∷ [],
  record {
    chunk = c.chunk;
    others = c.others;
    is = c.is;
    climbed = climb_begins at size v w full next c.chunk c.others c.is h;
  },
  h.full_is,
)

-- a charge on its way
pub charge_going : (at size : ℕ) (v w : View) (steps : List LevelStep) (full : Option Full) (next : Option (ℕ × ℕ)) →
    IsCharged at size v w steps next → full ≡ refusal_of at steps → IsGoing at false w full next
charge_going at size v w steps full next c f = record {
  size = size;
  chunk = record { number = c.chunk.number; size = size; charges = [] };
  rest = [];
  others = c.others;
  bytes = v.own.bytes - size;
  turns = v.own.turns;
  before = v;
  steps = steps;
  climbed = c.climbed;
  refusal = f;
}

-- and all the way up
pub charge_ends : (at size : ℕ) (v w x : View) (full all : Option Full) (next : Option (ℕ × ℕ)) →
    (steps : List LevelStep) × IsCharged at size v w steps next × (full ≡ refusal_of at steps) → GoesOn at false w x full all next None
    → (steps : List LevelStep) × IsCharged at size v x steps None × (all ≡ refusal_of at steps)
charge_ends at size v w x full all next (steps, c, f) g =
    let q = g size (record { number = c.chunk.number; size = size; charges = [] }) [] c.others (v.own.bytes - size) v.own.turns v
    steps c.climbed f in
    (q.0, record { chunk = c.chunk; others = c.others; is = c.is; climbed = q.1 }, q.2)

-- a way up goes on by one level
pub level_goes_on : (at : ℕ) (forced clean : Bool) (m amount : ℕ) (w x : View) (full refused all : Option Full) (next : Option (ℕ × ℕ)) →
    clean ≡ is_none full → GoesUpLevel at (AddHeld amount) rising forced clean m amount w x refused next →
    all ≡ first_of full refused → GoesOn at forced w x full all (Some (m, amount)) next
level_goes_on at forced clean m amount w x full refused all next clean_is h a size chunk rest others bytes turns v steps c f = (
  steps ++ level_step m h.fixed amount h.found ∷ [],
  climb_goes_on at size forced clean chunk rest others bytes turns v w x steps m amount refused next
      (clean_is ∙ ap (λ (o : Option Full). is_none o) f ∙ refusal_none at steps) c h,
  a ∙ (λ j. first_of (f j) (h.full_is j)) ∙ sym (refusal_more at steps (level_step m h.fixed amount h.found)),
)

-- one way up after another
pub goes_on_then : (at : ℕ) (forced : Bool) (w x y : View) (full all whole : Option Full) (next middle last : Option (ℕ × ℕ)) →
    GoesOn at forced w x full all next middle → GoesOn at forced x y all whole middle last → GoesOn at forced w y full whole next last
goes_on_then at forced w x y full all whole next middle last g h size chunk rest others bytes turns v steps c f =
    let q = g size chunk rest others bytes turns v steps c f in h size chunk rest others bytes turns v q.0 q.1 q.2

-- it is on its way still
pub going_on : (at : ℕ) (forced : Bool) (w x : View) (full all : Option Full) (next last : Option (ℕ × ℕ)) →
    GoesOn at forced w x full all next last → IsGoing at forced w full next → IsGoing at forced x all last
going_on at forced w x full all next last g i =
    let q = g i.size i.chunk i.rest i.others i.bytes i.turns i.before i.steps i.climbed i.refusal in
    record {
      size = i.size;
      chunk = i.chunk;
      rest = i.rest;
      others = i.others;
      bytes = i.bytes;
      turns = i.turns;
      before = i.before;
      steps = q.0;
      climbed = q.1;
      refusal = q.2;
    }

-- what it has to add next
pub going_up : (at : ℕ) (forced : Bool) (m amount : ℕ) (w : View) (full : Option Full) → IsGoing at forced w full (Some (m, amount)) →
    GoesUp m amount w
going_up at forced m amount w full i = record {
  chunk = charged_as i.chunk (claim_at at (Up i.size m amount forced i.steps) ∷ i.rest);
  others = i.others;
  is = ap (λ (y : View). y.own.chunks) i.climbed.view;
  at = at;
  size = i.size;
  forced = forced;
  steps = i.steps;
  rest = i.rest;
  up = refl;
}

-- a force has begun
pub force_begins : (at size : ℕ) (v w : View) (full : Option Full) (next : Option (ℕ × ℕ)) → HasRoom size v →
    GoesUpLevel at (AddHeld size) (forcing size) true true at size v w full next →
    (steps : List LevelStep) × IsForced at size v w steps next × (full ≡ refusal_of at steps)
force_begins at size v w full next c h = (
  level_step at h.fixed size h.found ∷ [],
  record {
    chunk = c.chunk;
    others = c.others;
    is = c.is;
    climbed = climb_forces at size v w full next c.chunk c.others c.is h;
  },
  h.full_is,
)

-- a force on its way
pub force_going : (at size : ℕ) (v w : View) (steps : List LevelStep) (full : Option Full) (next : Option (ℕ × ℕ)) →
    IsForced at size v w steps next → full ≡ refusal_of at steps → IsGoing at true w full next
force_going at size v w steps full next c f = record {
  size = size;
  chunk = c.chunk;
  rest = c.chunk.charges;
  others = c.others;
  bytes = v.own.bytes;
  turns = v.own.turns;
  before = v;
  steps = steps;
  climbed = c.climbed;
  refusal = f;
}

-- and all the way up
pub force_ends : (at size : ℕ) (v w x : View) (full all : Option Full) (next : Option (ℕ × ℕ)) →
    (steps : List LevelStep) × IsForced at size v w steps next × (full ≡ refusal_of at steps) → GoesOn at true w x full all next None
    → (steps : List LevelStep) × IsForced at size v x steps None × (all ≡ refusal_of at steps)
force_ends at size v w x full all next (steps, c, f) g =
    let q = g size c.chunk c.chunk.charges c.others v.own.bytes v.own.turns v steps c.climbed f in
    (q.0, record { chunk = c.chunk; others = c.others; is = c.is; climbed = q.1 }, q.2)
