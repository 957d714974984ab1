-- The levels from an allocator up, as loads show them.
use Rattle.std.proofs.Common.{zero, suc, ◌≡◌, ℕ, ◌<◌, ℤ, pos, ◌+ℤ◌, ◌-◌, ◌-ℤ◌, Bool, true, false, ◌||◌, nat_lt, List, [], ◌∷◌, ◌++◌}
use Rattle.std.proofs.Common.{Some, refl, sym, ap, ◌∙◌, subst, arith}
use Rattle.std.specs.Int.{int_min}
use Rattle.acct_words.specs.Entries.StepKind.{LoadWord}
use Rattle.acct_words.specs.Entries.{Entry}
use Rattle.acct_words.specs.declared.fixed.Fixed.{Fixed}
use Rattle.acct_words.specs.declared.level.Above.{Above}
use Rattle.acct_words.specs.Views.{Known, View}
use Rattle.acct_words.specs.Places.{held_word, limit_word, reservation_word, parent_word}
use Rattle.acct_words.specs.Moves.{reading}
use Rattle.acct_words.specs.Rows.{ComesAfterParent}
use Rattle.acct_words.specs.Plays.{StepsAt, entry, known_at}
use Rattle.acct_words.specs.Climbs.{ReadsLevel, level_read, showing}
use Rattle.acct_words.specs.Headrooms.{SeenLevel, IsSeen, Sees, ViewSees, HasSeen, headroom_on, is_over_on}
use Rattle.acct_words.specs.Headrooms.Sees.{root, above}
use Rattle.acct_words.specs.Tokens.{history_of}
use Rattle.acct_words.proofs.ClimbLemmas.{knows_level}

-- four entries
four_of : (xs : List Entry) (a b c d : Entry) → (((xs ++ a ∷ []) ++ b ∷ []) ++ c ∷ []) ++ d ∷ [] ≡ xs ++ a ∷ b ∷ c ∷ d ∷ []
four_of [] a b c d = refl
four_of (x ∷ xs) a b c d = ap (λ (l : List Entry). x ∷ l) (four_of xs a b c d)

-- and others behind them
four_then : (xs : List Entry) (a b c d : Entry) (ys : List Entry) →
    (xs ++ a ∷ b ∷ c ∷ d ∷ []) ++ ys ≡ xs ++ a ∷ b ∷ c ∷ d ∷ ys
four_then [] a b c d ys = refl
four_then (x ∷ xs) a b c d ys = ap (λ (l : List Entry). x ∷ l) (four_then xs a b c d ys)

-- what was found of a level
pub record MeetsLevel (level held limit : ℕ) (over : Above) (v w : View) : Type 0 where
  pub fixed : Fixed
  pub held_entry : Entry
  pub limit_entry : Entry
  pub reservation_entry : Entry
  pub parent_entry : Entry
  pub seen : IsSeen level (record { held = held; fixed = fixed }) held_entry limit_entry reservation_entry parent_entry
  pub limit_is : limit ≡ fixed.limit
  pub reservation_is : over.reservation ≡ fixed.reservation
  pub parent_is : over.parent ≡ fixed.parent.0
  pub after_parent : ComesAfterParent level fixed
  pub known : List Known
  pub view : w ≡ record (showing v (held_entry ∷ limit_entry ∷ reservation_entry ∷ parent_entry ∷ [])) { known = known }

-- a level is met, and what is fixed of it is read
pub level_met : (level held limit : ℕ) (over : Above) (v m w : View) → StepsAt LoadWord (λ l f. reading) level held v m →
    ((fixed : Fixed) → known_at level m.known ≡ Some fixed → ReadsLevel level limit over m w fixed) →
    MeetsLevel level held limit over v w
level_met level held limit over v m w s reads =
    let f = s.fixed in
    let r = reads f (knows_level LoadWord (λ l f. reading) level held v m s) in
    let a = entry s.made.0 (held_word level) LoadWord held in
    let b = entry r.first_name (limit_word level) LoadWord f.limit in
    let c = entry r.second_name (reservation_word level) LoadWord f.reservation in
    let d = entry r.third_name (parent_word level) LoadWord f.parent.0 in
    let known : List Known = record { level = level; fixed = f } ∷ v.known in
    record {
      fixed = f;
      held_entry = a;
      limit_entry = b;
      reservation_entry = c;
      parent_entry = d;
      seen = record {
        held_is = record { word_is = refl; kind = refl; returned = refl };
        limit_is = record { word_is = refl; kind = refl; returned = refl };
        reservation_is = record { word_is = refl; kind = refl; returned = refl };
        parent_is = record { word_is = refl; kind = refl; returned = refl };
      };
      limit_is = r.limit_is;
      reservation_is = r.above_is.reservation;
      parent_is = r.above_is.parent;
      after_parent = s.after_parent;
      known = known;
      view = r.view ∙ ap (level_read level f r.first_name r.second_name r.third_name) s.made.1
          ∙ (λ j. record v { known = known; own = record (v.own) { own_steps = four_of v.own.own_steps a b c d j } });
    }

-- the parent of a level that isn't the root's is above it
pub parent_above : (level held limit : ℕ) (over : Above) (v w : View) → (level ≡ 0 → ⊥) → MeetsLevel level held limit over v w →
    over.parent < level
parent_above zero held limit over v w later m = absurd (later refl)
parent_above (suc level) held limit over v w later m = let a = m.after_parent m.fixed.parent.0 refl in let b = m.parent_is in omega arith

-- the levels of the root
pub root_seen : (level held limit : ℕ) (over : Above) (v w : View) (headroom : ℤ) (past : Bool) → level ≡ 0 →
    MeetsLevel level held limit over v w → headroom ≡ pos limit -ℤ pos held → past ≡ nat_lt limit held →
    (levels : List SeenLevel) × ViewSees level v w levels × (headroom ≡ headroom_on levels) × (past ≡ is_over_on levels)
root_seen level held limit over v w headroom past first m h p =
    let s : SeenLevel = record { held = held; fixed = m.fixed } in
    let es : List Entry = m.held_entry ∷ m.limit_entry ∷ m.reservation_entry ∷ m.parent_entry ∷ [] in (
      s ∷ [],
      subst (λ (n : ℕ). ViewSees n v w (s ∷ [])) (sym first) (record {
        entries = es;
        sees = root (subst (λ (n : ℕ). IsSeen n s m.held_entry m.limit_entry m.reservation_entry m.parent_entry) first m.seen);
        known = m.known;
        view = m.view;
      }),
      h ∙ ap (λ (n : ℕ). pos n -ℤ pos held) m.limit_is,
      p ∙ ap (λ (n : ℕ). nat_lt n held) m.limit_is ∙ by (nat_lt m.fixed.limit held),
    )
  where
    by : (b : Bool) → b ≡ (b || false)
    by true = refl
    by false = refl

-- the levels of another allocator, from those of its parent
pub more_seen : (level held limit unused : ℕ) (over : Above) (v w x : View) (headroom higher : ℤ) (past past_above : Bool) →
    (level ≡ 0 → ⊥) → MeetsLevel level held limit over v w → unused ≡ over.reservation - held →
    (levels : List SeenLevel) × ViewSees over.parent w x levels × (higher ≡ headroom_on levels) × (past_above ≡ is_over_on levels) →
    headroom ≡ int_min (pos limit -ℤ pos held) (higher +ℤ pos unused) → past ≡ (nat_lt limit held || past_above) →
    (levels : List SeenLevel) × ViewSees level v x levels × (headroom ≡ headroom_on levels) × (past ≡ is_over_on levels)
more_seen zero held limit unused over v w x headroom higher past past_above later m u r h p = absurd (later refl)
more_seen (suc level) held limit unused over v w x headroom higher past past_above later m u ([], sees, is, over_is) h p =
    absurd (no_level sees.sees)
  where
    no_level : {at : ℕ} {entries : List Entry} → Sees at entries [] → ⊥
    no_level s = elim s [ ]
more_seen (suc level) held limit unused over v w x headroom higher past past_above later m u (next ∷ levels, sees, is, over_is) h p =
    let s : SeenLevel = record { held = held; fixed = m.fixed } in (
      s ∷ next ∷ levels,
      record {
        entries = m.held_entry ∷ m.limit_entry ∷ m.reservation_entry ∷ m.parent_entry ∷ sees.entries;
        sees = above m.seen (subst (λ (n : ℕ). Sees n sees.entries (next ∷ levels)) m.parent_is sees.sees);
        known = sees.known;
        view = sees.view ∙ (λ j. record (showing (m.view j) sees.entries) { known = sees.known })
            ∙ (λ j. record v {
              known = sees.known;
              own = record (v.own) {
                own_steps = four_then v.own.own_steps m.held_entry m.limit_entry m.reservation_entry m.parent_entry sees.entries j;
              };
            });
      },
      h ∙ (λ j. int_min (pos (m.limit_is j) -ℤ pos held) (is j +ℤ pos ((u ∙ ap (λ (n : ℕ). n - held) m.reservation_is) j))),
      p ∙ (λ j. nat_lt (m.limit_is j) held || over_is j),
    )

-- as a caller's history shows it
pub seen_history : (at : ℕ) (holds : List SeenLevel → Type 0) (v w : View) (levels : List SeenLevel) → ViewSees at v w levels →
    holds levels → HasSeen at holds (history_of v) (history_of w)
seen_history at holds v w levels s h = record {
  levels = levels;
  entries = s.entries;
  sees = s.sees;
  made = record { own = ap (λ (y : View). y.own.own_steps) s.view; observed = ap (λ (y : View). y.own.observed) s.view };
  is = h;
}
