-- One level more of a release.
use Rattle.std.proofs.Common.{◌≡◌, ℕ, ◌<◌, List, [], ◌∷◌, ◌++◌, Option, Some, refl, sym, ap, ◌∙◌, subst}
use Rattle.acct_core.specs.Claims.{Claim, claim_at}
use Rattle.acct_core.specs.Effects.{goes_back}
use Rattle.acct_words.specs.Entries.StepKind.{LoadWord, SubtractHeld}
use Rattle.acct_words.specs.Entries.{Entry}
use Rattle.acct_words.specs.declared.fixed.Fixed.{Fixed}
use Rattle.acct_words.specs.declared.level.Above.{Above}
use Rattle.acct_words.specs.Views.{Chunk, Known, Body, View}
use Rattle.acct_words.specs.Places.{held_word, reservation_word, parent_word}
use Rattle.acct_core.specs.FixedTrees.{settled}
use Rattle.acct_words.specs.Moves.{charged_as, first_chunk, fallen, to_front, falling_charges, turning_charges, falling, turning}
use Rattle.acct_words.specs.Plays.{StepsAt, entry, stepping, knowing, known_at}
use Rattle.acct_words.specs.Calls.{TurnsBack, GoesDown}
use Rattle.acct_words.specs.Climbs.{IsAbove, IsInTree, ReadsAbove, above_read}
use Rattle.acct_words.specs.Falls.{GoesDownLevel, IsReleased, next_given, rest_of, released}
use Rattle.acct_words.specs.Falls.Descends.{starts, subtracts}
use Rattle.acct_words.proofs.FallLemmas.{turned_is}
use Rattle.acct_words.proofs.ClimbLemmas.{knows_level, passed_in_tree}

-- three entries more
three_more : (xs ys : List Entry) (a b c : Entry) → (((xs ++ ys) ++ a ∷ []) ++ b ∷ []) ++ c ∷ [] ≡ xs ++ (ys ++ a ∷ b ∷ c ∷ [])
three_more [] [] a b c = refl
three_more [] (y ∷ ys) a b c = ap (λ (l : List Entry). y ∷ l) (three_more [] ys a b c)
three_more (x ∷ xs) ys a b c = ap (λ (l : List Entry). x ∷ l) (three_more xs ys a b c)

-- three entries
three_of : (xs : List Entry) (a b c : Entry) → ((xs ++ a ∷ []) ++ b ∷ []) ++ c ∷ [] ≡ xs ++ a ∷ b ∷ c ∷ []
three_of [] a b c = refl
three_of (x ∷ xs) a b c = ap (λ (l : List Entry). x ∷ l) (three_of xs a b c)

-- a subtraction at a level, with the loads after it
pub level_left : (level amount : ℕ) (make : ℕ → Fixed → Body → Entry → Body) (found : ℕ) (above : Above) (v w x : View)
    (next : Option (ℕ × ℕ)) → StepsAt (SubtractHeld amount) make level found v w →
    ((fixed : Fixed) → known_at level w.known ≡ Some fixed → ReadsAbove level above w x fixed) →
    ((fixed : Fixed) → IsAbove above fixed → next ≡ next_given level fixed amount found) →
    GoesDownLevel make level amount v x next
level_left level amount make found above v w x next s reads further =
    let r = reads s.fixed (knows_level (SubtractHeld amount) make level found v w s) in
    record {
      fixed = s.fixed;
      found = found;
      name = s.made.0;
      second_name = r.second_name;
      third_name = r.third_name;
      view = r.view ∙ ap (above_read level s.fixed r.second_name r.third_name) s.made.1;
      after_parent = s.after_parent;
      next_is = further s.fixed r.above_is;
    }

-- the level that is released next is one of the tree
pub given_in_tree : (count level amount : ℕ) (make : ℕ → Fixed → Body → Entry → Body) (v w : View) (next : Option (ℕ × ℕ)) →
    GoesDownLevel make level amount v w next → level < count → IsInTree count next
given_in_tree count level amount make v w next h there =
    subst (IsInTree count) (sym h.next_is) (passed_in_tree count level h.fixed _ h.after_parent there)

-- a release has begun
pub release_begins : (at size : ℕ) (v w : View) (next : Option (ℕ × ℕ)) → TurnsBack at size v →
    GoesDownLevel turning at size v w next → (entries : List Entry) × IsReleased at size v w entries next
release_begins at size v w next t h =
    let f = h.fixed in
    let a = entry h.name (held_word at) (SubtractHeld size) h.found in
    let b = entry h.second_name (reservation_word at) LoadWord f.reservation in
    let c = entry h.third_name (parent_word at) LoadWord f.parent.0 in
    let known : List Known = record { level = at; fixed = f } ∷ v.known in
    let further : Option (ℕ × ℕ) = next_given at f size h.found in
    let chunks : first_chunk (λ k. charged_as k (turning_charges at f h.found (to_front (held_word at) k.charges))) v.own.chunks
    ≡ first_chunk (released at size further) v.own.chunks
    = ap (first_chunk (λ (k : Chunk). charged_as k (turning_charges at f h.found (to_front (held_word at) k.charges)))) t.is
    ∙ ap (λ (l : List Claim). charged_as t.chunk (turning_charges at f h.found l) ∷ t.others) t.front
    ∙ ap (λ (c : Claim). charged_as t.chunk (settled (fallen at f h.found c) t.rest) ∷ t.others) (turned_is at size t.phase t.turns)
    ∙ ap (λ (l : List Claim). charged_as t.chunk (settled (claim_at at (goes_back further size)) (rest_of l)) ∷ t.others) (sym t.front)
    ∙ ap (first_chunk (released at size further)) (sym t.is) in (
      a ∷ b ∷ c ∷ [],
      subst (IsReleased at size v w (a ∷ b ∷ c ∷ [])) (sym h.next_is) (record {
        descent = subtracts f a b c starts (record {
          held = refl;
          subtracted = refl;
          reservation_is = record { word_is = refl; kind = refl; returned = refl };
          parent_is = record { word_is = refl; kind = refl; returned = refl };
        });
        known = known;
        view = h.view ∙ (λ j. record v {
          known = known;
          own = record (v.own) { own_steps = three_of v.own.own_steps a b c j; chunks = chunks j };
        });
      }),
    )

-- a release has gone up one level more
pub release_more : (at size m amount : ℕ) (v w x : View) (next : Option (ℕ × ℕ)) → TurnsBack at size v →
    GoesDownLevel falling m amount w x next → (entries : List Entry) × IsReleased at size v w entries (Some (m, amount)) →
    (entries : List Entry) × IsReleased at size v x entries next
release_more at size m amount v w x next t h (entries, r) =
    let f = h.fixed in
    let a = entry h.name (held_word m) (SubtractHeld amount) h.found in
    let b = entry h.second_name (reservation_word m) LoadWord f.reservation in
    let c = entry h.third_name (parent_word m) LoadWord f.parent.0 in
    let known : List Known = record { level = m; fixed = f } ∷ r.known in
    let further : Option (ℕ × ℕ) = next_given m f amount h.found in
    let chunks : first_chunk (λ k. charged_as k (falling_charges m f h.found k.charges))
    (first_chunk (released at size (Some (m, amount))) v.own.chunks) ≡ first_chunk (released at size further) v.own.chunks
    = ap (λ (l : List Chunk). first_chunk (λ (k : Chunk). charged_as k (falling_charges m f h.found k.charges))
    (first_chunk (released at size (Some (m, amount))) l)) t.is
    ∙ ap (first_chunk (released at size further)) (sym t.is) in (
      entries ++ a ∷ b ∷ c ∷ [],
      subst (IsReleased at size v x (entries ++ a ∷ b ∷ c ∷ [])) (sym h.next_is) (record {
        descent = subtracts f a b c r.descent (record {
          held = refl;
          subtracted = refl;
          reservation_is = record { word_is = refl; kind = refl; returned = refl };
          parent_is = record { word_is = refl; kind = refl; returned = refl };
        });
        known = known;
        view = h.view ∙ (λ j. above_read m f h.second_name h.third_name (stepping (falling m f) (knowing m f (r.view j)) a))
            ∙ (λ j. record v {
              known = known;
              own = record (v.own) { own_steps = three_more v.own.own_steps entries a b c j; chunks = chunks j };
            });
      }),
    )

-- the chunk in hand of a release that goes on has this amount to subtract
pub release_goes_down : (at size m amount : ℕ) (v w : View) (entries : List Entry) → TurnsBack at size v →
    IsReleased at size v w entries (Some (m, amount)) → GoesDown m amount w
release_goes_down at size m amount v w entries t r = record {
  chunk = released at size (Some (m, amount)) t.chunk;
  others = t.others;
  is = ap (λ (y : View). y.own.chunks) r.view ∙ ap (first_chunk (released at size (Some (m, amount)))) t.is;
  at = at;
  size = size;
  rest = rest_of (to_front (held_word at) t.chunk.charges);
  down = refl;
}
