-- The first word names the subcommand, and the rest is the subcommand's.
use Rattle.std.proofs.Common.{◌≡◌, ◌∙◌, ap, refl, sym, subst, ℕ, Bool, cond, true, false, List, [], ◌∷◌, ◌++◌, fold, Some, None}
use Rattle.std.proofs.Common.{append_assoc, append-nil, codes}
use Rattle.std.specs.Prelude.{find}
use Rattle.std.specs.Str.{IsUtf8, bytes_eq}
use Rattle.std.proofs.lemmas.Slice.Eq.{bytes_eq-Decides}
use Rattle.std.proofs.Math.Bool.{and-false}
use Rattle.clap.specs.Walk.{Held, Names, Rule, Text, Waiting, Walk, is_empty, nothing_held, walk_from, walked, idle, answers_to}
use Rattle.clap.specs.Walk.{subcommand_met}
use Rattle.clap.specs.Simple.{Shape, built, label_of, names_of}
use Rattle.clap.specs.Faults.{defaults_fault, flags_fault, level_fault, turn_fault, walk_fault}
use Rattle.clap.specs.Kinds.{Kinds, or_else}
use Rattle.clap.proofs.OnLiterals.{clap_on_literals}
use Rattle.command_line.specs.App.{app, found_in}
use Rattle.command_line.proofs.WordLemmas.{Look, looks_long, looks_short, looks_plain, look_at, first_char}
use Rattle.command_line.proofs.KnowsLemmas.{bytes_are}
use Rattle.command_line.proofs.OutcomeLemmas.{stop}
use Rattle.command_line.proofs.RuleLemmas.{built_leaf, leaf_found}

-- where a subcommand was met, with the words after it
abbrev past : Held → Waiting → ℕ → Bool → Text → List Text → Walk
past h waiting position is_trailing name words =
    record { held = h; waiting = waiting; position = position; is_trailing = is_trailing; stopped = Some (name, words) }

-- no word after a subcommand is a fault of the command above
past_fault : (s : Shape) (names : Names) (h : Held) (waiting : Waiting) (position : ℕ) (b : Bool) (name : Text) (before words : List Text)
    → walk_fault s names (past h waiting position b name before) words ≡ []
unfolding walk_fault walked
past_fault s names h waiting position b name before [] = refl
past_fault s names h waiting position b name before (word ∷ words) = past_fault s names h waiting position b name (before ++ word ∷ [])
    words

-- and each goes to the subcommand
past_walk : (c : List Rule) (names : Names) (h : Held) (waiting : Waiting) (position : ℕ) (b : Bool) (name : Text)
    (before words : List Text)
    → fold (walked c names) (past h waiting position b name before) words ≡ past h waiting position b name (before ++ words)
unfolding walked
past_walk c names h waiting position b name before [] = ap (past h waiting position b name) (sym (append-nil before))
past_walk c names h waiting position b name before (word ∷ words) =
    past_walk c names h waiting position b name (before ++ word ∷ []) words
    ∙ ap (past h waiting position b name) (append_assoc before (word ∷ []) words)

-- the first of the command above is a fault where the subcommand's is
is_empty-or_else : {X : Type 0} (kinds : Kinds) (x y : X) → cond (is_empty (or_else kinds [])) x y ≡ cond (is_empty kinds) x y
is_empty-or_else [] x y = refl
is_empty-or_else (k ∷ ks) x y = refl

-- a first word that names a subcommand
pub named_found : (name : Text) (names words : List Text) → subcommand_met (names_of (built app)) idle name ≡ Some name
    → find (λ (s : Shape). answers_to name (label_of s)) (built app).subs ≡ Some (built_leaf name names)
    → found_in (name ∷ words) ≡ leaf_found (built_leaf name names) words
unfolding walk_fault walked defaults_fault
named_found name names words met leaf =
    rw (
      met,
      past_fault (built app).top (names_of (built app)) nothing_held idle 1 false name [] words,
      past_walk (built app).top.rules (names_of (built app)) nothing_held idle 1 false name [] words,
      leaf,
      and-false,
    )
    (is_empty-or_else (level_fault (built_leaf name names) [] nothing_held words false []) _ _)

-- no words, and words after `--`, name nothing
pub nothing_found : found_in [] ≡ None
unfolding clap_on_literals
nothing_found = refl

end_found : (words : List Text) → found_in (codes "--" ∷ words) ≡ None
unfolding clap_on_literals
end_found [] = refl
end_found (word ∷ words) = refl

-- the test may be turned
bytes_eq-turned : (xs ys : Text) → bytes_eq xs ys ≡ false → bytes_eq ys xs ≡ false
bytes_eq-turned xs ys e = go (bytes_eq ys xs) refl
  where
    go : (b : Bool) → bytes_eq ys xs ≡ b → b ≡ false
    go false f = refl
    go true f = sym ((bytes_eq-Decides xs ys).1 (sym (bytes_are ys xs f))) ∙ e

-- nor does a first word that is no subcommand
module _ (word : Text) (words : List Text) (utf8 : IsUtf8 word) (no_trace : bytes_eq word (codes "trace")
    ≡ false) (no_drive : bytes_eq word (codes "drive") ≡ false)
    (no_query : bytes_eq word (codes "query") ≡ false) (no_gen : bytes_eq word (codes "gen") ≡ false) where
  other_fault : bytes_eq word (codes "--") ≡ false → Look word
      → is_empty (turn_fault (built app).top (names_of (built app)) (walk_from nothing_held) word) ≡ false
  unfolding flags_fault
  other_fault no_end (looks_long name value is_long is) =
      rw (
        bytes_eq-turned word (codes "trace") no_trace,
        bytes_eq-turned word (codes "drive") no_drive,
        bytes_eq-turned word (codes "query") no_query,
        bytes_eq-turned word (codes "gen") no_gen,
        no_end,
        is_long,
      ) refl
  other_fault no_end (looks_short byte more is no_long is_short unread) =
      let first = first_char byte more (subst IsUtf8 is utf8) in
      rw (
        bytes_eq-turned word (codes "trace") no_trace,
        bytes_eq-turned word (codes "drive") no_drive,
        bytes_eq-turned word (codes "query") no_query,
        bytes_eq-turned word (codes "gen") no_gen,
        no_end,
        no_long,
        is_short,
        first.1,
      ) refl
  other_fault no_end (looks_plain no_long no_short is) =
      rw (
        bytes_eq-turned word (codes "trace") no_trace,
        bytes_eq-turned word (codes "drive") no_drive,
        bytes_eq-turned word (codes "query") no_query,
        bytes_eq-turned word (codes "gen") no_gen,
        no_end,
        no_long,
        no_short,
      ) refl

  -- so the line has no subcommand
  other_stops : bytes_eq word (codes "--") ≡ false → found_in (word ∷ words) ≡ None
  unfolding walk_fault
  other_stops no_end = stop (turn_fault (built app).top (names_of (built app)) (walk_from nothing_held) word) _ _ _
      (other_fault no_end (look_at word no_end))

  pub other_found : found_in (word ∷ words) ≡ None
  other_found = go (bytes_eq word (codes "--")) refl
    where
      go : (b : Bool) → bytes_eq word (codes "--") ≡ b → found_in (word ∷ words) ≡ None
      go true e = ap (λ (w : Text). found_in (w ∷ words)) (bytes_are word (codes "--") e) ∙ end_found words
      go false e = other_stops e
