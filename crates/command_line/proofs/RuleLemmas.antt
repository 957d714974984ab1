-- A subcommand with one rule for the plain words and one for each option.
use Rattle.std.proofs.Common.{◌≡◌, ◌∙◌, ap, refl, sym, subst, ℕ, Bool, cond, true, false, not, true≢false, List, [], ◌∷◌, ◌||◌, ◌&&◌, map}
use Rattle.std.proofs.Common.{fold, Option, Some, None}
use Rattle.std.specs.Prelude.{find, is_some, option_map}
use Rattle.std.specs.List.{list_any}
use Rattle.std.specs.Str.{bytes_eq}
use Rattle.std.proofs.Math.Bool.{or-true}
use Rattle.clap.specs.Walk.{Row, Rule, Text, has_long, has_row, has_short, is_empty, nothing_held, rows_after, with_default, idle}
use Rattle.clap.specs.Simple.{Shape, new_shape}
use Rattle.clap.specs.Takes.{is_given}
use Rattle.clap.specs.Faults.{defaults_fault, level_fault}
use Rattle.command_line.specs.Parts.{is_option}
use Rattle.command_line.proofs.KnowsLemmas.{bytes_are, words_name}
use Rattle.command_line.proofs.StepLemmas.{HasRules, before_end, built_option, or_else-nil, words_rule}
use Rattle.command_line.proofs.OutcomeLemmas.{outcome}

-- a built subcommand with these options
abbrev pub built_leaf : Text → List Text → Shape
built_leaf name names = record (new_shape name) {
  rules = words_rule ∷ map built_option names;
  no_binary_name = true;
  disable_help_flag = true;
  disable_help_subcommand = true;
  is_built = true;
}

-- no rule has a short name
no_short : (c : ℕ) (names : List Text) → find (λ (a : Rule). not (is_some a.index) && has_short a c) (map built_option names) ≡ None
no_short c [] = refl
no_short c (name ∷ names) = no_short c names

-- the rule of a long name is that of the option, where there is one
by_long : (names : List Text) (name : Text)
    → find (λ (a : Rule). not (is_some a.index) && has_long a name) (map built_option names)
    ≡ cond (is_option names name) (Some (built_option name)) None
by_long [] name = refl
by_long (other ∷ names) name = go (bytes_eq other name) refl (by_long names name)
  where
    go : (b : Bool) → bytes_eq other name ≡ b
        → find (λ (a : Rule). not (is_some a.index) && has_long a name) (map built_option names)
        ≡ cond (is_option names name) (Some (built_option name)) None
        → cond (b || false) (Some (built_option other))
        (find (λ (a : Rule). not (is_some a.index) && has_long a name) (map built_option names))
        ≡ cond (b || is_option names name) (Some (built_option name)) None
    go true e more = ap (λ n. Some (built_option n)) (bytes_are other name e)
    go false e more = more

-- and so is the rule of a name
by_id : (names : List Text) (name : Text) → is_option names name ≡ true
    → find (λ (a : Rule). bytes_eq a.id name) (map built_option names) ≡ Some (built_option name)
by_id [] name known = absurd (true≢false (sym known))
by_id (other ∷ names) name known = go (bytes_eq other name) refl known (by_id names name)
  where
    go : (b : Bool) → bytes_eq other name ≡ b → (b || is_option names name) ≡ true
        → (is_option names name ≡ true → find (λ (a : Rule). bytes_eq a.id name) (map built_option names) ≡ Some (built_option name))
        → cond b (Some (built_option other)) (find (λ (a : Rule). bytes_eq a.id name) (map built_option names)) ≡ Some (built_option name)
    go true e k more = ap (λ n. Some (built_option n)) (bytes_are other name e)
    go false e k more = more k

-- no rule has a default
no_default : (rows : List Row) (name : Text) → with_default rows (built_option name) ≡ rows
no_default rows name = go (has_row name rows)
  where
    go : (b : Bool) → cond b rows rows ≡ rows
    go true = refl
    go false = refl

no_words_default : (rows : List Row) → with_default rows words_rule ≡ rows
no_words_default rows = go (has_row words_name rows)
  where
    go : (b : Bool) → cond b rows rows ≡ rows
    go true = refl
    go false = refl

-- so none is refused, and none changes the rows
no_option_defaults : (rows : List Row) (names : List Text) → defaults_fault rows (map built_option names) ≡ []
unfolding defaults_fault
no_option_defaults rows [] = refl
no_option_defaults rows (name ∷ names) =
    rw or-true (ap (λ (r : List Row). defaults_fault r (map built_option names)) (no_default rows name) ∙ no_option_defaults rows names)

no_defaults : (rows : List Row) (names : List Text) → defaults_fault rows (words_rule ∷ map built_option names) ≡ []
unfolding defaults_fault
no_defaults rows names =
    rw or-true (ap (λ (r : List Row). defaults_fault r (map built_option names)) (no_words_default rows) ∙ no_option_defaults rows names)

all_finished : (rows : List Row) (names : List Text) → fold with_default rows (map built_option names) ≡ rows
all_finished rows [] = refl
all_finished rows (name ∷ names) = ap (λ (r : List Row). fold with_default r (map built_option names)) (no_default rows name)
    ∙ all_finished rows names

-- none is required
none_required : (rows : List Row) (names : List Text)
    → list_any (λ (a : Rule). a.required && not (is_given a.id rows)) (map built_option names) ≡ false
none_required rows [] = refl
none_required rows (name ∷ names) = none_required rows names

-- a built subcommand has just these rules
pub leaf_rules : (name : Text) (names : List Text) → is_option names words_name ≡ false → HasRules (built_leaf name names) names
leaf_rules name names other = record {
  words = refl;
  position = refl;
  short = λ c. no_short c names;
  long = λ long. by_long names long;
  id = λ long known. ap (λ (b : Bool). cond b (Some words_rule) (find (λ (a : Rule). bytes_eq a.id long) (map built_option names)))
      (apart long known)
      ∙ by_id names long known;
  apart = apart;
  again = refl;
  defaults = λ rows. no_defaults rows names;
  finished = λ rows. ap (λ (r : List Row). fold with_default r (map built_option names)) (no_words_default rows)
      ∙ all_finished rows names;
  check = λ rows. rw (none_required rows names) refl;
}
  where
    apart : (long : Text) → is_option names long ≡ true → bytes_eq words_name long ≡ false
    apart long known = go (bytes_eq words_name long) refl
      where
        go : (b : Bool) → bytes_eq words_name long ≡ b → b ≡ false
        go false e = refl
        go true e = sym (subst (λ n. is_option names n ≡ true) (sym (bytes_are words_name long e)) known) ∙ other

-- what a built subcommand finds in its words
abbrev pub leaf_found : Shape → List Text → Option (Text × List Row)
leaf_found s words = cond (is_empty (level_fault s [] nothing_held words false [])) (Some (s.name, rows_after s.rules [] words)) None

-- is what its walk comes to
pub leaf_found-outcome : (s : Shape) (names : List Text) (has : HasRules s names) (words : List Text)
    → leaf_found s words ≡ option_map (λ rows. (s.name, rows)) (outcome s (before_end [] None idle) words)
leaf_found-outcome s names has words = rw (has.again, has.defaults, has.check, has.finished, or_else-nil) (go _ _)
  where
    go : (b : Bool) (rows : List Row) → cond {A = Option (Text × List Row)} b (Some (s.name, rows)) None
        ≡ option_map (λ (r : List Row). (s.name, r)) (cond b (Some rows) None)
    go true rows = refl
    go false rows = refl
