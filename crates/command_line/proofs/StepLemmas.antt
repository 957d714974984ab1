-- One word more of a subcommand: what `clap`'s walk refuses there, and where it stands after it.
use Rattle.std.proofs.Common.{◌≡◌, refl, ℕ, Bool, cond, true, false, List, [], ◌∷◌, fold, Option, Some, None, codes}
use Rattle.std.specs.Prelude.{slice_get}
use Rattle.std.specs.Str.{bytes_eq, chars}
use Rattle.std.proofs.Math.Bool.{and-false}
use Rattle.clap.specs.Lexer.{long_of, short_of}
use Rattle.clap.specs.Walk.{Held, Row, Rule, Text, Waiting, Walk, idle, option, positional, arg_by_id, arg_by_index, arg_by_long}
use Rattle.clap.specs.Walk.{arg_by_short, is_empty, settled_rows, subcommand_met, used, walked, with_default}
use Rattle.clap.specs.Simple.{Shape, new_rule}
use Rattle.clap.specs.Faults.{check_fault, defaults_fault, flags_fault, settle_fault, turn_fault, use_fault}
use Rattle.clap.specs.Kinds.{Kinds, or_else}
use Rattle.clap.specs.declared.builder.range.ValueRange.{ValueRange}
use Rattle.clap.specs.declared.builder.value_parser.ValueParser.TheVariants as vp
use Rattle.clap.specs.declared.builder.action.ArgAction.TheVariants.{Append, Set}
use Rattle.command_line.specs.Parts.{is_option}
use Rattle.command_line.proofs.KnowsLemmas.{words_name, same_bytes}

-- one value a use
abbrev one : ValueRange
one = record { start_inclusive = 1; end_inclusive = 1 }

-- the rule of the plain words, and that of an option, once the command is built
abbrev pub words_rule : Rule
words_rule = record (new_rule words_name) { action = Some Append; range = Some one; parser = Some vp.String; index = Some 1 }

abbrev pub built_option : Text → Rule
built_option name = record (new_rule name) { long = Some name; action = Some Set; range = Some one; parser = Some vp.String }

-- the command has a rule for the plain words, one for each option, and no other
pub record HasRules (s : Shape) (names : List Text) : Type 0 where
  pub words : arg_by_id s.rules words_name ≡ Some words_rule
  pub position : arg_by_index s.rules 1 ≡ Some words_rule
  pub short : (c : ℕ) → arg_by_short s.rules c ≡ None
  pub long : (name : Text) → arg_by_long s.rules name ≡ cond (is_option names name) (Some (built_option name)) None
  pub id : (name : Text) → is_option names name ≡ true → arg_by_id s.rules name ≡ Some (built_option name)
  pub apart : (name : Text) → is_option names name ≡ true → bytes_eq words_name name ≡ false
  pub again : s.args_override_self ≡ false
  pub defaults : (rows : List Row) → defaults_fault rows s.rules ≡ []
  pub finished : (rows : List Row) → fold with_default rows s.rules ≡ rows
  pub check : (rows : List Row) → check_fault s rows false ≡ []

-- what is held between two words
abbrev pub held : List Row → Option (Text × List Text) → Held
held rows pending = record { rows = rows; pending = pending; skip = 0 }

-- before `--`, and behind it
abbrev pub before_end : List Row → Option (Text × List Text) → Waiting → Walk
before_end rows pending waiting = record {
  held = held rows pending;
  waiting = waiting;
  position = 1;
  is_trailing = false;
  stopped = None;
}

abbrev pub behind_end : List Row → Option (Text × List Text) → Waiting → Walk
behind_end rows pending waiting = record { held = held rows pending; waiting = waiting; position = 1; is_trailing = true; stopped = None }

-- nothing waits for a value of an option
abbrev pub resting : Bool → Waiting
resting false = idle
resting true = positional

-- the last step without a fault adds none
pub or_else-nil : (kinds : Kinds) → or_else kinds [] ≡ kinds
or_else-nil [] = refl
or_else-nil (k ∷ ks) = refl

-- a subcommand has none of its own
no_subcommand : (waiting : Waiting) (word : Text) → subcommand_met [] waiting word ≡ None
no_subcommand idle word = refl
no_subcommand (option name) word = refl
no_subcommand positional word = refl

module _ (s : Shape) (names : List Text) (has : HasRules s names) (rows : List Row) (pending : Option (Text × List Text)) where
  -- what the use that is pending is refused for
  abbrev pub settle : Kinds
  settle = settle_fault s.rules false (held rows pending)

  -- the rows once the pending use is done
  abbrev pub done_rows : List Row
  done_rows = settled_rows s.rules pending rows

  -- `--`
  pub ends_fault : (b : Bool) → turn_fault s [] (before_end rows pending (resting b)) (codes "--") ≡ []
  ends_fault false = refl
  ends_fault true = refl

  pub ends_walked : (b : Bool) → walked s.rules [] (before_end rows pending (resting b)) (codes "--")
      ≡ behind_end rows pending (resting b)
  unfolding walked
  ends_walked false = refl
  ends_walked true = refl

  pub waiting_ends_fault : (name : Text) → turn_fault s [] (before_end rows pending (option name)) (codes "--") ≡ []
  waiting_ends_fault name = refl

  pub waiting_ends_walked : (name : Text) → walked s.rules [] (before_end rows pending (option name)) (codes "--")
      ≡ behind_end rows pending (option name)
  unfolding walked
  waiting_ends_walked name = refl

  -- behind `--`
  pub behind_fault : (waiting : Waiting) (word : Text) → turn_fault s [] (behind_end rows pending waiting) word ≡ settle
  behind_fault waiting word = rw (has.position, has.again, and-false) refl

  pub behind_walked : (waiting : Waiting) (word : Text)
      → walked s.rules [] (behind_end rows pending waiting) word ≡ behind_end done_rows (Some (words_name, word ∷ [])) positional
  unfolding walked
  behind_walked waiting word = rw (has.position, and-false) refl

  -- a plain word
  module _ (word : Text) (no_end : bytes_eq word (codes "--") ≡ false) (no_long : long_of word ≡ None) (no_short : short_of word
      ≡ None) where
    pub plain_fault : (b : Bool) → turn_fault s [] (before_end rows pending (resting b)) word ≡ settle
    plain_fault false = rw (no_end, no_long, no_short, has.position, has.again, and-false) refl
    plain_fault true = rw (no_end, no_long, no_short, has.position, has.again, and-false) refl

    pub plain_walked : (b : Bool)
        → walked s.rules [] (before_end rows pending (resting b)) word ≡ before_end done_rows (Some (words_name, word ∷ [])) positional
    unfolding walked
    plain_walked false = rw (no_end, no_long, no_short, has.position, and-false) refl
    plain_walked true = rw (no_end, no_long, no_short, has.position, and-false) refl

  -- a hyphen with more behind it
  pub short_fault : (waiting : Waiting) (word : Text) (byte : ℕ) (more : Text) (c : ℕ) → bytes_eq word (codes "--") ≡ false
      → long_of word ≡ None
      → short_of word ≡ Some (byte ∷ more) → slice_get (chars (byte ∷ more)) 0 ≡ Some c
      → is_empty (turn_fault s [] (before_end rows pending waiting) word) ≡ false
  unfolding flags_fault
  short_fault waiting word byte more c no_end no_long is_short first =
      rw (no_subcommand waiting word, no_end, no_long, is_short, first, has.short c) refl

  -- `--name` and `--name=value`
  module _ (waiting : Waiting) (word name : Text) (no_end : bytes_eq word (codes "--") ≡ false) where
    pub unknown_fault : (value : Option Text) → long_of word ≡ Some (name, value) → is_option names name ≡ false
        → is_empty (turn_fault s [] (before_end rows pending waiting) word) ≡ false
    unknown_fault value is_long other = rw (no_subcommand waiting word, no_end, is_long, has.long name, other) refl

    pub valued_fault : (value : Text) → long_of word ≡ Some (name, Some value) → is_option names name ≡ true
        → turn_fault s [] (before_end rows pending waiting) word
        ≡ or_else (or_else settle (use_fault false (built_option name) (value ∷ []) done_rows)) []
    valued_fault value is_long known = rw (no_subcommand waiting word, no_end, is_long, has.long name, known, has.again) refl

    pub valued_walked : (value : Text) → long_of word ≡ Some (name, Some value) → is_option names name ≡ true
        → walked s.rules [] (before_end rows pending waiting) word
        ≡ before_end (used (built_option name) (value ∷ []) done_rows) None idle
    unfolding walked
    valued_walked value is_long known = rw (no_subcommand waiting word, no_end, is_long, has.long name, known) refl

    pub named_fault : long_of word ≡ Some (name, None) → is_option names name ≡ true
        → turn_fault s [] (before_end rows pending waiting) word ≡ or_else settle []
    named_fault is_long known = rw (no_subcommand waiting word, no_end, is_long, has.long name, known, has.again) refl

    pub named_walked : long_of word ≡ Some (name, None) → is_option names name ≡ true
        → walked s.rules [] (before_end rows pending waiting) word ≡ before_end done_rows (Some (name, [])) (option name)
    unfolding walked
    named_walked is_long known = rw (no_subcommand waiting word, no_end, is_long, has.long name, known) refl

-- the word that an option waits for
module _ (s : Shape) (names : List Text) (has : HasRules s names) (rows : List Row) (name word : Text) (known : is_option names name
    ≡ true)
    (no_end : bytes_eq word (codes "--") ≡ false) (no_long : long_of word ≡ None) (no_short : short_of word ≡ None) where
  pub value_fault : turn_fault s [] (before_end rows (Some (name, [])) (option name)) word ≡ []
  value_fault = rw (no_end, no_long, no_short) refl

  pub value_walked : walked s.rules [] (before_end rows (Some (name, [])) (option name)) word
      ≡ before_end rows (Some (name, word ∷ [])) idle
  unfolding walked
  value_walked = rw (no_end, no_long, no_short, has.id name known, same_bytes name) refl
