-- What the walk over a subcommand's words comes to, a word at a time, and which uses it refuses whatever follows.
use Rattle.std.proofs.Common.{◌≡◌, ◌∙◌, ap, refl, sym, subst, ℕ, Bool, cond, true, false, not, true≢false, List, [], ◌∷◌, fold, Option}
use Rattle.std.proofs.Common.{Some, None, codes}
use Rattle.std.specs.Prelude.{⊤}
use Rattle.std.specs.Str.{IsUtf8, bytes_eq}
use Rattle.clap.specs.Lexer.{long_of, short_of}
use Rattle.clap.specs.Walk.{Row, Text, Waiting, Walk, has_row, is_empty, settled, settled_rows, used, walked}
use Rattle.clap.specs.Simple.{Shape}
use Rattle.clap.specs.Faults.{settle_fault, turn_fault, use_fault, walk_fault}
use Rattle.clap.specs.Kinds.{Kinds, or_else}
use Rattle.command_line.specs.Parts.{is_option}
use Rattle.command_line.proofs.WordLemmas.{Look, looks_long, looks_short, looks_plain, look_at, first_char}
use Rattle.command_line.proofs.KnowsLemmas.{bytes_are, words_name}
use Rattle.command_line.proofs.StepLemmas.{HasRules, before_end, behind_end, held, resting, built_option}
use Rattle.command_line.proofs.StepLemmas.{ends_fault, ends_walked, behind_fault, plain_fault, short_fault, unknown_fault, valued_fault}
use Rattle.command_line.proofs.StepLemmas.{named_fault}

-- the rows at the end of the words, where nothing is refused
abbrev pub outcome : Shape → Walk → List Text → Option (List Row)
outcome s w words =
    cond (is_empty (or_else (walk_fault s [] w words) (settle_fault s.rules false (fold (walked s.rules []) w words).held)))
    (Some (settled s.rules (fold (walked s.rules []) w words).held).rows) None

-- each word is a text
abbrev pub AreUtf8 : List Text → Type 0
AreUtf8 [] = ⊤
AreUtf8 (word ∷ words) = IsUtf8 word × AreUtf8 words

-- at the end the pending use is done, or refused
pub outcome-end : (s : Shape) (w : Walk) → settle_fault s.rules false w.held ≡ [] → outcome s w [] ≡ Some (settled s.rules w.held).rows
unfolding walk_fault
outcome-end s w e = rw e refl

pub outcome-end_stop : (s : Shape) (w : Walk) → is_empty (settle_fault s.rules false w.held) ≡ false → outcome s w [] ≡ None
unfolding walk_fault
outcome-end_stop s w e = rw e refl

-- a word that is not refused leads on, and another ends it
pub step_on : (s : Shape) (w next : Walk) (word : Text) (rest : List Text) → turn_fault s [] w word ≡ [] → walked s.rules [] w word ≡ next
    → outcome s w (word ∷ rest) ≡ outcome s next rest
unfolding walk_fault
step_on s w next word rest e f = rw e (ap (λ (x : Walk). outcome s x rest) f)

-- a fault at the head is a fault of the whole
pub stop : {X : Type 0} (kinds next after : Kinds) (x : Option X) → is_empty kinds ≡ false
    → cond (is_empty (or_else (or_else kinds next) after)) x None ≡ None
stop [] next after x e = absurd (true≢false e)
stop (k ∷ ks) next after x e = rw e refl

pub step_stop : (s : Shape) (w : Walk) (word : Text) (rest : List Text) → is_empty (turn_fault s [] w word) ≡ false
    → outcome s w (word ∷ rest) ≡ None
unfolding walk_fault
step_stop s w word rest e = stop (turn_fault s [] w word) _ _ _ e

-- a fault stays one, whatever the steps after it say
pub stays : (kinds next : Kinds) → is_empty kinds ≡ false → is_empty (or_else (or_else kinds next) []) ≡ false
stays [] next e = absurd (true≢false e)
stays (k ∷ ks) next e = e

pub stays_one : (kinds : Kinds) → is_empty kinds ≡ false → is_empty (or_else kinds []) ≡ false
stays_one [] e = absurd (true≢false e)
stays_one (k ∷ ks) e = e

module _ (s : Shape) (names : List Text) (has : HasRules s names) where
  -- a use of an option is refused where it was used before
  pub option_settle : (rows : List Row) (name value : Text) (b : Bool) → has_row name rows ≡ b
      → is_empty (use_fault false (built_option name) (value ∷ []) rows) ≡ not b
  option_settle rows name value true e = rw e refl
  option_settle rows name value false e = rw e refl

  -- and taken where it was not
  pub option_taken : (rows : List Row) (name value : Text) → has_row name rows ≡ false
      → use_fault false (built_option name) (value ∷ []) rows ≡ []
  option_taken rows name value e = rw e refl

  -- a pending option is used with its value
  pub option_settles : (rows : List Row) (name value : Text) → is_option names name ≡ true
      → settle_fault s.rules false (held rows (Some (name, value ∷ []))) ≡ use_fault false (built_option name) (value ∷ []) rows
  option_settles rows name value known = rw (has.id name known) refl

  pub option_rows : (rows : List Row) (name value : Text) → is_option names name ≡ true
      → settled_rows s.rules (Some (name, value ∷ [])) rows ≡ used (built_option name) (value ∷ []) rows
  option_rows rows name value known = rw (has.id name known) refl

  -- without a value it is refused
  pub empty_settles : (rows : List Row) (name : Text) → is_option names name ≡ true
      → is_empty (settle_fault s.rules false (held rows (Some (name, [])))) ≡ false
  empty_settles rows name known = rw (has.id name known) refl

  -- a plain word is never refused
  pub words_settle : (rows : List Row) (word : Text) → settle_fault s.rules false (held rows (Some (words_name, word ∷ []))) ≡ []
  words_settle rows word = rw has.words refl

  -- a use that will be refused
  pub doomed_behind : (rows : List Row) (pending : Option (Text × List Text)) (waiting : Waiting) (words : List Text)
      → is_empty (settle_fault s.rules false (held rows pending)) ≡ false → outcome s (behind_end rows pending waiting) words ≡ None
  doomed_behind rows pending waiting [] bad = outcome-end_stop s (behind_end rows pending waiting) bad
  doomed_behind rows pending waiting (word ∷ words) bad =
      step_stop s (behind_end rows pending waiting) word words (ap (λ k. is_empty k) (behind_fault s names has rows pending waiting word)
      ∙ bad)

  -- behind it an option is refused too
  pub doomed_long : (rows : List Row) (pending : Option (Text × List Text)) (waiting : Waiting) (word name : Text) (value : Option Text)
      (rest : List Text)
      → is_empty (settle_fault s.rules false (held rows pending)) ≡ false → bytes_eq word (codes "--") ≡ false
      → long_of word ≡ Some (name, value) → outcome s (before_end rows pending waiting) (word ∷ rest) ≡ None
  doomed_long rows pending waiting word name value rest bad no_end is_long =
      step_stop s (before_end rows pending waiting) word rest (go value (is_option names name) is_long refl)
    where
      go : (v : Option Text) (b : Bool) → long_of word ≡ Some (name, v) → is_option names name ≡ b
          → is_empty (turn_fault s [] (before_end rows pending waiting) word) ≡ false
      go v false e f = unknown_fault s names has rows pending waiting word name no_end v e f
      go (Some v) true e f = ap (λ k. is_empty k) (valued_fault s names has rows pending waiting word name no_end v e f) ∙ stays _ _ bad
      go None true e f = ap (λ k. is_empty k) (named_fault s names has rows pending waiting word name no_end e f) ∙ stays_one _ bad

  -- a hyphen with more behind it is refused anyway
  pub stops_short : (rows : List Row) (pending : Option (Text × List Text)) (waiting : Waiting) (word : Text) (byte : ℕ) (more : Text)
      (rest : List Text)
      → IsUtf8 word → word ≡ 45 ∷ byte ∷ more → bytes_eq word (codes "--") ≡ false
      → long_of word ≡ None → short_of word ≡ Some (byte ∷ more) → outcome s (before_end rows pending waiting) (word ∷ rest) ≡ None
  stops_short rows pending waiting word byte more rest utf8 is no_end no_long is_short =
      let first = first_char byte more (subst IsUtf8 is utf8) in
      step_stop s (before_end rows pending waiting) word rest
      (short_fault s names has rows pending waiting word byte more first.0 no_end no_long is_short first.1)

  -- and so are all words
  pub doomed : (rows : List Row) (pending : Option (Text × List Text)) (b : Bool) (words : List Text) → AreUtf8 words
      → is_empty (settle_fault s.rules false (held rows pending)) ≡ false → outcome s (before_end rows pending (resting b)) words ≡ None
  doomed rows pending b [] utf8 bad = outcome-end_stop s (before_end rows pending (resting b)) bad
  doomed rows pending b (word ∷ rest) utf8 bad = go (bytes_eq word (codes "--")) refl
    where
      looked : bytes_eq word (codes "--") ≡ false → Look word → outcome s (before_end rows pending (resting b)) (word ∷ rest) ≡ None
      looked no_end (looks_long name value is_long is) = doomed_long rows pending (resting b) word name value rest bad no_end is_long
      looked no_end (looks_short byte more is no_long is_short unread) =
          stops_short rows pending (resting b) word byte more rest utf8.0 is no_end no_long is_short
      looked no_end (looks_plain no_long no_short is) =
          step_stop s (before_end rows pending (resting b)) word rest
          (ap (λ k. is_empty k) (plain_fault s names has rows pending word no_end no_long no_short b) ∙ bad)

      go : (c : Bool) → bytes_eq word (codes "--") ≡ c → outcome s (before_end rows pending (resting b)) (word ∷ rest) ≡ None
      go true e =
          subst (λ w. outcome s (before_end rows pending (resting b)) (w ∷ rest) ≡ None) (sym (bytes_are word (codes "--") e))
          (step_on s (before_end rows pending (resting b)) _ (codes "--") rest (ends_fault s names has rows pending b)
          (ends_walked s names has rows pending b)
          ∙ doomed_behind rows pending (resting b) rest bad)
      go false e = looked e (look_at word e)
