-- A subcommand's words: what `clap`'s walk over them finds are their parts.
use Rattle.std.proofs.Common.{◌≡◌, ◌∙◌, ap, refl, sym, subst, Bool, cond, true, false, not, List, [], ◌∷◌, ◌&&◌, map, drop, Option, Some}
use Rattle.std.proofs.Common.{None, codes}
use Rattle.std.specs.Prelude.{⊤, is_some, option_and_then}
use Rattle.std.specs.Str.{bytes_eq}
use Rattle.clap.specs.Lexer.{long_of}
use Rattle.clap.specs.Walk.{Row, Text, Waiting, Walk, idle, option, positional, has_row, is_empty, settled_rows, used}
use Rattle.clap.specs.Simple.{Shape}
use Rattle.clap.specs.Faults.{settle_fault, turn_fault, use_fault}
use Rattle.clap.specs.Kinds.{or_else}
use Rattle.command_line.specs.Words.{Word, valued, named, plain, ends, unknown, word_of, words_of}
use Rattle.command_line.specs.Parts.{Parts, is_option, option_value, parts_after, with_word, with_option}
use Rattle.command_line.proofs.WordLemmas.{Look, looks_long, looks_short, looks_plain, look_at, option_word}
use Rattle.command_line.proofs.KnowsLemmas.{Knows, Knows-word, Knows-option, bytes_are, has_row-known, words_name}
use Rattle.command_line.proofs.StepLemmas.{HasRules, before_end, behind_end, held, resting, built_option, ends_fault, ends_walked}
use Rattle.command_line.proofs.StepLemmas.{waiting_ends_fault, waiting_ends_walked, behind_fault, behind_walked, plain_fault}
use Rattle.command_line.proofs.StepLemmas.{plain_walked, unknown_fault, valued_fault, valued_walked, named_fault, named_walked}
use Rattle.command_line.proofs.StepLemmas.{value_fault, value_walked}
use Rattle.command_line.proofs.OutcomeLemmas.{AreUtf8, outcome, outcome-end, outcome-end_stop, step_on, step_stop, stays_one}
use Rattle.command_line.proofs.OutcomeLemmas.{option_settle, option_taken, option_settles, option_rows, empty_settles, words_settle}
use Rattle.command_line.proofs.OutcomeLemmas.{doomed_behind, doomed_long, stops_short, doomed}

-- both are nothing, or the rows are known by the parts
abbrev pub Agrees : List Text → Option (List Row) → Option Parts → Type 0
Agrees names None None = ⊤
Agrees names (Some rows) (Some parts) = Knows names rows parts
Agrees names found parts = ⊥

-- what agrees may be written in other words
agree : (names : List Text) {found other : Option (List Row)} {words rest : Option Parts} → found ≡ other → words ≡ rest
    → Agrees names other rest
    → Agrees names found words
agree names e f h = rw (e, f) h

-- a word other than `--` is read alone
words_of-other : (word : Text) (rest : List Text) (is : Word) → bytes_eq word (codes "--") ≡ false → word_of word ≡ is
    → words_of (word ∷ rest) ≡ is ∷ words_of rest
words_of-other word rest is e f = rw e (ap (λ w. w ∷ words_of rest) f)

module _ (s : Shape) (names : List Text) (has : HasRules s names) where
  -- once a plain word is used, the rows know it
  knows_word : (rows : List Row) (parts : Parts) (word : Text) → Knows names rows parts
      → Knows names (settled_rows s.rules (Some (words_name, word ∷ [])) rows) (with_word word parts)
  knows_word rows parts word knows = rw has.words (Knows-word names rows parts word has.apart knows)

  -- behind `--`
  behind : (rows : List Row) (pending : Option (Text × List Text)) (waiting : Waiting) (parts : Parts) (words : List Text)
      → settle_fault s.rules false (held rows pending) ≡ [] → Knows names (settled_rows s.rules pending rows) parts
      → Agrees names (outcome s (behind_end rows pending waiting) words) (parts_after names parts (map plain words))
  unfolding parts_after
  behind rows pending waiting parts [] good knows = agree names (outcome-end s (behind_end rows pending waiting) good) refl knows
  behind rows pending waiting parts (word ∷ words) good knows =
      agree names
      (step_on s (behind_end rows pending waiting) _ word words (behind_fault s names has rows pending waiting word
      ∙ good) (behind_walked s names has rows pending waiting word))
      refl
      (behind (settled_rows s.rules pending rows) (Some (words_name, word ∷ [])) positional (with_word word parts) words
      (words_settle s names has (settled_rows s.rules pending rows) word)
      (knows_word (settled_rows s.rules pending rows) parts word knows))

  -- an option that the command hasn't has no reading, with or without a value
  named_unknown : (parts : Parts) (name : Text) (words : List Word) → is_option names name ≡ false
      → parts_after names parts (named name ∷ words) ≡ None
  unfolding parts_after
  named_unknown parts name [] other = refl
  named_unknown parts name (valued n v ∷ words) other = refl
  named_unknown parts name (named n ∷ words) other = refl
  named_unknown parts name (plain value ∷ words) other = rw other refl
  named_unknown parts name (ends ∷ words) other = refl
  named_unknown parts name (unknown ∷ words) other = refl

  -- the same of `--name=value`
  valued_unknown : (parts : Parts) (name value : Text) (words : List Word) → is_option names name ≡ false
      → parts_after names parts (valued name value ∷ words) ≡ None
  unfolding parts_after
  valued_unknown parts name value words other = rw other refl

  -- an option in another's place for a value
  named_option : (parts : Parts) (name other : Text) (value : Option Text) (words : List Word)
      → parts_after names parts (named name ∷ option_word other value ∷ words) ≡ None
  unfolding parts_after
  named_option parts name other None words = refl
  named_option parts name other (Some value) words = refl

  -- an option that was given has no reading a second time, and joins where it was not
  option_repeats : (parts : Parts) (name value : Text) → is_some (option_value name parts) ≡ true
      → with_option names name value parts ≡ None
  option_repeats parts name value e = go (is_option names name) e
    where
      go : (b : Bool) → is_some (option_value name parts) ≡ true
          → cond (b && not (is_some (option_value name parts))) (Some (record parts { options = (name, value) ∷ parts.options })) None
          ≡ None
      go true e = rw e refl
      go false e = refl

  option_joins : (parts : Parts) (name value : Text) → is_option names name ≡ true → is_some (option_value name parts) ≡ false
      → with_option names name value parts ≡ Some (record parts { options = (name, value) ∷ parts.options })
  option_joins parts name value known e = rw (known, e) refl

  -- what is claimed of the words behind some parts
  abbrev pub Claim : List Text → Type 0
  Claim words = (rows : List Row) (pending : Option (Text × List Text)) (b : Bool) (parts : Parts)
      → settle_fault s.rules false (held rows pending) ≡ [] → Knows names (settled_rows s.rules pending rows) parts
      → Agrees names (outcome s (before_end rows pending (resting b)) words) (parts_after names parts (words_of words))

  -- no option has the name of the plain words
  apart_from_words : (name : Text) → is_option names name ≡ true → bytes_eq name words_name ≡ false
  apart_from_words name known = go (bytes_eq name words_name) refl
    where
      go : (b : Bool) → bytes_eq name words_name ≡ b → b ≡ false
      go false e = refl
      go true e = sym (subst (λ n. bytes_eq words_name n ≡ true) (sym (bytes_are name words_name e)) refl) ∙ has.apart name known

  -- the parts with an option more
  abbrev pub given : Parts → Text → Text → Parts
  given parts name value = record parts { options = (name, value) ∷ parts.options }

  -- an option with its value is refused or joins, by whether it was met before
  option_use : (rows : List Row) (name value : Text) (parts : Parts) (words : List Text) (found : Option (List Row))
      → is_option names name ≡ true
      → Knows names rows parts → (has_row name rows ≡ true → found ≡ None)
      → (has_row name rows ≡ false → Agrees names found (parts_after names (given parts name value) (words_of words)))
      → Agrees names found (option_and_then (λ more. parts_after names more (words_of words)) (with_option names name value parts))
  option_use rows name value parts words found known knows again fresh = go (has_row name rows) refl
    where
      after : Option Parts → Option Parts
      after o = option_and_then (λ more. parts_after names more (words_of words)) o

      go : (b : Bool) → has_row name rows ≡ b → Agrees names found (after (with_option names name value parts))
      go true e =
          agree names (again e) (ap after (option_repeats parts name value (sym (has_row-known names rows parts name knows known) ∙ e)))
          tt
      go false e =
          agree names refl (ap after (option_joins parts name value known (sym (has_row-known names rows parts name knows known) ∙ e)))
          (fresh e)

  -- once an option is used, the rows know it
  knows_option : (rows : List Row) (name value : Text) (parts : Parts) → is_option names name ≡ true → has_row name rows ≡ false
      → Knows names rows parts
      → Knows names (used (built_option name) (value ∷ []) rows) (given parts name value)
  knows_option rows name value parts known fresh knows = Knows-option names rows parts name value (apart_from_words name known) fresh
      knows

  -- the words behind an option that waits for its value
  waiting : (rows : List Row) (name : Text) (parts : Parts) (words : List Text) → AreUtf8 words → is_option names name ≡ true
      → Knows names rows parts
      → Claim (drop 1 words)
      → Agrees names (outcome s (before_end rows (Some (name, [])) (option name)) words)
      (parts_after names parts (named name ∷ words_of words))
  unfolding parts_after
  waiting rows name parts [] utf8 known knows claim =
      agree names (outcome-end_stop s (before_end rows (Some (name, [])) (option name)) (empty_settles s names has rows name known)) refl
      tt
  waiting rows name parts (word ∷ rest) utf8 known knows claim = go (bytes_eq word (codes "--")) refl
    where
      Wanted : Text → Type 0
      Wanted w =
          Agrees names (outcome s (before_end rows (Some (name, [])) (option name)) (w ∷ rest))
          (parts_after names parts (named name ∷ words_of (w ∷ rest)))

      bad : is_empty (settle_fault s.rules false (held rows (Some (name, [])))) ≡ false
      bad = empty_settles s names has rows name known

      here : Walk
      here = before_end rows (Some (name, [])) (option name)

      given_word : Walk
      given_word = before_end rows (Some (name, word ∷ [])) idle

      ended : Wanted (codes "--")
      ended = agree names
          (step_on s here _ (codes "--") rest (waiting_ends_fault s names has rows (Some (name, [])) name)
          (waiting_ends_walked s names has rows (Some (name, [])) name)
          ∙ doomed_behind s names has rows (Some (name, [])) (option name) rest bad) refl tt

      looked : bytes_eq word (codes "--") ≡ false → Look word → Wanted word
      looked no_end (looks_long other value is_long is) =
          agree names (doomed_long s names has rows (Some (name, [])) (option name) word other value rest bad no_end is_long)
          (ap (λ ws. parts_after names parts (named name ∷ ws)) (words_of-other word rest (option_word other value) no_end is)
          ∙ named_option parts name other value (words_of rest)) tt
      looked no_end (looks_short byte more is no_long is_short unread) =
          agree names (stops_short s names has rows (Some (name, [])) (option name) word byte more rest utf8.0 is no_end no_long is_short)
          (ap (λ ws. parts_after names parts (named name ∷ ws)) (words_of-other word rest unknown no_end unread)) tt
      looked no_end (looks_plain no_long no_short is) =
          let on = step_on s here given_word word rest (value_fault s names has rows name word known no_end no_long no_short)
          (value_walked s names has rows name word known no_end no_long no_short) in
          agree names on (ap (λ ws. parts_after names parts (named name ∷ ws)) (words_of-other word rest (plain word) no_end is))
          (option_use rows name word parts rest (outcome s given_word rest) known knows
          (λ e. doomed s names has rows (Some (name, word ∷ [])) false rest utf8.1
          (ap (λ k. is_empty k) (option_settles s names has rows name word known) ∙ option_settle s names has rows name word true e))
          (λ e. claim rows (Some (name, word ∷ [])) false (given parts name word) (option_settles s names has rows name word known
          ∙ option_taken s names has rows name word e)
          (rw (option_rows s names has rows name word known) (knows_option rows name word parts known e knows))))

      go : (c : Bool) → bytes_eq word (codes "--") ≡ c → Wanted word
      go true e = subst Wanted (sym (bytes_are word (codes "--") e)) ended
      go false e = looked e (look_at word e)

  -- one word more
  step : (word : Text) (rest : List Text) → AreUtf8 (word ∷ rest) → Claim rest → Claim (drop 1 rest) → Claim (word ∷ rest)
  unfolding parts_after
  step word rest utf8 claim second rows pending b parts good knows = go (bytes_eq word (codes "--")) refl
    where
      done : List Row
      done = settled_rows s.rules pending rows

      here : Walk
      here = before_end rows pending (resting b)

      Wanted : Text → Type 0
      Wanted w = Agrees names (outcome s here (w ∷ rest)) (parts_after names parts (words_of (w ∷ rest)))

      by_words : {w : Word} → bytes_eq word (codes "--") ≡ false → word_of word ≡ w
          → parts_after names parts (words_of (word ∷ rest)) ≡ parts_after names parts (w ∷ words_of rest)
      by_words no_end is = ap (parts_after names parts) (words_of-other word rest _ no_end is)

      ended : Wanted (codes "--")
      ended = agree names (step_on s here _ (codes "--") rest (ends_fault s names has rows pending b)
          (ends_walked s names has rows pending b)) refl
          (behind rows pending (resting b) parts rest good knows)

      long : (name : Text) (value : Option Text) (k : Bool) → is_option names name ≡ k → bytes_eq word (codes "--") ≡ false
          → long_of word ≡ Some (name, value) → word_of word ≡ option_word name value → Wanted word
      long name (Some value) false unheard no_end is_long is =
          agree names (step_stop s here word rest (unknown_fault s names has rows pending (resting b) word name no_end (Some value)
          is_long unheard))
          (by_words no_end is ∙ valued_unknown parts name value (words_of rest) unheard) tt
      long name None false unheard no_end is_long is =
          agree names (step_stop s here word rest (unknown_fault s names has rows pending (resting b) word name no_end None is_long
          unheard))
          (by_words no_end is ∙ named_unknown parts name (words_of rest) unheard) tt
      long name (Some value) true known no_end is_long is =
          let fault : turn_fault s [] here word ≡ or_else (use_fault false (built_option name) (value ∷ []) done) [] =
          valued_fault s names has rows pending (resting b) word name no_end value is_long known
          ∙ ap (λ k. or_else (or_else k (use_fault false (built_option name) (value ∷ []) done)) []) good in
          agree names refl (by_words no_end is)
          (option_use done name value parts rest (outcome s here (word ∷ rest)) known knows
          (λ e. step_stop s here word rest (ap (λ k. is_empty k) fault ∙ stays_one _ (option_settle s names has done name value true e)))
          (λ e. agree names
          (step_on s here _ word rest (fault ∙ ap (λ k. or_else k []) (option_taken s names has done name value e))
          (valued_walked s names has rows pending (resting b) word name no_end value is_long known))
          refl (claim (used (built_option name) (value ∷ []) done) None false (given parts name value) refl
          (knows_option done name value parts known e knows))))
      long name None true known no_end is_long is =
          agree names
          (step_on s here _ word rest (named_fault s names has rows pending (resting b) word name no_end is_long known
          ∙ ap (λ k. or_else k []) good)
          (named_walked s names has rows pending (resting b) word name no_end is_long known))
          (by_words no_end is) (waiting done name parts rest utf8.1 known knows second)

      looked : bytes_eq word (codes "--") ≡ false → Look word → Wanted word
      looked no_end (looks_long name value is_long is) = long name value (is_option names name) refl no_end is_long is
      looked no_end (looks_short byte more is no_long is_short unread) =
          agree names (stops_short s names has rows pending (resting b) word byte more rest utf8.0 is no_end no_long is_short)
          (by_words no_end unread) tt
      looked no_end (looks_plain no_long no_short is) =
          agree names
          (step_on s here _ word rest (plain_fault s names has rows pending word no_end no_long no_short b
          ∙ good) (plain_walked s names has rows pending word no_end no_long no_short b))
          (by_words no_end is)
          (claim done (Some (words_name, word ∷ [])) true (with_word word parts) (words_settle s names has done word)
          (knows_word done parts word knows))

      go : (c : Bool) → bytes_eq word (codes "--") ≡ c → Wanted word
      go true e = subst Wanted (sym (bytes_are word (codes "--") e)) ended
      go false e = looked e (look_at word e)

  -- words by words
  pub claimed : (words : List Text) → AreUtf8 words → Claim words
  unfolding parts_after
  claimed [] utf8 = λ rows pending b parts good knows. agree names (outcome-end s (before_end rows pending (resting b)) good) refl knows
  claimed (word ∷ []) utf8 = step word [] utf8 (claimed [] utf8.1) (claimed [] utf8.1)
  claimed (word ∷ next ∷ rest) utf8 = step word (next ∷ rest) utf8 (claimed (next ∷ rest) utf8.1) (claimed rest utf8.1.1)
