-- What a word looks like, here and to `clap`.
use Rattle.std.proofs.Common.{◌≡◌, ◌∙◌, ap, refl, sym, subst, ℕ, Bool, cond, true, false, true≢false, List, [], ◌∷◌, ◌++◌, length, take}
use Rattle.std.proofs.Common.{Option, Some, None, codes, arith, ◌==◌}
use Rattle.std.specs.Prelude.{slice_get}
use Rattle.std.specs.List.{list_any, before_first, after_first, position_or_len}
use Rattle.std.specs.Str.{bytes_eq, chars, IsUtf8}
use Rattle.std.proofs.Math.Utf8.{encodes}
use Rattle.std.proofs.lemmas.Bool.Decides.{nat_tests}
use Rattle.std.proofs.lemmas.Str.{IsUtf8-past_char, encode_ascii, encodes-chars}
use Rattle.std.proofs.lemmas.List.{take_all}
use Rattle.clap.specs.Lexer.{long_of, short_of}
use Rattle.command_line.specs.Words.{Text, Word, valued, named, plain, unknown, is_equals, word_of}

-- the word of an option with this name, and this value if it has one
abbrev pub option_word : Text → Option Text → Word
option_word name None = named name
option_word name (Some value) = valued name value

-- a word other than `--`, as `clap` sees it
pub data Look (text : Text) : Type 0 where
  looks_long : (name : Text) (value : Option Text) → long_of text ≡ Some (name, value) → word_of text ≡ option_word name value → Look text
  looks_short : (byte : ℕ) (more : Text) → text ≡ 45 ∷ byte ∷ more → long_of text ≡ None → short_of text ≡ Some (byte ∷ more)
      → word_of text ≡ unknown
      → Look text
  looks_plain : long_of text ≡ None → short_of text ≡ None → word_of text ≡ plain text → Look text

-- a text without `=` stands before it as a whole
all_pass : (text : Text) → list_any is_equals text ≡ false → position_or_len is_equals text ≡ length text
all_pass [] none = refl
all_pass (x ∷ text) none = go (x == 61) refl (all_pass text)
  where
    go : (b : Bool) → (x == 61) ≡ b → (list_any is_equals text ≡ false → position_or_len is_equals text ≡ length text)
        → position_or_len is_equals (x ∷ text) ≡ length (x ∷ text)
    go true e more = let bad : true ≡ false = rw e at none in absurd (true≢false bad)
    go false e more = let rest : list_any is_equals text ≡ false = rw e at none in rw e (omega (arith, more rest))

-- and is what stands before it
before_first-none : (text : Text) → list_any is_equals text ≡ false → before_first is_equals text ≡ text
before_first-none text none = ap (λ n. take n text) (all_pass text none) ∙ take_all (length text) text (omega arith)

-- two hyphens with more behind them
look_at_option : (byte : ℕ) (more : Text) → Look (45 ∷ 45 ∷ byte ∷ more)
look_at_option byte more =
    looks_long (before_first is_equals (byte ∷ more))
    (cond (list_any is_equals (byte ∷ more)) (Some (after_first is_equals (byte ∷ more))) None) refl
    (go (list_any is_equals (byte ∷ more)) refl (after_first is_equals (byte ∷ more)))
  where
    go : (b : Bool) → list_any is_equals (byte ∷ more) ≡ b → (after : Text)
        → cond b (valued (before_first is_equals (byte ∷ more)) after) (named (byte ∷ more))
        ≡ option_word (before_first is_equals (byte ∷ more)) (cond b (Some after) None)
    go true e after = refl
    go false e after = ap named (sym (before_first-none (byte ∷ more) e))

-- every word but `--`
pub look_at : (text : Text) → bytes_eq text (codes "--") ≡ false → Look text
look_at [] other = looks_plain refl refl refl
look_at (x ∷ []) other = go (x == 45) refl
  where
    go : (b : Bool) → (x == 45) ≡ b → Look (x ∷ [])
    go true e = let is : x ≡ 45 = grind (arith, nat_tests) in subst (λ y. Look (y ∷ [])) (sym is) (looks_plain refl refl refl)
    go false e = let turned : (45 == x) ≡ false = grind (arith, nat_tests) in looks_plain (rw e refl) (rw e refl) (rw (e, turned) refl)
look_at (x ∷ y ∷ more) other = go (x == 45) (y == 45) refl refl
  where
    at_hyphens : (rest : Text) → bytes_eq (45 ∷ 45 ∷ rest) (codes "--") ≡ false → Look (45 ∷ 45 ∷ rest)
    at_hyphens [] bad = absurd (true≢false bad)
    at_hyphens (byte ∷ rest) none = look_at_option byte rest

    go : (b d : Bool) → (x == 45) ≡ b → (y == 45) ≡ d → Look (x ∷ y ∷ more)
    go true true e f =
        let first : x ≡ 45 = grind (arith, nat_tests) in
        let second : y ≡ 45 = grind (arith, nat_tests) in
        let whole : x ∷ y ∷ more ≡ 45 ∷ 45 ∷ more = rw (first, second) refl in
        subst Look (sym whole) (at_hyphens more (subst (λ t. bytes_eq t (codes "--") ≡ false) whole other))
    go true false e f =
        let first : x ≡ 45 = grind (arith, nat_tests) in
        let turned : (45 == y) ≡ false = grind (arith, nat_tests) in
        subst (λ z. Look (z ∷ y ∷ more)) (sym first) (looks_short y more refl (rw f refl) (rw f refl) (rw turned refl))
    go false d e f =
        let turned : (45 == x) ≡ false = grind (arith, nat_tests) in looks_plain (rw e refl) (rw e refl) (rw (e, turned) refl)

-- what stands behind a hyphen has a first character
pub first_char : (byte : ℕ) (more : Text) → IsUtf8 (45 ∷ byte ∷ more) → (c : ℕ) × (slice_get (chars (byte ∷ more)) 0 ≡ Some c)
first_char byte more u = go (chars (byte ∷ more))
    (encodes-chars (byte ∷ more) (IsUtf8-past_char (45 ∷ byte ∷ more) (byte ∷ more) 45 u
    (ap (λ (l : Text). l ++ byte ∷ more) (sym (encode_ascii 45 (omega arith))))))
  where
    is_nil : List ℕ → Bool
    is_nil [] = true
    is_nil (x ∷ xs) = false

    go : (cs : List ℕ) → encodes cs ≡ byte ∷ more → (c : ℕ) × (slice_get cs 0 ≡ Some c)
    go [] e = absurd (true≢false (ap is_nil e))
    go (c ∷ cs) e = (c, refl)
