-- What the words of the command line look like.
use Rattle.std.specs.Prelude.{ℕ, Bool, ◌==◌, nat_eq, List, [], ◌∷◌, map, drop, codes}
use Rattle.std.specs.Prelude.{if◌then◌else◌}
use Rattle.std.specs.List.{starts_with, list_any, before_first, after_first}
use Rattle.std.specs.Str.{bytes_eq}

-- the bytes of a text
abbrev pub Text : Type 0
Text = List ℕ

-- `--name=value`, `--name`, a plain word, `--`, or a hyphen with more behind it
pub data Word : Type 0 where
  valued : (name value : Text) → Word
  named : (name : Text) → Word
  plain : (text : Text) → Word
  ends : Word
  unknown : Word

-- the byte `=`
abbrev pub is_equals : ℕ → Bool
is_equals byte = byte == 61

-- what follows the hyphens of an option: a name alone, or a name, `=` and a value
abbrev pub option_in : Text → Word
option_in text =
    if list_any is_equals text
    then valued (before_first is_equals text) (after_first is_equals text)
    else named text

-- a word other than `--`
abbrev pub word_of : Text → Word
word_of text =
    if starts_with nat_eq text (codes "--") then option_in (drop 2 text)
    else if bytes_eq text (codes "-") then plain text
    else if starts_with nat_eq text (codes "-") then unknown
    else plain text

-- the words of texts; all behind the first `--` are plain
abbrev pub words_of : List Text → List Word
words_of [] = []
words_of (text ∷ rest) =
    if bytes_eq text (codes "--") then ends ∷ map plain rest
    else word_of text ∷ words_of rest
