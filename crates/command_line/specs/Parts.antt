-- The words behind a command's name, in parts: the plain ones, and the options by name.
use Rattle.std.specs.Prelude.{Bool, ◌&&◌, not, List, [], ◌∷◌, ◌++◌, find, if◌then◌else◌}
use Rattle.std.specs.Prelude.{Option, Some, None, is_some, option_map, option_and_then}
use Rattle.std.specs.List.{list_any}
use Rattle.std.specs.Str.{bytes_eq}
use Rattle.command_line.specs.Words.{Text, Word, valued, named, plain, ends, words_of}

-- the plain words in their order, and each option with its value
pub record Parts : Type 0 where
  pub words : List Text
  pub options : List (Text × Text)

-- before the first word
abbrev pub no_parts : Parts
no_parts = record { words = []; options = [] }

-- the value that an option was given
abbrev pub option_value : Text → Parts → Option Text
option_value name parts = option_map (λ o. o.1) (find (λ o. bytes_eq o.0 name) parts.options)

-- a plain word more
abbrev pub with_word : Text → Parts → Parts
with_word text parts = record parts { words = parts.words ++ text ∷ [] }

-- the name is one of these
abbrev pub is_option : List Text → Text → Bool
is_option names name = list_any (λ other. bytes_eq other name) names

-- an option has to be one of the command's, and is given once at most
abbrev pub with_option : List Text → Text → Text → Parts → Option Parts
with_option names name value parts =
    if is_option names name && not (is_some (option_value name parts))
    then Some (record parts { options = (name, value) ∷ parts.options })
    else None

-- some parts, and behind them those of the words; an option without its value takes the next word,
-- which has to be a plain one
unfoldable pub parts_after : List Text → Parts → List Word → Option Parts
parts_after names parts [] = Some parts
parts_after names parts (plain text ∷ rest) = parts_after names (with_word text parts) rest
parts_after names parts (ends ∷ rest) = parts_after names parts rest
parts_after names parts (valued name value ∷ rest) =
    option_and_then (λ more. parts_after names more rest) (with_option names name value parts)
parts_after names parts (named name ∷ plain value ∷ rest) =
    option_and_then (λ more. parts_after names more rest) (with_option names name value parts)
parts_after names parts words = None

-- the parts of the words behind the name of a command with these options
abbrev pub parts_of : List Text → List Text → Option Parts
parts_of names texts = parts_after names no_parts (words_of texts)
