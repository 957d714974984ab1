-- What the words of the command line say.
use Rattle.std.specs.Prelude.{ℕ, Bool, false, not, ◌&&◌, ◌==◌, List, [], ◌∷◌, if◌then◌else◌, Option, Some, None, Result, Ok, Err, String, Vec, map, string_bytes, codes}
use Rattle.std.specs.declared.alloc.Global.{Global}
use Rattle.std.specs.declared.io.Error.{Error}
use Rattle.std.specs.declared.io.ErrorKind.{ErrorKind}
use Rattle.std.specs.declared.io.ErrorKind.TheVariants.{OutOfMemory}
use Rattle.std.specs.IoError.{error_kind}
use Rattle.std.specs.Str.{bytes_eq}

-- a command with the words for its files: a script, or a plan and a table
pub data Command : Type 0 where
  trace : (file : List ℕ) → Command
  query : (plan table : List ℕ) → Command

-- a file word isn't empty and doesn't begin with a hyphen
abbrev pub is_file : List ℕ → Bool
is_file [] = false
is_file (byte ∷ more) = not (byte == 45)

-- the command `trace FILE`
abbrev pub trace_of : List (List ℕ) → Option Command
trace_of (file ∷ []) = if is_file file then Some (trace file) else None
trace_of words = None

-- two words are the option `--workers 1`
abbrev pub is_one_worker : List ℕ → List ℕ → Bool
is_one_worker option count = bytes_eq option (codes "--workers") && bytes_eq count (codes "1")

-- two words are the files of a query
abbrev pub query_of_files : List ℕ → List ℕ → Option Command
query_of_files plan table = if is_file plan && is_file table then Some (query plan table) else None

-- the command of four words, of which two neighbours are the option
abbrev pub query_of_four : List ℕ → List ℕ → List ℕ → List ℕ → Option Command
query_of_four one two three four =
    if is_one_worker one two then query_of_files three four
    else if is_one_worker two three then query_of_files one four
    else if is_one_worker three four then query_of_files one two
    else None

-- the command `query PLAN DATA`, where the option may stand before, between or behind the files
abbrev pub query_of : List (List ℕ) → Option Command
query_of (plan ∷ table ∷ []) = query_of_files plan table
query_of (one ∷ two ∷ three ∷ four ∷ []) = query_of_four one two three four
query_of words = None

-- the command that the words name; other words have no reading
abbrev pub command_of : List (List ℕ) → Option Command
command_of [] = None
command_of (word ∷ more) =
    if bytes_eq word (codes "trace") then trace_of more
    else if bytes_eq word (codes "query") then query_of more
    else None

-- the words where the system's arguments can't be had: none at all, but where memory ran out no words are known
abbrev pub words_without : ErrorKind → Option (List (List ℕ))
words_without OutOfMemory = None
words_without kind = Some []

-- the words of the system's arguments, where memory sufficed for these
abbrev pub words_of : Result (Vec (String Global) Global) Error → Option (List (List ℕ))
words_of (Ok words) = Some (map string_bytes words.items)
words_of (Err error) = words_without (error_kind error)
