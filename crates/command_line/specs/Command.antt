-- The commands, and the words that name them.
use Rattle.std.specs.Prelude.{ℕ, ◌&&◌, nat_le, nat_lt, List, [], ◌∷◌, length, codes}
use Rattle.std.specs.Prelude.{if◌then◌else◌, Option, Some, None, option_map, option_and_then}
use Rattle.std.specs.List.{list_all}
use Rattle.std.specs.Str.{bytes_eq}
use Rattle.std.specs.Str.Parse.{digits_value}
use Rattle.std.specs.Char.{is_ascii_digit}
use Rattle.command_line.specs.Words.{Text}
use Rattle.command_line.specs.Parts.{option_value, parts_of}
use Rattle.command_line.specs.declared.command.Command.{Command as AnyCommand}
use Rattle.command_line.specs.declared.command.Command.TheVariants as command

-- a command with the words for its files: a script, or a plan and a table
pub data Command : Type 0 where
  trace : (file : Text) → Command
  query : (plan table : Text) → (workers : ℕ) → Command

-- a command that borrows its words, as a command
abbrev pub command_in : AnyCommand → Command
command_in (command.Trace file) = trace file.now
command_in (command.Query plan table workers) = query plan.now table.now workers

-- the same of what was read, which may be none
abbrev pub command_read : Option AnyCommand → Option Command
command_read found = option_map command_in found

-- a file word isn't empty
abbrev pub file_of : Text → Option Text
file_of word = if nat_lt 0 (length word) then Some word else None

-- the number from `least` to `most` that a word is: one or more digits
abbrev pub number_in : ℕ → ℕ → Text → Option ℕ
number_in least most word =
    if nat_lt 0 (length word) && list_all is_ascii_digit word
    && nat_le least (digits_value 10 word) && nat_le (digits_value 10 word) most
    then Some (digits_value 10 word)
    else None

-- 1 to 16 workers, and 1 where the option isn't given
abbrev pub workers_of : Option Text → Option ℕ
workers_of None = Some 1
workers_of (Some word) = number_in 1 16 word

-- `trace FILE`
abbrev pub trace_of : List Text → Option Command
trace_of (file ∷ []) = option_map trace (file_of file)
trace_of words = None

-- `query PLAN DATA`, with the value of `--workers`
abbrev pub query_of : List Text → Option Text → Option Command
query_of (plan ∷ table ∷ []) workers =
    option_and_then (λ plan. option_and_then (λ table. option_map (query plan table)
    (workers_of workers)) (file_of table)) (file_of plan)
query_of words workers = None

-- the command of the words behind `trace`, and behind `query`
abbrev pub trace_in : List Text → Option Command
trace_in words = option_and_then (λ parts. trace_of parts.words) (parts_of [] words)

abbrev pub query_in : List Text → Option Command
query_in words =
    option_and_then (λ parts. query_of parts.words (option_value (codes "workers") parts))
    (parts_of (codes "workers" ∷ []) words)

-- the command that the words name; other words have no reading
abbrev pub command_of : List Text → Option Command
command_of [] = None
command_of (name ∷ words) =
    if bytes_eq name (codes "trace") then trace_in words
    else if bytes_eq name (codes "query") then query_in words
    else None
