-- The command line as `clap` is told of it, and what it finds there.
use Rattle.std.specs.Prelude.{true, false, List, [], ◌∷◌, map, codes, if◌then◌else◌}
use Rattle.std.specs.Prelude.{Option, Some, None, unwrap_or, option_and_then}
use Rattle.std.specs.Str.{bytes_eq}
use Rattle.clap.specs.Walk.{Rule, Row, is_empty, all_of, first_of}
use Rattle.clap.specs.Simple.{App, Shape, new_rule, new_shape, subcommand_of}
use Rattle.clap.specs.Faults.{fault_of}
use Rattle.clap.specs.declared.builder.action.ArgAction.TheVariants.{Append}
use Rattle.command_line.specs.Words.{Text}
use Rattle.command_line.specs.Command.{Command, trace_of, query_of}

-- all plain words of a command, under one name
abbrev pub plain_rule : Rule
plain_rule = record (new_rule (codes "words")) { action = Some Append }

-- an option `--name` with a value
abbrev pub option_rule : Text → Rule
option_rule name = record (new_rule name) { long = Some name }

-- a subcommand with these options
abbrev pub leaf : Text → List Text → Shape
leaf name options =
    record (new_shape name) { rules = plain_rule ∷ map option_rule options }

-- the command without its subcommands: the first word is no program's name, and there is no help
abbrev pub bare : App
bare = record {
  top = record (new_shape (codes "arrowmem")) {
    no_binary_name = true;
    disable_help_flag = true;
    disable_help_subcommand = true;
  };
  subs = [];
}

-- each command with its options
abbrev pub subcommands : List Shape
subcommands =
    leaf (codes "trace") [] ∷ leaf (codes "drive") []
    ∷ leaf (codes "query") (codes "workers" ∷ []) ∷ leaf (codes "gen") [] ∷ []

-- the whole
abbrev pub app : App
app = record { top = record bare.top { is_leaf = false }; subs = subcommands }

-- the subcommand that `clap` finds, with its rows, where it refuses nothing
abbrev pub found_in : List Text → Option (Text × List Row)
found_in words = if is_empty (fault_of app words) then subcommand_of app words else None

-- the command of a subcommand with these plain words and this value of `--workers`
abbrev pub command_named : Text → List Text → Option Text → Option Command
command_named name words workers =
    if bytes_eq name (codes "trace") then trace_of words
    else if bytes_eq name (codes "query") then query_of words workers
    else None

-- the same of its rows, and of what `clap` finds
abbrev pub command_by_rows : Text × List Row → Option Command
command_by_rows p =
    command_named p.0 (unwrap_or (all_of (codes "words") p.1) [])
    (first_of (codes "workers") p.1)

abbrev pub command_found : Option (Text × List Row) → Option Command
command_found = option_and_then command_by_rows
