-- The command that the words were read as.
use Rattle.std.specs.Prelude.{Option, option_map}
use Rattle.arrowmem.specs.Words as spec
use Rattle.arrowmem.specs.declared.command.Command.{Command}
use Rattle.arrowmem.specs.declared.command.Command.TheVariants.{Trace, Query}

-- a command that borrows its words, as a command
abbrev pub command_in : Command → spec.Command
command_in (Trace file) = spec.trace file.now
command_in (Query plan table) = spec.query plan.now table.now

abbrev pub command_read : Option Command → Option spec.Command
command_read found = option_map command_in found
