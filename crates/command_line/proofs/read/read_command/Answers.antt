-- What `clap` finds is read as the words say.
use Rattle.std.proofs.Common.{◌≡◌, ◌∙◌, ap, map, None, rules}
use Rattle.std.specs.Prelude.{string_bytes}
use Rattle.clap.specs.Simple.{subcommand_rows_of}
use Rattle.command_line.specs.App.{command_found, found_in}
use Rattle.command_line.proofs.ReadingLemmas.{reading, texts_are_utf8}
use Rattle.command_line.proofs.read.read_command.Goals as goal

pub returns-in-Some : goal.returns-in-Some
returns-in-Some c =
    let found : subcommand_rows_of c.in-Some.matches ≡ found_in (map string_bytes c.args.words.now) = search rules in
    record {
      reading = c.command_of.ensures.command ∙ ap command_found found
          ∙ reading (map string_bytes c.args.words.now) (texts_are_utf8 c.args.words.now);
    }

pub returns-in-None : goal.returns-in-None
returns-in-None c =
    let found : None ≡ found_in (map string_bytes c.args.words.now) = search rules in
    record { reading = ap command_found found ∙ reading (map string_bytes c.args.words.now) (texts_are_utf8 c.args.words.now) }
