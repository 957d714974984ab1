-- The subcommand's rows give its words and its option.
use Rattle.std.proofs.Common.{ap, ap₂, sym, codes, Option, Some, List, [], ◌≡◌, ◌∙◌}
use Rattle.std.specs.Option.{unwrap_or}
use Rattle.clap.specs.Walk.{Text, rows_of}
use Rattle.clap.specs.Matches.{found_of}
use Rattle.clap.specs.Simple.{subcommand_rows_of}
use Rattle.clap.specs.declared.parser.matches.ArgMatches.TheViews.{out-ArgMatches}
use Rattle.clap.proofs.WalkLemmas.{first_value-rows, raw_values-rows}
use Rattle.command_line.specs.App.{command_found, command_named}
use Rattle.command_line.proofs.RowLemmas.{pair_of, map_twice}
use Rattle.command_line.proofs.read.command_of.Goals as goal

pub returns : goal.returns
returns c =
    let found = found_of c.in_ok-name.found.now in
    let met : subcommand_rows_of c.args.matches.now ≡ Some (c.in_ok-name.name.now, rows_of found) =
    pair_of (subcommand_rows_of c.args.matches.now) c.in_ok-name.name.now (rows_of found)
    (c.in_ok-name.ensures.name ∙ map_twice _ _ (out-ArgMatches c.args.matches.now).subcommand) c.in_ok-name.ensures.rows in
    let words = c.listed.ensures.words ∙ ap (λ (o : Option (List Text)). unwrap_or o []) (c.get_raw.ensures
    ∙ raw_values-rows found (codes "words")) in
    let workers = c.get_str.ensures ∙ first_value-rows found (codes "workers") in
    record {
      command = c.command_named.ensures.command ∙ ap₂ (command_named c.in_ok-name.name.now) words workers
          ∙ sym (ap command_found met);
    }
