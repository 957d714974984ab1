-- What the steps of the command's making come to.
use Rattle.std.proofs.Common.{◌≡◌, ◌∙◌, ap, ap₂, codes, true, [], ◌∷◌, ◌++◌}
use Rattle.clap.specs.Simple.{App, Shape, app_of, app_of_fields, shape_of, with_rule, new_app, on_top}
use Rattle.clap.specs.Walk.{Rule, Text}
use Rattle.clap.specs.declared.builder.command.Command.{Command}
use Rattle.clap.specs.declared.builder.command.Command.TheViews.{out-Command}
use Rattle.command_line.specs.App.{bare, leaf, option_rule}

-- the settings of the whole command
pub top_of : (name none help words : Command) → app_of name ≡ new_app (codes "arrowmem")
    → out-Command none ≡ record (out-Command name) { no_binary_name = true }
    → out-Command help ≡ record (out-Command none) { disable_help_flag = true }
    → out-Command words ≡ record (out-Command help) { disable_help_subcommand = true }
    → app_of words ≡ bare
top_of name none help words made no_name no_flag no_help =
    ap app_of_fields no_help
    ∙ ap (on_top (λ s. record s { disable_help_subcommand = true })) (ap app_of_fields no_flag)
    ∙ ap (on_top (λ s. record s { disable_help_subcommand = true; disable_help_flag = true })) (ap app_of_fields no_name)
    ∙ ap (on_top (λ s. record s { disable_help_subcommand = true; disable_help_flag = true; no_binary_name = true })) made

-- a subcommand with one option
pub with_option : (old new : Command) (rule : Rule) (name option : Text) → shape_of old ≡ leaf name []
    → app_of new ≡ with_rule (app_of old) rule → rule ≡ option_rule option → shape_of new ≡ leaf name (option ∷ [])
with_option old new rule name option is added says =
    ap (λ (a : App). a.top) added ∙ ap₂ (λ (s : Shape) (r : Rule). record s { rules = s.rules ++ r ∷ [] }) is says
