-- Each step adds a subcommand.
use Rattle.std.proofs.Common.{ap₂, ◌∙◌}
use Rattle.std.proofs.lemmas.Result.{IfOk-weaker}
use Rattle.clap.specs.Simple.{with_subcommand}
use Rattle.command_line.proofs.app.app.Goals as goal

pub returns : goal.returns
returns c =
    let one = c.in_ok-subcommand.ensures.shape c.in_ok-trace.ensures.local
    ∙ ap₂ with_subcommand c.bare.ensures.bare c.in_ok-trace.ensures.shape in
    let two = c.in_ok-subcommand-2.ensures.shape c.in_ok-drive.ensures.local ∙ ap₂ with_subcommand one c.in_ok-drive.ensures.shape in
    let three = c.in_ok-subcommand-3.ensures.shape c.in_ok-query.ensures.local ∙ ap₂ with_subcommand two c.in_ok-query.ensures.shape in
    record {
      app = IfOk-weaker c.subcommand-4.result _ _
          (λ m h. h.shape c.in_ok-generate.ensures.local ∙ ap₂ with_subcommand three c.in_ok-generate.ensures.shape) c.subcommand-4.ensures;
    }
