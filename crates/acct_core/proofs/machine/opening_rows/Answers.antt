use Rattle.std.proofs.Common.{◌∙◌, ap, replicate}
use Rattle.acct_core.specs.declared.row.Row.{Row}
use Rattle.acct_core.proofs.OpeningLemmas.{opening_rows-set}
use Rattle.acct_core.proofs.machine.opening_rows.Goals as goal

pub returns : goal.returns
returns c = opening_rows-set c.args.root_limit c.in-Ok.rows.items c.root.result
    (c.in-Ok.ensures.items_if_clones_equal (λ y e. e) ∙ ap (λ (r : Row). replicate 64 r) c.blank.ensures) c.root.ensures
