use Rattle.alloc_tree.proofs.RowLemmas.{use_less}
use Rattle.alloc_tree.proofs.uses.drop_use.Goals as goal

pub returns : goal.returns
returns c = record { uses = use_less c.args.rows.now c.args.at.0 c.row_of-row.result c.row_of-row.ensures }
