use Rattle.alloc_tree.proofs.RowLemmas.{use_more}
use Rattle.alloc_tree.proofs.uses.add_use.Goals as goal

pub returns : goal.returns
returns c = record { uses = use_more c.args.rows.now c.args.at.0 c.row_of-row.result c.row_of-row.ensures }
