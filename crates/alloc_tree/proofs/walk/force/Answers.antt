use Rattle.alloc_tree.proofs.ForceLemmas.{forced}
use Rattle.alloc_tree.proofs.walk.force.Goals as goal

pub returns-clause-forced : goal.returns-clause-forced
returns-clause-forced c = λ charges balance.
    forced charges (record { at = c.args.at; amount = c.args.amount }) c.args.rows.now c.raise.new.rows c.raise.result c.is_none.result
    c.is_none.ensures (c.raise.ensures.charged charges balance)
