use Rattle.alloc_tree.proofs.LowerLemmas.{stays_open, undone}
use Rattle.alloc_tree.proofs.walk.request.Goals as goal

pub lower-requires-clause-open : goal.lower-requires-clause-open
lower-requires-clause-open c = stays_open c.args.rows.now c.raise.new.rows c.args.at.0 c.raise.ensures.kept c.requires.open

pub returns-in-Some-clause-answers : goal.returns-in-Some-clause-answers
returns-in-Some-clause-answers c = λ charges balance.
    undone charges (record { at = c.args.at; amount = c.args.amount }) c.args.rows.now c.raise.new.rows c.lower.new.rows c.raise.result
    c.in-Some.full c.raise.ensures.kept (c.raise.ensures.charged charges balance) c.in-Some.is
    c.lower.ensures.peaks (c.lower.ensures.released charges)
