-- The first text begins at the start, and each of the others where the one before it ends.
use Rattle.operators.proofs.TextLemmas.{start-first, start-later}
use Rattle.operators.proofs.texts.start_of.Goals as goal

pub returns-then-place-eq0 : goal.returns-then-place-eq0
returns-then-place-eq0 c = record { value = start-first c.args.start c.args.place c.args.ends.now c.if-place-eq0.true }

pub returns-else-place-eq0 : goal.returns-else-place-eq0
returns-else-place-eq0 c = record { value = start-later c.args.start c.args.place c.args.ends.now c.if-place-eq0.false c.requires.within }
