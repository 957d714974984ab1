use Rattle.row_text.proofs.SliceLemmas.{start-first, start-later}
use Rattle.row_text.proofs.cell_column.start_of.Goals as goal

pub returns-then-place-eq0 : goal.returns-then-place-eq0
returns-then-place-eq0 c = rw c.if-place-eq0.true (start-first c.args.ends.now)

pub returns-else-place-eq0 : goal.returns-else-place-eq0
returns-else-place-eq0 c = start-later c.args.place c.args.ends.now c.if-place-eq0.false c.requires
