use Rattle.std.proofs.Common.{sym, arith, ◌∙◌}
use Rattle.row_text.proofs.SliceLemmas.{stored-length, part-all}
use Rattle.row_text.proofs.rows.Rows.as_slice.Goals as goal

pub new-requires : goal.new-requires
new-requires c =
    let size = stored-length c.args.self.now c.self.inside.count c.self.inside.columns.items (sym c.self.view_is) c.self.invariant in
    record { order = omega arith; within = omega (arith, size) }

pub returns : goal.returns
returns c = c.new.ensures
    ∙ part-all c.args.self.now c.self.inside.count
    (stored-length c.args.self.now c.self.inside.count c.self.inside.columns.items (sym c.self.view_is) c.self.invariant)
