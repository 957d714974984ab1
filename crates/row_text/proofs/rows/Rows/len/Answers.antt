use Rattle.std.proofs.Common.{sym}
use Rattle.row_text.proofs.SliceLemmas.{stored-length, stored-typed}
use Rattle.row_text.proofs.rows.Rows.len.Goals as goal

pub returns-clause-value : goal.returns-clause-value
returns-clause-value c = sym
    (stored-length c.args.self.now c.self.inside.count c.self.inside.columns.items (sym c.self.view_is) c.self.invariant)

pub returns-clause-typed : goal.returns-clause-typed
returns-clause-typed c = stored-typed c.args.self.now c.self.inside.count c.self.inside.columns.items (sym c.self.view_is) c.self.invariant
