use Rattle.std.proofs.Common.{◌-◌, subst}
use Rattle.row_text.specs.Rows.{Table}
use Rattle.row_text.specs.Slices.{IsColumnOf}
use Rattle.row_text.proofs.PrintLemmas.{range-all}
use Rattle.row_text.proofs.SliceLemmas.{column-long, column-part, found}
use Rattle.row_text.proofs.rows_slice.RowsSlice.column.Goals as goal

pub part-requires : goal.part-requires
part-requires c =
    let (count, same, stored) = c.columns.ensures in
    column-long c.self.inside.rows.now count c.self.inside.from (c.self.inside.to - c.self.inside.from) c.args.column c.columns.result.now
    c.in_ok-stored.stored.now same stored
    (found c.columns.result.now c.args.column c.in_ok-stored.stored.now c.in_ok-stored.ensures.lookup.0
    c.in_ok-stored.ensures.lookup.1) (range-all _ _ _ c.self.invariant)

pub returns-clause-some : goal.returns-clause-some
returns-clause-some c =
    let (count, same, stored) = c.columns.ensures in
    subst (λ (t : Table). IsColumnOf t c.args.column c.part.result) c.self.view_is
    (column-part c.self.inside.rows.now count c.self.inside.from (c.self.inside.to - c.self.inside.from) c.args.column c.columns.result.now
    c.in_ok-stored.stored.now c.part.result same stored
    (found c.columns.result.now c.args.column c.in_ok-stored.stored.now c.in_ok-stored.ensures.lookup.0
    c.in_ok-stored.ensures.lookup.1) c.part.ensures.kind c.part.ensures.cells c.part.ensures.slices)
