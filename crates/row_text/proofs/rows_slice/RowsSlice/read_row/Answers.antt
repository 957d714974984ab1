use Rattle.std.proofs.Common.{◌≡◌, ◌<◌, ◌-◌, [], sym, arith, subst, get_or, length}
use Rattle.csv.specs.Records.{fields_of}
use Rattle.row_text.specs.Answer.{fields_of_row}
use Rattle.row_text.specs.Rows.{Table, part_of}
use Rattle.row_text.proofs.PrintLemmas.{part-row, place-within, range-all, row-fields}
use Rattle.row_text.proofs.rows_slice.RowsSlice.read_row.Goals as goal

pub overflow_add-place : goal.overflow_add-place
overflow_add-place c =
    let within : c.args.row < length
    (part_of c.self.inside.from (c.self.inside.to - c.self.inside.from) c.self.inside.rows.now).rows = subst
    (λ (t : Table). c.args.row < length t.rows) (sym c.self.view_is) c.requires in
    let row = part-row c.self.inside.rows.now c.self.inside.from (c.self.inside.to - c.self.inside.from) c.args.row
    (range-all _ _ _ c.self.invariant) within in
    omega (arith, row, c.self.invariant.order, c.self.ranges.1.1.0.1)

pub print-requires-clause-within : goal.print-requires-clause-within
print-requires-clause-within c =
    let (count, same, stored) = c.columns-columns.ensures in
    let within : c.args.row < length
    (part_of c.self.inside.from (c.self.inside.to - c.self.inside.from) c.self.inside.rows.now).rows = subst
    (λ (t : Table). c.args.row < length t.rows) (sym c.self.view_is) c.requires in
    place-within c.self.inside.rows.now count c.self.inside.from (c.self.inside.to - c.self.inside.from) c.args.row c.columns.column-index
    c.columns-columns.result.now c.column-item.result
    same stored (range-all _ _ _ c.self.invariant) within c.columns-test.true c.column-item.is

pub returns : goal.returns
returns c =
    let (count, same, stored) = c.columns-columns.ensures in
    let within : c.args.row < length
    (part_of c.self.inside.from (c.self.inside.to - c.self.inside.from) c.self.inside.rows.now).rows = subst
    (λ (t : Table). c.args.row < length t.rows) (sym c.self.view_is) c.requires in
    let read = row-fields c.self.inside.rows.now count c.self.inside.from (c.self.inside.to - c.self.inside.from) c.args.row
    c.columns.column-index c.columns-columns.result.now (fields_of c.columns.fields)
    same stored (range-all _ _ _ c.self.invariant) within c.columns-test.false c.columns.invariant.fields in
    subst (λ (t : Table). fields_of c.columns.fields ≡ fields_of_row (get_or t.rows c.args.row [])) c.self.view_is read
