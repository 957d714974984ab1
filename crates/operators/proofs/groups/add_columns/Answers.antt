-- One column more.
use Rattle.std.proofs.Common.{◌-◌, ◌++◌, ◌<◌, ◌≤◌, ◌∙◌, ap, arith, length, get_or, sym, subst, rules}
use Rattle.std.proofs.Math.ListN.{replicate, set}
use Rattle.query_model.specs.Cells.{column_of}
use Rattle.query_model.specs.declared.cell.Cell.TheVariants.{Null}
use Rattle.operators.specs.Adding.{CanAdd, all_added, with_cells}
use Rattle.operators.proofs.MixLemmas.{all-at, all-long, mixed-all, mixed-at, mixed-set, room-at}
use Rattle.operators.proofs.groups.add_columns.Goals as goal

pub add_column-requires-clause-room : goal.add_column-requires-clause-room
add_column-requires-clause-room c =
    let rows = c.args.rows.now.rows in
    let new = all_added c.args.count c.args.places.now rows c.args.columns.now c.args.sums.now in
    let same = all-long c.args.count c.args.places.now rows c.args.columns.now c.args.sums.now c.requires.many in
    let within : c.columns.place < length c.args.columns.now = search rules in
    let inside : c.columns.place < length c.args.sums.now = omega (arith, within, c.requires.many) in
    let at = ap (λ list. get_or list c.columns.place c.index-sums-place.result) c.columns.invariant
    ∙ mixed-at new c.args.sums.now c.columns.place c.index-sums-place.result same inside in
    subst (λ sum. CanAdd (sum ++ replicate (c.args.count - length sum) Null) c.args.places.now
    (column_of (get_or c.args.columns.now c.columns.place 0) rows)) (sym at)
    (room-at c.args.count c.args.places.now rows c.args.columns.now c.args.sums.now c.columns.place c.index-sums-place.result
    c.requires.room
    c.requires.many within)

pub columns-preserved : goal.columns-preserved
columns-preserved c =
    let rows = c.args.rows.now.rows in
    let new = all_added c.args.count c.args.places.now rows c.args.columns.now c.args.sums.now in
    let same = all-long c.args.count c.args.places.now rows c.args.columns.now c.args.sums.now c.requires.many in
    let within : c.columns.place < length c.args.columns.now = search rules in
    let inside : c.columns.place < length c.args.sums.now = omega (arith, within, c.requires.many) in
    let at = ap (λ list. get_or list c.columns.place c.index-sums-place.result) c.columns.invariant
    ∙ mixed-at new c.args.sums.now c.columns.place c.index-sums-place.result same inside in
    let is = c.in_ok-add_column.ensures.value
    ∙ ap (λ sum. with_cells (sum ++ replicate (c.args.count - length sum) Null) c.args.places.now
    (column_of (get_or c.args.columns.now c.columns.place 0) rows)) at
    ∙ sym (all-at c.args.count c.args.places.now rows c.args.columns.now c.args.sums.now c.columns.place c.index-sums-place.result
    c.requires.many within) in
    ap (λ list. set list c.columns.place c.add_column.new.sums) c.columns.invariant
    ∙ mixed-set new c.args.sums.now c.columns.place c.add_column.new.sums c.index-sums-place.result same inside is

pub returns : goal.returns
returns c =
    let rows = c.args.rows.now.rows in
    let new = all_added c.args.count c.args.places.now rows c.args.columns.now c.args.sums.now in
    let same = all-long c.args.count c.args.places.now rows c.args.columns.now c.args.sums.now c.requires.many in
    let behind : length c.args.sums.now ≤ c.columns.place = omega (arith, c.columns-test.false, c.requires.many) in
    record { value = c.columns.invariant ∙ mixed-all new c.args.sums.now c.columns.place same behind }
