-- One column more.
use Rattle.std.proofs.Common.{◌+◌, ◌*◌, ◌<◌, ◌≤◌, ◌∙◌, arith, length, rules}
use Rattle.std.proofs.lemmas.List.{take_all}
use Rattle.query_model.specs.Cells.{column_of}
use Rattle.query_model.specs.declared.kind.Kind.TheVariants.{Int}
use Rattle.batch_vec.specs.Batches.{bytes_of}
use Rattle.batch_vec.specs.Columns.{cells_from, rows_in}
use Rattle.batch_vec.proofs.BackLemmas.{buffer_there, buffers_many, cells_long, column_pushed, column_there}
use Rattle.batch_vec.proofs.rows.columns_of.Goals as goal

pub offset_bounds-buffers-place : goal.offset_bounds-buffers-place
offset_bounds-buffers-place g c =
    let many = buffers_many c.args.count c.args.kinds.now c.args.buffers.now _ c.requires.stored in
    let within : c.kinds.place < length c.args.kinds.now = search rules in
    omega (arith, many, within)

pub bounds-buffers-place : goal.bounds-buffers-place
bounds-buffers-place g c =
    let many = buffers_many c.args.count c.args.kinds.now c.args.buffers.now _ c.requires.stored in
    let within : c.kinds.place < length c.args.kinds.now = search rules in
    omega (arith, many, within)

pub offset_bounds-buffers-place-in-kinds : goal.offset_bounds-buffers-place-in-kinds
offset_bounds-buffers-place-in-kinds g c =
    let many = buffers_many c.args.count c.args.kinds.now c.args.buffers.now _ c.requires.stored in
    let within : c.kinds.place < length c.args.kinds.now = search rules in
    omega (arith, many, within)

pub bounds-buffers-place-in-kinds : goal.bounds-buffers-place-in-kinds
bounds-buffers-place-in-kinds g c =
    let many = buffers_many c.args.count c.args.kinds.now c.args.buffers.now _ c.requires.stored in
    let within : c.kinds.place < length c.args.kinds.now = search rules in
    omega (arith, many, within)

pub decoded-requires : goal.decoded-requires
decoded-requires g c =
    let rows = rows_in c.args.count c.args.kinds.now (bytes_of c.args.buffers.now) in
    let many = buffers_many c.args.count c.args.kinds.now c.args.buffers.now _ c.requires.stored in
    let within : c.kinds.place < length c.args.kinds.now = search rules in
    record {
      column = (
        column_of c.kinds.place rows,
        column_there c.args.count c.args.kinds.now (bytes_of c.args.buffers.now) rows c.requires.stored c.kinds.place Int _ _ within
            (buffer_there c.args.buffers.now (2 * c.kinds.place) c.index-buffers-place.result _ (omega (arith, many, within))
            c.bytes-first.ensures.value)
            (buffer_there c.args.buffers.now (2 * c.kinds.place + 1) c.index-buffers-place-in-kinds.result _ (omega (arith, many, within))
            c.bytes-second.ensures.value),
      );
    }

pub kinds-preserved : goal.kinds-preserved
kinds-preserved g c =
    let rows = rows_in c.args.count c.args.kinds.now (bytes_of c.args.buffers.now) in
    let many = buffers_many c.args.count c.args.kinds.now c.args.buffers.now _ c.requires.stored in
    let within : c.kinds.place < length c.args.kinds.now = search rules in
    let column = column_there c.args.count c.args.kinds.now (bytes_of c.args.buffers.now) rows c.requires.stored c.kinds.place Int _ _
    within
    (buffer_there c.args.buffers.now (2 * c.kinds.place) c.index-buffers-place.result _ (omega (arith, many, within))
    c.bytes-first.ensures.value)
    (buffer_there c.args.buffers.now (2 * c.kinds.place + 1) c.index-buffers-place-in-kinds.result _ (omega (arith, many, within))
    c.bytes-second.ensures.value) in
    column_pushed c.args.kinds.now rows c.kinds.place Int _ _ _ within c.in_ok-push.ensures.items c.kinds.invariant
    (c.in_ok-decoded.ensures.value (column_of c.kinds.place rows) column)

pub returns : goal.returns
returns g c =
    let rows = rows_in c.args.count c.args.kinds.now (bytes_of c.args.buffers.now) in
    let long = cells_long 0 c.args.kinds.now rows in
    let past : length c.args.kinds.now ≤ c.kinds.place = search rules in
    record { columns = c.kinds.invariant ∙ take_all c.kinds.place (cells_from 0 c.args.kinds.now rows) (omega (arith, long, past)) }
