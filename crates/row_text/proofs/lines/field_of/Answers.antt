use Rattle.std.proofs.Common.{◌<◌, arith, length, rules}
use Rattle.row_text.proofs.LineLemmas.{end-behind, end-within, first-field, fits-below, next-field}
use Rattle.row_text.proofs.lines.field_of.Goals as goal

pub slice_bounds-result-end : goal.slice_bounds-result-end
slice_bounds-result-end c =
    let end = end-within 0 c.args.place c.args.ends.now (length c.args.text.now) c.requires.places c.requires.within in
    search (rules, end)

pub returns-then-place-eq0 : goal.returns-then-place-eq0
returns-then-place-eq0 c =
    let some : 0 < length c.args.ends.now = (let within = c.requires.within in omega (arith, within)) in
    rw c.if-place-eq0.true (first-field c.args.ends.now c.args.text.now some)

pub overflow_add-result : goal.overflow_add-result
overflow_add-result c =
    let behind = end-behind c.args.place c.args.ends.now (length c.args.text.now) c.requires.places c.if-place-eq0.false
    c.requires.within in
    fits-below _ _ behind (c.type_inv.ends c.args.place)

pub slice_bounds-result-count : goal.slice_bounds-result-count
slice_bounds-result-count c =
    end-behind c.args.place c.args.ends.now (length c.args.text.now) c.requires.places c.if-place-eq0.false c.requires.within

pub slice_bounds-result-start : goal.slice_bounds-result-start
slice_bounds-result-start c =
    let behind = end-behind c.args.place c.args.ends.now (length c.args.text.now) c.requires.places c.if-place-eq0.false
    c.requires.within in
    search (rules, behind)

pub slice_bounds-result-end-2 : goal.slice_bounds-result-end-2
slice_bounds-result-end-2 c =
    let end = end-within 0 c.args.place c.args.ends.now (length c.args.text.now) c.requires.places c.requires.within in
    search (rules, end)

pub returns : goal.returns
returns c = next-field c.args.place c.args.ends.now c.args.text.now c.if-place-eq0.false c.requires.within
