use Rattle.std.proofs.Common.{rules}
use Rattle.row_text.proofs.PrintLemmas.{text-bounds, text-cut}
use Rattle.row_text.proofs.cell_column.text_at.Goals as goal

pub slice_bounds-result-count : goal.slice_bounds-result-count
slice_bounds-result-count
    c = (text-bounds c.args.bytes.now c.args.ends.now c.args.place c.start_of-start.result c.requires.texts c.requires.within
    c.start_of-start.ensures).0

pub returns : goal.returns
returns c = text-cut c.args.bytes.now c.args.ends.now c.args.place c.start_of-start.result c.requires.within c.start_of-start.ensures

pub slice_bounds-result-start : goal.slice_bounds-result-start
slice_bounds-result-start c =
    let b = text-bounds c.args.bytes.now c.args.ends.now c.args.place c.start_of-start.result c.requires.texts c.requires.within
    c.start_of-start.ensures in
    search (rules, b.0)

pub slice_bounds-result-end : goal.slice_bounds-result-end
slice_bounds-result-end c =
    let b = text-bounds c.args.bytes.now c.args.ends.now c.args.place c.start_of-start.result c.requires.texts c.requires.within
    c.start_of-start.ensures in
    search (rules, b.1)
