-- A text is what lies between its start and its end.
use Rattle.std.proofs.Common.{rules}
use Rattle.operators.proofs.TextLemmas.{text-bounds, text-cut}
use Rattle.operators.proofs.texts.text_at.Goals as goal

pub slice_bounds-result-count : goal.slice_bounds-result-count
slice_bounds-result-count c =
    (text-bounds c.args.start c.args.place c.start_of-from.result c.args.ends.now c.args.bytes.now c.start_of-from.ensures.value
    c.requires.within c.requires.rising).0

pub slice_bounds-result-start : goal.slice_bounds-result-start
slice_bounds-result-start c =
    let bounds = text-bounds c.args.start c.args.place c.start_of-from.result c.args.ends.now c.args.bytes.now c.start_of-from.ensures.value
    c.requires.within c.requires.rising in
    search (rules, bounds.0)

pub slice_bounds-result-end : goal.slice_bounds-result-end
slice_bounds-result-end c =
    let bounds = text-bounds c.args.start c.args.place c.start_of-from.result c.args.ends.now c.args.bytes.now c.start_of-from.ensures.value
    c.requires.within c.requires.rising in
    search (rules, bounds.1)

pub returns : goal.returns
returns c = record {
  value = text-cut c.args.start c.args.place c.start_of-from.result c.args.ends.now c.args.bytes.now c.start_of-from.ensures.value
      c.requires.within;
}
