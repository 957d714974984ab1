-- The cell of the place is its text.
use Rattle.std.proofs.Common.{◌∙◌, ap, sym}
use Rattle.std.specs.Cmp.Lexicographic.{slice_cmp}
use Rattle.std.specs.Ordering.{nat_cmp}
use Rattle.query_model.specs.Filter.{accepts, is_met}
use Rattle.query_model.specs.declared.cell.Cell.TheVariants as cell
use Rattle.operators.proofs.TextLemmas.{text-there}
use Rattle.operators.proofs.selecting.text_is_met.Goals as goal

pub returns : goal.returns
returns c = record {
  value = c.accepts.ensures.value ∙ ap (accepts c.args.op) c.cmp.ensures
      ∙ ap (λ text. accepts c.args.op (slice_cmp nat_cmp text c.args.value.now)) c.text_at.ensures.value
      ∙ ap (is_met c.args.op (cell.Text c.args.value.now))
      (sym (text-there c.args.start c.args.place c.args.ends.now c.args.bytes.now c.requires.within));
}
