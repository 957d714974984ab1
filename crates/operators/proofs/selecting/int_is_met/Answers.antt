-- A number that isn't known is null, and meets no comparison.
use Rattle.std.proofs.Common.{◌∙◌, ap, sym, get_or, int_cmp, w64, rules}
use Rattle.std.specs.Prelude.{FitsSigned, pos, if◌then◌else◌}
use Rattle.std.proofs.lemmas.Int.{to_z-of_z}
use Rattle.query_model.specs.Filter.{accepts, is_met}
use Rattle.query_model.specs.declared.cell.Cell.TheVariants as cell
use Rattle.row_text.proofs.PrintLemmas.{number-at}
use Rattle.operators.proofs.selecting.int_is_met.Goals as goal

pub returns-then-known-place : goal.returns-then-known-place
returns-then-known-place c =
    let number = get_or c.args.values.now c.args.place (pos 0) in
    let at = number-at (λ n. cell.Int n) c.args.values.now c.args.known.now c.args.place (pos 0) c.requires.marked c.requires.within in
    let marked = ap (λ known. if known then cell.Int number else cell.Null) c.if-known-place.true in
    let fits : FitsSigned w64 c.args.value = search rules in
    let order = c.cmp.ensures ∙ ap (int_cmp number) (to_z-of_z w64 c.args.value fits) in
    record {
      value = c.accepts.ensures.value ∙ ap (accepts c.args.op) order ∙ ap (is_met c.args.op (cell.Int c.args.value)) (sym (at ∙ marked));
    }

pub returns-else-known-place : goal.returns-else-known-place
returns-else-known-place c =
    let number = get_or c.args.values.now c.args.place (pos 0) in
    let at = number-at (λ n. cell.Int n) c.args.values.now c.args.known.now c.args.place (pos 0) c.requires.marked c.requires.within in
    let marked = ap (λ known. if known then cell.Int number else cell.Null) c.if-known-place.false in
    record { value = c.if-known-place.false ∙ ap (is_met c.args.op (cell.Int c.args.value)) (sym (at ∙ marked)) }
