use Rattle.std.proofs.Common.{◌∙◌, Bool, ap, sym, get_or, w64, rules}
use Rattle.std.specs.Prelude.{FitsSigned, pos, if◌then◌else◌}
use Rattle.std.proofs.lemmas.Int.{to_z-of_z}
use Rattle.query_model.specs.declared.cell.Cell.TheVariants as cell
use Rattle.row_text.proofs.PrintLemmas.{number-at}
use Rattle.row_text.proofs.cell_column.int_at.Goals as goal

pub returns-then-known-place : goal.returns-then-known-place
returns-then-known-place c =
    let at = number-at (λ n. cell.Int n) c.args.values.now c.args.known.now c.args.place (pos 0) c.requires.marked c.requires.within in
    let marked = ap (λ (known : Bool). if known then cell.Int (get_or c.args.values.now c.args.place (pos 0)) else cell.Null)
    c.if-known-place.true in
    let fits : FitsSigned w64 (get_or c.args.values.now c.args.place (pos 0)) = search rules in
    ap (λ n. cell.Int n) (to_z-of_z w64 (get_or c.args.values.now c.args.place (pos 0)) fits) ∙ sym (at ∙ marked)

pub returns-else-known-place : goal.returns-else-known-place
returns-else-known-place c =
    let at = number-at (λ n. cell.Int n) c.args.values.now c.args.known.now c.args.place (pos 0) c.requires.marked c.requires.within in
    sym (at ∙ ap (λ (known : Bool). if known then cell.Int (get_or c.args.values.now c.args.place (pos 0)) else cell.Null)
    c.if-known-place.false)
