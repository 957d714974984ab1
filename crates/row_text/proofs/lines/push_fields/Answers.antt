use Rattle.std.proofs.Common.{◌<◌, ◌∙◌, arith, length, sym}
use Rattle.row_text.specs.Lines.{fields_between}
use Rattle.row_text.proofs.LineLemmas.{between-length, field-placed}
use Rattle.row_text.proofs.TableLemmas.{all-took, none-of-lengths, took-next, none-field}
use Rattle.row_text.proofs.lines.push_fields.Goals as goal

pub columns-preserved : goal.columns-preserved
columns-preserved c =
    let inside : c.columns.i < length c.args.ends.now = omega arith in
    let next = took-next c.args.columns.now c.columns.columns (fields_between 0 c.args.ends.now c.args.text.now) c.columns.i
    c.push_field.new.self c.index-columns-i.result c.field_of.result.now c.columns.auto.columns (omega arith)
    (field-placed c.args.ends.now c.args.text.now c.field_of.result.now c.columns.i inside c.field_of.ensures)
    c.columns.invariant.done c.columns.invariant.left
    (c.in_ok-push_field.ensures.kind, rw c.if-not-branch.false at c.in_ok-push_field.ensures.cells) in
    record { done = next.0; left = next.1 }

pub returns : goal.returns
returns c =
    let size = between-length 0 c.args.ends.now c.args.text.now in
    all-took c.args.columns.now c.columns.columns (fields_between 0 c.args.ends.now c.args.text.now) c.columns.auto.columns
    (size ∙ c.if-ends-columns.false) (λ k d within. c.columns.invariant.done k d (omega arith))

pub returns-then-ends-columns : goal.returns-then-ends-columns
returns-then-ends-columns c =
    let size = between-length 0 c.args.ends.now c.args.text.now in
    none-of-lengths c.args.columns.now (fields_between 0 c.args.ends.now c.args.text.now) (λ e. c.if-ends-columns.true (sym size ∙ e))

pub returns-then-not-branch : goal.returns-then-not-branch
returns-then-not-branch c =
    let size = between-length 0 c.args.ends.now c.args.text.now in
    let inside : c.columns.i < length c.args.ends.now = omega arith in
    none-field c.args.columns.now c.columns.columns (fields_between 0 c.args.ends.now c.args.text.now) c.columns.i
    c.index-columns-i.result c.field_of.result.now c.columns.auto.columns (omega arith) (size ∙ c.if-ends-columns.false)
    (field-placed c.args.ends.now c.args.text.now c.field_of.result.now c.columns.i inside c.field_of.ensures)
    c.columns.invariant.left (rw c.if-not-branch.true at c.in_ok-push_field.ensures.cells)
