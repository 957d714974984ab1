use Rattle.std.proofs.Common.{◌≡◌, ◌∙◌, ◌++◌, ◌+◌, List, ℕ, Some, ap, subst, sym, take, arith, append_assoc}
use Rattle.std.proofs.lemmas.List.{append-nil, take_all}
use Rattle.csv.specs.Records.{fields_of}
use Rattle.csv.specs.Writing.{default_writer, row_text}
use Rattle.query_model.specs.declared.cell.Cell.{Cell}
use Rattle.row_text.specs.Answer.{rows_text}
use Rattle.row_text.specs.Written.{HasWritten}
use Rattle.row_text.proofs.WrittenLemmas.{rows-more}
use Rattle.row_text.proofs.answer.write_rows.Goals as goal

pub rows-init : goal.rows-init
rows-init c before written =
    subst (λ (t : List ℕ). HasWritten (λ v. Some v.items) c.args.writer.now t) (sym (append-nil before)) written

pub rows-preserved : goal.rows-preserved
rows-preserved c before written =
    let so_far = before ++ rows_text (take c.rows.row c.args.rows.now.rows) in
    let same : so_far ++ row_text default_writer (fields_of c.read_row.new.fields)
    ≡ before ++ rows_text (take (c.rows.row + 1) c.args.rows.now.rows) =
    ap (λ (fields : List (List ℕ)). so_far ++ row_text default_writer fields) c.in_ok-read_row.ensures
    ∙ append_assoc before (rows_text (take c.rows.row c.args.rows.now.rows)) _
    ∙ ap (λ (t : List ℕ). before ++ t) (rows-more c.args.rows.now.rows c.rows.row
    (rw (← c.len-row-end.ensures.value) (omega (arith, c.rows-test.true, c.rows.auto.row-end)))) in
    subst (λ (t : List ℕ). HasWritten (λ v. Some v.items) c.write.new.writer t) same
    (c.in_ok-write.ensures so_far (c.rows.invariant before written))

pub returns : goal.returns
returns c before written =
    let all : take c.rows.row c.args.rows.now.rows ≡ c.args.rows.now.rows =
    take_all c.rows.row c.args.rows.now.rows (rw (← c.len-row-end.ensures.value) c.rows-test.false) in
    subst (λ (rows : List (List Cell)). HasWritten (λ v. Some v.items) c.rows.writer (before ++ rows_text rows)) all
    (c.rows.invariant before written)
