use Rattle.std.proofs.Common.{rules}
use Rattle.arrowmem.proofs.StepLemmas.{lawful_rows, row_unreadable, rows_answer}
use Rattle.arrowmem.proofs.query.query_bytes.Goals as goal

pub returns-in-Ok-clause-answers : goal.returns-in-Ok-clause-answers
returns-in-Ok-clause-answers g c = rows_answer c.args.plan.now _ _ _ _ _
    (rw (c.as_slice.ensures, c.deref.ensures.value) at c.in-Ok.ensures.read) c.query_rows.ensures.answers

pub returns-in-Ok-clause-lawful : goal.returns-in-Ok-clause-lawful
returns-in-Ok-clause-lawful g c =
    lawful_rows c.args.plan.now _ c.in-Ok.rows.rows _ (rw (c.as_slice.ensures, c.deref.ensures.value) at c.in-Ok.ensures.read)
    (λ one other. c.bytes_have_one_reading.ensures.one_table _ _ one other)
    c.query_rows.ensures.lawful

pub returns-in_ok-say_place-in-Err-Bad-clause-answers : goal.returns-in_ok-say_place-in-Err-Bad-clause-answers
returns-in_ok-say_place-in-Err-Bad-clause-answers g c =
    row_unreadable c.args.plan.now _ _ _ _ c.in-Err-Bad.row c.requires.empty
    (rw (c.as_slice.ensures, c.deref.ensures.value) at (c.read_rows-read.ensures.bad c.in-Err-Bad.row (search rules)))
    c.in_ok-say_place-in-Err-Bad.ensures
