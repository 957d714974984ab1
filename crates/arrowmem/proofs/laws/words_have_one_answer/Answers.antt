use Rattle.arrowmem.proofs.AnswerLemmas.{one_answer}
use Rattle.arrowmem.proofs.laws.words_have_one_answer.Goals as goal

pub returns : goal.returns
returns c =
    let tables = c.bytes_have_one_reading.ensures in
    one_answer c.texts_have_one_reading.ensures c.bytes_are_one_plan.ensures
    (record { table = tables.one_table; row = tables.one_bad_row; apart = tables.never_both })
