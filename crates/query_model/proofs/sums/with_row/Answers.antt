-- A row of the key adds its number, and another row adds none.
use Rattle.std.proofs.Common.{ap, sym, ◌∙◌, ◌++◌}
use Rattle.std.specs.Option.{option_to_list}
use Rattle.query_model.specs.Answer.{number_of, numbers_at, rows_with_key, sum_cell}
use Rattle.query_model.proofs.ProgramLemmas.{numbers-with}
use Rattle.query_model.proofs.sums.with_row.Goals as goal

pub returns-in_ok-sum : goal.returns-in_ok-sum
returns-in_ok-sum c = λ rows was.
    let numbers = numbers_at c.args.column (rows_with_key c.args.key_column c.args.key.now rows) in
    c.in_ok-sum.ensures numbers was
    ∙ ap (λ number. sum_cell (numbers ++ option_to_list number)) (c.number.ensures.value ∙ ap number_of c.in_ok-cell_at.ensures.value)
    ∙ ap sum_cell (sym (numbers-with c.args.key_column c.args.column c.args.key.now rows c.args.row.now
    (sym c.if-branch.true ∙ c.in_ok-has_key.ensures)))
