-- The rows so far are written.
use Rattle.std.proofs.Common.{List, ℕ, ◌++◌, Some, take}
use Rattle.row_text.specs.Answer.{rows_text}
use Rattle.row_text.specs.Written.{HasWritten}
use Rattle.row_text.proofs.answer.write_rows.Given as goal

abbrev pub invariant-rows : goal.invariant-rows
invariant-rows l = (before : List ℕ) → HasWritten (λ v. Some v.items) l.fn.writer before
    → HasWritten (λ v. Some v.items) l.writer (before ++ rows_text (take l.row l.rows.rows))
