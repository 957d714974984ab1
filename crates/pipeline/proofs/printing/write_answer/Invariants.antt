-- The text so far.
use Rattle.std.proofs.Common.{◌≡◌, ◌++◌, take}
use Rattle.operators.specs.Groups.{rows_in_all}
use Rattle.row_text.specs.Answer.{table_text}
use Rattle.pipeline.specs.Query.{header_of}
use Rattle.pipeline.proofs.printing.write_answer.Given as goal

abbrev pub invariant-batches : goal.invariant-batches
invariant-batches l =
    l.out.items ≡ l.fn.out.items ++ table_text (header_of l.plan) (rows_in_all (take l.batch-index l.batches))
