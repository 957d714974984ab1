-- The pieces of the line come one behind the other.
use Rattle.std.proofs.Common.{◌++◌, ◌∙◌, ap}
use Rattle.leak_report.proofs.ReadReportLemmas.{line_joined}
use Rattle.leak_report.proofs.judge.print.add_line.Goals as goal

pub returns : goal.returns
returns c =
    line_joined c.args.depth c.args.printed.now c.args.text.now.items _ _ _ _
    (c.in_ok-extend_from_slice.ensures.items ∙ ap (λ xs. c.args.text.now.items ++ xs) (c.as_bytes.ensures.value ∙ c.in_ok-indent.ensures.bytes))
    (c.in_ok-extend_from_slice-2.ensures.items ∙ ap (λ xs. c.extend_from_slice.new.self.items ++ xs) (c.as_bytes-2.ensures.value ∙ c.in_ok-head.ensures))
    (c.in_ok-extend_from_slice-3.ensures.items ∙ ap (λ xs. c.extend_from_slice-2.new.self.items ++ xs) c.name.ensures)
    (c.in_ok-extend_from_slice-4.ensures.items ∙ ap (λ xs. c.extend_from_slice-3.new.self.items ++ xs) (c.as_bytes-3.ensures.value ∙ c.in_ok-tail.ensures))
