-- The lines of the tree, and then those of the chunks.
use Rattle.std.proofs.Common.{◌++◌, ◌∙◌, ap, None}
use Rattle.leak_report.specs.Report.{lines_text}
use Rattle.leak_report.proofs.ReadReportLemmas.{lines_text-tree_lines_of}
use Rattle.leak_report.proofs.judge.print.text_of.Goals as goal

pub returns : goal.returns
returns c =
    let lines = c.in_ok-add_lines.ensures ∙ ap (λ xs. xs ++ lines_text c.args.allocators.now 0 None) c.new-text.ensures.items ∙ lines_text-tree_lines_of c.args.allocators.now 0 None in
    let chunks = c.as_bytes.ensures.value ∙ c.in_ok-chunks.ensures in
    c.in_ok-extend_from_slice.ensures.items ∙ (λ i. lines i ++ chunks i)
