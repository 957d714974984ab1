-- The first is a child of this parent or not.
use Rattle.std.proofs.Common.{◌∙◌, sym}
use Rattle.leak_report.proofs.ReadReportLemmas.{child_joined, other_joined}
use Rattle.leak_report.proofs.judge.print.+add_lines.Goals as goal

pub returns-then-not-is_child : goal.returns-then-not-is_child
returns-then-not-is_child t c =
    other_joined c.args.allocators.now c.first-item.result c.args.depth c.args.parent c.args.text.now.items _ c.first-item.is c.in-len1-up.len_at_least
    (sym c.if-not-is_child.true ∙ c.is_child.ensures) c.in_ok-add_lines.ensures

pub returns : goal.returns
returns t c =
    child_joined c.args.allocators.now c.first-item.result c.args.depth c.args.parent c.number.result c.args.text.now.items _ _ _ c.first-item.is c.in-len1-up.len_at_least
    (sym c.if-not-is_child.false ∙ c.is_child.ensures) c.number.ensures c.in_ok-add_line.ensures c.in_ok-add_lines-2.ensures c.in_ok-add_lines-3.ensures
