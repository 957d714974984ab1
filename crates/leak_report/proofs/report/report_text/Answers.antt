-- The text is the report of a lawful tree, whose names are names and whose numbers fit.
use Rattle.std.proofs.Common.{◌++◌, ◌∙◌, map, ap, arith, sym, subst}
use Rattle.mem_model.specs.MeasuredTree.{peak_at}
use Rattle.leak_report.specs.LawfulReport.{IsLawfulReport}
use Rattle.leak_report.specs.ReportText.{chunks_text}
use Rattle.leak_report.specs.TreeText.{placed_text}
use Rattle.leak_report.proofs.LawfulReportLemmas.{IsLawfulReport-report_text}
use Rattle.leak_report.proofs.report.report_text.Goals as goal

pub returns-in-Ok-add_chunks-clause-text : goal.returns-in-Ok-add_chunks-clause-text
returns-in-Ok-add_chunks-clause-text c =
    let tree = c.args.tree.now in
    let names = map (λ n. n.bindings) c.args.names.now in
    c.in-Ok-add_chunks.ensures.text ∙ ap (λ xs. xs ++ chunks_text tree.state.chunks) (c.in-Ok-placed_text.ensures ∙ ap (placed_text names) (c.deref.ensures.value ∙ c.in-Ok.ensures.nodes))

pub returns-in-Ok-add_chunks-clause-lawful : goal.returns-in-Ok-add_chunks-clause-lawful
returns-in-Ok-add_chunks-clause-lawful c =
    let tree = c.args.tree.now in
    let names = map (λ n. n.bindings) c.args.names.now in
    subst IsLawfulReport (sym (c.in-Ok-add_chunks.ensures.text ∙ ap (λ xs. xs ++ chunks_text tree.state.chunks) (c.in-Ok-placed_text.ensures ∙ ap (placed_text names) (c.deref.ensures.value ∙ c.in-Ok.ensures.nodes))))
    (IsLawfulReport-report_text names (peak_at tree) tree.state c.placed_nodes.ensures.lawful (record {
      well_formed = c.are_names.ensures;
      drawn = omega (arith, c.drawn-drawn.ensures, c.drawn-drawn.type_inv);
      peaks_fit = c.in-Ok.ensures.peaks;
      references_fit = c.in-Ok-add_chunks.ensures.references;
    }))
