use Rattle.std.proofs.Common.{◌∙◌, sym}
use Rattle.leak_report.specs.Report.{report_of}
use Rattle.leak_report.proofs.LawfulReportLemmas.{IsLawful-report_of, report_text-printed}
use Rattle.leak_report.proofs.ReadReportLemmas.{same_report}
use Rattle.leak_report.proofs.laws.text_determines_its_report.Goals as goal

pub returns-clause-reports : goal.returns-clause-reports
returns-clause-reports c = same_report

pub returns-clause-trees : goal.returns-clause-trees
returns-clause-trees c names others peaks highs state other lawful lawful' printable printable' e =
    same_report (report_of names peaks state) (report_of others highs other)
    (IsLawful-report_of names peaks state lawful printable) (IsLawful-report_of others highs other lawful' printable')
    (sym (report_text-printed names peaks state lawful.tree) ∙ e ∙ report_text-printed others highs other lawful'.tree)
