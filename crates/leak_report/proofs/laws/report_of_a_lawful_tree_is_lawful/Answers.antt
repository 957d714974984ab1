use Rattle.leak_report.proofs.LawfulReportLemmas.{report_text-printed, IsLawful-report_of, IsLawfulReport-report_text}
use Rattle.leak_report.proofs.laws.report_of_a_lawful_tree_is_lawful.Goals as goal

pub returns-clause-printed : goal.returns-clause-printed
returns-clause-printed c = report_text-printed

pub returns-clause-report : goal.returns-clause-report
returns-clause-report c = IsLawful-report_of

pub returns-clause-lawful : goal.returns-clause-lawful
returns-clause-lawful c = IsLawfulReport-report_text
