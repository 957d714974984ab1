use Rattle.script.specs.declared.form.Form.TheVariants.{Trace}
use Rattle.script.proofs.ReportLemmas.{report_lawful, report_printed}
use Rattle.script.proofs.laws.reports_of_a_trace_are_lawful.Goals as goal

pub returns-clause-lawful : goal.returns-clause-lawful
returns-clause-lawful c = report_lawful Trace

pub returns-clause-printed : goal.returns-clause-printed
returns-clause-printed c = report_printed
